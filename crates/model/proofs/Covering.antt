-- The longest front part whose need an allowance covers, over any need, and what a search with such an answer leaves: demand 3's sentences of 'done' and
-- 'spent', for the shortlist by count (`top_k/proofs/Demand3/Promises`) and for the weighted one (`Weighted/Demand`).
use Prim.Native.Nat.{ℕ, zero, suc, ◌*◌, ◌≤◌, ◌<◌}
use native.Mathlib.Omega.{arith}
use native.Mathlib.Nat.{le_refl}
use mathlib.Core.Path.{◌≡◌, refl, sym, ap, ◌∙◌, subst}
use mathlib.Core.Logic.{◌⊎◌, inl, inr}
use mathlib.Core.List.{List, []}
use mathlib.Core.Bool.{Bool, true, false, cond}
use lib.ListN.{length, take, replicate}
use lib.Seq.{length-take-le}
use lib.Dec.{leb}
use borrow.Author.Tests.{leb-false, leb-true, le-leb, lt-leb}
use Rattle.bits.proofs.Tests.{look, le_or_lt}
use Rattle.model.specs.Lists.{overwrite}
use Rattle.model.specs.Outcome.{answered}
use Rattle.model.specs.Queries.{Pair}
use Rattle.model.specs.TopK.{covered_by, answer_by, Answer, done, spent, Ended, done_with, spent_with, ended_of, pairs_of, found_of, found_into, SearchResult}
use Rattle.model.specs.Demand3.{is_done, figure}
use Rattle.model.proofs.Greedy.Answers.{figure_of}

-- ---- the longest front part

-- of the front parts of ps with at most m pairs this one, the first `size`, is the longest whose need the allowance covers
pub record Longest (need : List Pair → ℕ) (allowance : ℕ) (ps : List Pair) (m : ℕ) (front : List Pair) : Type 0 where
  pub size : ℕ
  pub within : size ≤ m
  pub is : front ≡ take size ps
  pub covers : need (take size ps) ≤ allowance
  pub longest : (n : ℕ) → size < n → n ≤ m → allowance < need (take n ps)

module _ (need : List Pair → ℕ) (none : need [] ≡ 0) (allowance : ℕ) (ps : List Pair) where
  pub longest_covered : (m : ℕ) → Longest need allowance ps m (covered_by need allowance ps m)
  longest_covered zero = record { size = 0; within = omega arith; is = refl; covers = omega (arith, none); longest = λ n a b. absurd (omega arith) }
  longest_covered (suc m) = go (look (leb cost allowance)) (longest_covered m)
    where
      cost : ℕ
      cost = need (take (suc m) ps)

      shorter : List Pair
      shorter = covered_by need allowance ps m

      go : (leb cost allowance ≡ true) ⊎ (leb cost allowance ≡ false) → Longest need allowance ps m shorter
          → Longest need allowance ps (suc m) (cond (leb cost allowance) (take (suc m) ps) shorter)
      go (inl e) L = record {
        size = suc m;
        within = le_refl (suc m);
        is = ap (λ (b : Bool). cond b (take (suc m) ps) shorter) e;
        covers = leb-true cost allowance e;
        longest = λ n a b. absurd (omega arith);
      }
      go (inr e) L = record {
        size = L.size;
        within = let w = L.within in omega arith;
        is = ap (λ (b : Bool). cond b (take (suc m) ps) shorter) e ∙ L.is;
        covers = L.covers;
        longest = λ n a b. next n a b (le_or_lt n m);
      }
        where
          next : (n : ℕ) → L.size < n → n ≤ suc m → (n ≤ m) ⊎ (m < n) → allowance < need (take n ps)
          next n a b (inl l) = L.longest n a l
          next n a b (inr l) =
              let q : n ≡ suc m = omega arith in
              subst (λ (j : ℕ). allowance < need (take j ps)) (sym q) (leb-false cost allowance e)

  -- of all front parts
  abbrev pub longest_front : Longest need allowance ps (length ps) (covered_by need allowance ps (length ps))
  longest_front = longest_covered (length ps)

-- ---- what a search leaves

figure-ended : (a : Answer) → figure (answered (ended_of a)) ≡ figure_of a
figure-ended (done ps openings) = refl
figure-ended (spent ps allowance) = refl

-- of a library with N documents, where the slices `out` and `work` were lent, however its pairs are written
module _ (write : List Pair → List ℕ) (need : List Pair → ℕ) (none : need [] ≡ 0) (allowance : ℕ) (full : List Pair) (N : ℕ) (out work : List ℕ)
    (r : SearchResult Ended) (promise : r ≡ found_into out work (answered (found_of write N (answer_by need allowance full)))) where
  abbrev answer : Answer
  answer = answer_by need allowance full

  abbrev front : List Pair
  front = covered_by need allowance full (length full)

  abbrev L : Longest need allowance full (length full) front
  L = longest_front need none allowance full

  outcome : r.outcome ≡ answered (ended_of answer)
  outcome = ap (λ (y : SearchResult Ended). y.outcome) promise

  -- the outcome and the answer slice, by the answer
  left : (a : Answer) → answer ≡ a → (r.outcome ≡ answered (ended_of a)) × (r.answers ≡ overwrite (write (pairs_of a)) out)
  left a e = (
    outcome ∙ ap (λ (b : Answer). answered (ended_of b)) e,
    ap (λ (y : SearchResult Ended). y.answers) promise ∙ ap (λ (b : Answer). overwrite (write (pairs_of b)) out) e,
  )

  -- 'done' exactly when the allowance covers the need of the full list
  pub done_exactly : is_done r.outcome ≡ leb (need full) allowance
  done_exactly = ap is_done outcome ∙ go (leb (need full) allowance)
    where
      go : (b : Bool) → is_done (answered (ended_of (cond b (done full (need full)) (spent front allowance)))) ≡ b
      go true = refl
      go false = refl

  -- with the full list and its need
  pub left_done : need full ≤ allowance → (r.outcome ≡ answered (done_with (length full) (need full))) × (r.answers ≡ overwrite (write full) out)
  left_done l = left (done full (need full)) (rw (le-leb (need full) allowance l))

  -- otherwise 'spent' with the allowance and the longest front part whose need it covers
  pub left_spent : allowance < need full
      → (r.outcome ≡ answered (spent_with L.size allowance)) × (r.answers ≡ overwrite (write (take L.size full)) out)
  left_spent l =
      let (o, a) = left (spent front allowance) (rw (lt-leb (need full) allowance l)) in
      let size : length front ≡ L.size = ap length L.is ∙ length-take-le L.size full L.within in
      (o ∙ ap (λ (n : ℕ). answered (spent_with n allowance)) size, a ∙ ap (λ (ps : List Pair). overwrite (write ps) out) L.is)

  -- the number, the openings or the allowance, is the answer's
  pub left-figure : figure r.outcome ≡ figure_of answer
  left-figure = ap figure outcome ∙ figure-ended answer

  -- the first 4 * N numbers of the work slice are 0, and the rest is untouched
  pub left_work : r.work ≡ overwrite (replicate (4 * N) 0) work
  left_work = ap (λ (y : SearchResult Ended). y.work) promise

-- Laws of answers: what `answer_of` reads off moves, which needs give the same `answer_by`, and what a larger allowance does.
use Prim.Native.Nat.{ℕ, zero, suc, ◌≤◌}
use native.Mathlib.Omega.{arith}
use native.Mathlib.Nat.{le_refl}
use mathlib.Core.Path.{◌≡◌, refl, sym, ap, ◌∙◌}
use mathlib.Core.Logic.{◌⊎◌, inl, inr}
use mathlib.Core.List.{List}
use mathlib.Core.Bool.{Bool, true, false, not, cond}
use lib.ListN.{length, take, length-take}
use lib.Seq.{take-length}
use lib.Dec.{leb}
use borrow.Author.Tests.{leb-true, le-leb}
use Rattle.bits.specs.Sequences.{tally}
use Rattle.bits.proofs.Tests.{look}
use Rattle.model.specs.Lists.{any}
use Rattle.model.specs.Queries.{Pair}
use Rattle.model.specs.TopK.{Answer, done, spent, pairs_of}
use Rattle.model.specs.Search.{Move, is_opening, is_spent, named_in, answer_of}
use Rattle.model.proofs.Greedy.Abstract.{covered_by, answer_by}

-- ---- answers read off moves

-- the openings figure of an answer
abbrev pub figure_of : Answer → ℕ
figure_of (done ps openings) = openings
figure_of (spent ps openings) = openings

abbrev pub is_done : Answer → Bool
is_done (done ps openings) = true
is_done (spent ps openings) = false

pub figure-answer : (ms : List Move) → figure_of (answer_of ms) ≡ tally is_opening ms
figure-answer ms = go (any is_spent ms)
  where
    go : (b : Bool) → figure_of (cond b (spent (named_in ms) (tally is_opening ms)) (done (named_in ms) (tally is_opening ms))) ≡ tally is_opening ms
    go true = refl
    go false = refl

pub pairs-answer : (ms : List Move) → pairs_of (answer_of ms) ≡ named_in ms
pairs-answer ms = go (any is_spent ms)
  where
    go : (b : Bool) → pairs_of (cond b (spent (named_in ms) (tally is_opening ms)) (done (named_in ms) (tally is_opening ms))) ≡ named_in ms
    go true = refl
    go false = refl

pub done_answer : (ms : List Move) → is_done (answer_of ms) ≡ not (any is_spent ms)
done_answer ms = go (any is_spent ms)
  where
    go : (b : Bool) → is_done (cond b (spent (named_in ms) (tally is_opening ms)) (done (named_in ms) (tally is_opening ms))) ≡ not b
    go true = refl
    go false = refl

-- ---- answers by a need

-- needs that agree on the front parts
pub answer_by_same : (f g : List Pair → ℕ) (allowance : ℕ) (ps : List Pair) → ((m : ℕ) → m ≤ length ps → f (take m ps) ≡ g (take m ps))
    → answer_by f allowance ps ≡ answer_by g allowance ps
answer_by_same f g allowance ps e =
    let whole : f ps ≡ g ps = ap f (sym (take-length ps)) ∙ e (length ps) (le_refl (length ps)) ∙ ap g (take-length ps) in
    rw (whole, covered (length ps) (le_refl (length ps)))
  where
    covered : (m : ℕ) → m ≤ length ps → covered_by f allowance ps m ≡ covered_by g allowance ps m
    covered zero l = refl
    covered (suc m) l = rw (e (suc m) l, covered m (omega arith))

module _ (need : List Pair → ℕ) (ps : List Pair) where
  pub covered_le : (a m : ℕ) → length (covered_by need a ps m) ≤ length (take m ps)
  covered_le a zero = omega arith
  covered_le a (suc m) = go (leb (need (take (suc m) ps)) a) (covered_le a m)
    where
      go : (b : Bool) → length (covered_by need a ps m) ≤ length (take m ps)
          → length (cond b (take (suc m) ps) (covered_by need a ps m)) ≤ length (take (suc m) ps)
      go true i = le_refl (length (take (suc m) ps))
      go false i = omega (arith, length-take m ps, length-take (suc m) ps)

  covered_mono : (a b : ℕ) → a ≤ b → (m : ℕ) → length (covered_by need a ps m) ≤ length (covered_by need b ps m)
  covered_mono a b l zero = omega arith
  covered_mono a b l (suc m) = go (look (leb (need (take (suc m) ps)) a)) (look (leb (need (take (suc m) ps)) b)) (covered_mono a b l m)
    where
      n : ℕ
      n = need (take (suc m) ps)

      go : (leb n a ≡ true) ⊎ (leb n a ≡ false) → (leb n b ≡ true) ⊎ (leb n b ≡ false)
          → length (covered_by need a ps m) ≤ length (covered_by need b ps m)
          → length (cond (leb n a) (take (suc m) ps) (covered_by need a ps m)) ≤ length (cond (leb n b) (take (suc m) ps) (covered_by need b ps m))
      go (inl e) d i = let u = leb-true n a e in rw (e, le-leb n b (omega arith)) (le_refl (length (take (suc m) ps)))
      go (inr e) (inl d) i = rw (e, d) (omega (arith, covered_le a m, length-take m ps, length-take (suc m) ps))
      go (inr e) (inr d) i = rw (e, d) i

  -- a larger allowance never shortens the list
  pub answer_by_mono : (a b : ℕ) → a ≤ b → length (pairs_of (answer_by need a ps)) ≤ length (pairs_of (answer_by need b ps))
  answer_by_mono a b l = go (look (leb (need ps) a)) (look (leb (need ps) b))
    where
      go : (leb (need ps) a ≡ true) ⊎ (leb (need ps) a ≡ false) → (leb (need ps) b ≡ true) ⊎ (leb (need ps) b ≡ false)
          → length (pairs_of (answer_by need a ps)) ≤ length (pairs_of (answer_by need b ps))
      go (inl e) d = let u = leb-true (need ps) a e in rw (e, le-leb (need ps) b (omega arith)) (le_refl (length ps))
      go (inr e) (inl d) = rw (e, d) (omega (arith, covered_le a (length ps), ap length (take-length ps)))
      go (inr e) (inr d) = rw (e, d) (covered_mono a b l (length ps))

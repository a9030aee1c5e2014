-- The count of entries: it adds up from the halves of a node, and the abstract answer for it is `top_k`.
use Prim.Native.Nat.{ℕ, zero, suc, ◌+◌, ◌*◌, ◌/◌, ◌^◌, ◌≤◌}
use native.Mathlib.Omega.{arith}
use native.Mathlib.Nat.{pow-suc, div-div-eq-div-mul, div-one, div-eq_of_lt}
use mathlib.Core.Path.{◌≡◌, refl, sym, ap, ap₂, ◌∙◌, fun_ext}
use mathlib.Core.Logic.{◌⊎◌, inl, inr}
use mathlib.Core.List.{List, [], ◌∷◌, map}
use mathlib.Core.Bool.{Bool, true, false, not, cond, ◌&&◌, ◌||◌}
use lib.ListN.{length, take}
use lib.Dec.{ltb, leb, eqb}
use borrow.Author.Tests.{ltb-true, ltb-false, lt-ltb, le-ltb, eqb-true, eqb-false, eq-eqb, ne_eqb}
use Rattle.bits.specs.Sequences.{bit, below, occurrences}
use Rattle.bits.proofs.Tests.{look, eqb_swap}
use Rattle.bits.proofs.Tally.{tally_same, tally-sum, tally_none}
use Rattle.model.specs.Lists.{keep, Within, Every}
use Rattle.model.specs.Queries.{Pair, pair_of, present, listing}
use Rattle.model.specs.TopK.{Node, node, count_in, inner_nodes, ranking, full_list, needed, need_of, last, need, covered, done, spent, top_k}
use Rattle.model.specs.Search.{Waiting, begin, occupied, wait}
use Rattle.model.proofs.Lists.{keep-map, tally-keep, tally_within}
use Rattle.model.proofs.Sorting.{every_take}
use Rattle.model.proofs.Ranking.{ranking_same, every_last}
use Rattle.model.proofs.Greedy.Abstract.{Counted, counted-of-sum, need_by, covered_by, answer_by, ranking_of, needed_for, need_for, top_k_of}
use Rattle.model.proofs.Greedy.Answers.{answer_by_same}

-- ---- counts

-- the number w lies in the block q of twice the width: in its lower or its upper half
bit-halves : (w q : ℕ) → bit (eqb (w / 2) q) ≡ bit (eqb w (2 * q)) + bit (eqb w (2 * q + 1))
bit-halves w q = go (look (eqb (w / 2) q)) (look (eqb w (2 * q)))
  where
    go : (eqb (w / 2) q ≡ true) ⊎ (eqb (w / 2) q ≡ false) → (eqb w (2 * q) ≡ true) ⊎ (eqb w (2 * q) ≡ false)
        → bit (eqb (w / 2) q) ≡ bit (eqb w (2 * q)) + bit (eqb w (2 * q + 1))
    go (inl e) (inl f) = let g = eqb-true w (2 * q) f in rw (e, f, ne_eqb w (2 * q + 1) (omega arith))
    go (inl e) (inr f) = let g = eqb-false w (2 * q) f in let k = eqb-true (w / 2) q e in rw (e, f, eq-eqb w (2 * q + 1) (omega arith))
    go (inr e) d = let k = eqb-false (w / 2) q e in rw (e, ne_eqb w (2 * q) (omega arith), ne_eqb w (2 * q + 1) (omega arith))

pub count-halves : (xs : List ℕ) (l q : ℕ) → count_in xs (node (suc l) q) ≡ count_in xs (node l (2 * q)) + count_in xs (node l (2 * q + 1))
count-halves xs l q =
    tally-sum (λ v. eqb (v / 2 ^ suc l) q) (λ v. eqb (v / 2 ^ l) (2 * q)) (λ v. eqb (v / 2 ^ l) (2 * q + 1))
    (λ v.
    let e : v / 2 ^ suc l ≡ v / 2 ^ l / 2 = rw (pow-suc 2 l) (sym (div-div-eq-div-mul v (2 ^ l) 2)) in
    rw e (bit-halves (v / 2 ^ l) q)) xs

pub count_leaf : (xs : List ℕ) (d : ℕ) → count_in xs (node zero d) ≡ occurrences d xs
count_leaf xs d =
    tally_same (λ v. eqb (v / 2 ^ 0) d) (eqb d) (λ v. ap (λ (w : ℕ). eqb w d) (div-one v) ∙ eqb_swap v d) xs

pub occupied-halves : (xs : List ℕ) (l q : ℕ)
    → occupied xs (node (suc l) q) ≡ (occupied xs (node l (2 * q)) || occupied xs (node l (2 * q + 1)))
occupied-halves xs l q = go (look (occupied xs (node l (2 * q)))) (look (occupied xs (node l (2 * q + 1))))
  where
    a : ℕ
    a = count_in xs (node l (2 * q))

    b : ℕ
    b = count_in xs (node l (2 * q + 1))

    go : (ltb 0 a ≡ true) ⊎ (ltb 0 a ≡ false) → (ltb 0 b ≡ true) ⊎ (ltb 0 b ≡ false) → occupied xs (node (suc l) q) ≡ (ltb 0 a || ltb 0 b)
    go (inl e) d = let p = ltb-true 0 a e in rw e (lt-ltb 0 (count_in xs (node (suc l) q)) (omega (arith, count-halves xs l q)))
    go (inr e) (inl f) = let p = ltb-true 0 b f in rw (e, f) (lt-ltb 0 (count_in xs (node (suc l) q)) (omega (arith, count-halves xs l q)))
    go (inr e) (inr f) =
        let p = ltb-false 0 a e in
        let r = ltb-false 0 b f in
        rw (e, f) (le-ltb 0 (count_in xs (node (suc l) q)) (omega (arith, count-halves xs l q)))

pub counted : (xs : List ℕ) → Counted (count_in xs) (occupied xs)
counted xs = counted-of-sum (count_in xs) (occupied xs) (count-halves xs) (occupied-halves xs)

-- numbers from N up do not occur
pub outside : (N : ℕ) (xs : List ℕ) → Within N xs → (d : ℕ) → N ≤ d → occupied xs (node zero d) ≡ false
outside N xs w d l = le-ltb 0 (count_in xs (node zero d)) (omega (arith, count_leaf xs d, absent xs w))
  where
    absent : (ys : List ℕ) → Within N ys → occurrences d ys ≡ 0
    absent [] v = refl
    absent (y ∷ ys) v = let u = v.0 in rw (ne_eqb d y (omega arith), absent ys v.1)

-- the root waits with the size of the range
pub begin-root : (h : ℕ) (xs : List ℕ) → Within (2 ^ h) xs → begin h xs ≡ wait (count_in xs) (occupied xs) (node h 0) []
begin-root h xs w =
    ap (λ (n : ℕ). cond (ltb 0 n) (top n ∷ []) [])
    (sym (tally_within (λ v. eqb (v / 2 ^ h) 0) (2 ^ h) (λ v l. eq-eqb (v / 2 ^ h) 0 (div-eq_of_lt l)) xs w))
  where
    top : ℕ → Waiting
    top n = record { block = node h 0; count = n }

-- ---- the abstract answer

module _ (xs : List ℕ) where
  ranking_of-ranking : (N : ℕ) → ranking_of (count_in xs) (occupied xs) N ≡ ranking (listing N xs)
  ranking_of-ranking N =
      ap ranking
      (ap₂ (λ (f : ℕ → Pair) (p : ℕ → Bool). map f (keep p (below N)))
      (fun_ext (λ d. ap (λ (c : ℕ). record { document = d; count = c }) (count_leaf xs d))) (fun_ext (λ d. ap (ltb 0) (count_leaf xs d)))
      ∙ sym (keep-map present (pair_of xs) (below N)))

  -- of the nodes whose count is not below that of a present pair all live
  need_for-need_of : (h : ℕ) (p : Pair) → present p ≡ true → need_for (count_in xs) (occupied xs) h p ≡ need_of h xs p
  need_for-need_of h p e = tally_same (needed_for (count_in xs) (occupied xs) p) (needed xs p) (λ n. go n (look (occupied xs n))) (inner_nodes h)
    where
      go : (n : Node) → (occupied xs n ≡ true) ⊎ (occupied xs n ≡ false) → (occupied xs n && needed xs p n) ≡ needed xs p n
      go n (inl f) = rw f
      go n (inr f) =
          let c = ltb-true 0 p.count e in
          let z = ltb-false 0 (count_in xs n) f in
          rw (f, le-ltb p.count (count_in xs n) (omega arith), ne_eqb (count_in xs n) p.count (omega arith))

  need-present : (h : ℕ) (ps : List Pair) → Every present ps → need_by (need_for (count_in xs) (occupied xs) h) ps ≡ need h xs ps
  need-present h [] a = refl
  need-present h (p ∷ ps) a = need_for-need_of h (last p ps) (every_last present p ps a)

  every_present : (N k : ℕ) → Every present (full_list N k xs)
  every_present N k =
      every_take present k (ranking (listing N xs))
      (ranking_same (listing N xs) (λ p. not (present p))
      ∙ tally-keep (λ p. not (present p)) present (map (pair_of xs) (below N))
      ∙ tally_none (λ p. present p && not (present p)) (λ p. and_not (present p)) (map (pair_of xs) (below N)))
    where
      and_not : (b : Bool) → (b && not b) ≡ false
      and_not true = refl
      and_not false = refl

  pub covered-covered_by : (h allowance : ℕ) (ps : List Pair) (m : ℕ) → covered h xs allowance ps m ≡ covered_by (need h xs) allowance ps m
  covered-covered_by h allowance ps zero = refl
  covered-covered_by h allowance ps (suc m) =
      ap (λ (r : List Pair). cond (leb (need h xs (take (suc m) ps)) allowance) (take (suc m) ps) r) (covered-covered_by h allowance ps m)

  pub top_k-answer_by : (h N k allowance : ℕ) → top_k h N xs k allowance ≡ answer_by (need h xs) allowance (full_list N k xs)
  top_k-answer_by h N k allowance =
      let full = full_list N k xs in
      ap (λ (r : List Pair). cond (leb (need h xs full) allowance) (done full (need h xs full)) (spent r allowance))
      (covered-covered_by h allowance full (length full))

  pub top_k_of-top_k : (h N k allowance : ℕ) → top_k_of (count_in xs) (occupied xs) h N k allowance ≡ top_k h N xs k allowance
  top_k_of-top_k h N k allowance =
      ap (λ (r : List Pair). answer_by (need_by (need_for (count_in xs) (occupied xs) h)) allowance (take k r)) (ranking_of-ranking N)
      ∙ answer_by_same (need_by (need_for (count_in xs) (occupied xs) h)) (need h xs) allowance (full_list N k xs)
      (λ m l. need-present h (take m (full_list N k xs)) (every_take present m (full_list N k xs) (every_present N k)))
      ∙ sym (top_k-answer_by h N k allowance)

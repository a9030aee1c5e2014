-- Every score, and so every answer of a weighted search, stays what M-100 and M-101 make it (document 02, M-107): a sum does not depend on the order of its
-- terms.
use Prim.Native.Nat.{ℕ, ◌+◌, ◌*◌}
use native.Mathlib.Omega.{arith}
use mathlib.Core.Path.{◌≡◌, refl, sym, ap, ◌∙◌}
use mathlib.Core.List.{List, [], ◌∷◌, map, map-map}
use mathlib.Core.Bool.{Bool, true, false, cond, ◌&&◌, ◌||◌}
use lib.ListN.{take}
use lib.Dec.{leb, ltb, eqb}
use Rattle.bits.specs.Sequences.{tally, below, occurrences}
use Rattle.bits.specs.Bits.{sum}
use Rattle.model.specs.Lists.{keep, any, insert_by, sort_by}
use Rattle.model.specs.Distinct.{distinct}
use Rattle.model.specs.Rows.{height}
use Rattle.model.specs.Format.{Library}
use Rattle.model.specs.Queries.{Pair, flat}
use Rattle.model.specs.TopK.{Node, start, count_in, inner_nodes, ranking, need_by, answer_by, found_of}
use Rattle.model.specs.RarestFirst.{rarer, rarest_first}
use Rattle.model.specs.Weighted.{Weighed, weighed_term, weighed, score_of, is_found, score_in, lives_in, weighted_top_k, weighted_found}
use Rattle.model.proofs.Any.{any-map}
use Rattle.model.proofs.Sorting.{any_sort}

sum-insert : {A : Type 0} (f : A → ℕ) (t : A → A → Bool) (x : A) (ys : List A) → sum (map f (insert_by t x ys)) ≡ f x + sum (map f ys)
sum-insert f t x [] = refl
sum-insert f t x (y ∷ ys) = go (t x y) (sum-insert f t x ys)
  where
    go : (b : Bool) → sum (map f (insert_by t x ys)) ≡ f x + sum (map f ys)
        → sum (map f (cond b (x ∷ y ∷ ys) (y ∷ insert_by t x ys))) ≡ f x + (f y + sum (map f ys))
    go true i = refl
    go false i = omega arith

pub sum_sort : {A : Type 0} (f : A → ℕ) (t : A → A → Bool) (xs : List A) → sum (map f (sort_by t xs)) ≡ sum (map f xs)
sum_sort f t [] = refl
sum_sort f t (x ∷ xs) = sum-insert f t x (sort_by t xs) ∙ ap (λ (n : ℕ). f x + n) (sum_sort f t xs)

-- a weighted search looks at the terms through these four functions alone
module _ (ws vs : List Weighed) (scores : (d : ℕ) → score_of ws d ≡ score_of vs d) (finds : (d : ℕ) → is_found ws d ≡ is_found vs d)
    (node-scores : (n : Node) → score_in ws n ≡ score_in vs n) (lives : (n : Node) → lives_in ws n ≡ lives_in vs n) where
  pub weighted_same : (h N k allowance : ℕ) → weighted_top_k ws h N k allowance ≡ weighted_top_k vs h N k allowance
  weighted_same h N k allowance i =
      let need : Pair → ℕ
      = λ p. tally (λ n. lives n i && (ltb p.count (node-scores n i) || eqb (node-scores n i) p.count && leb (start n) p.document)) (inner_nodes h) in
      answer_by (need_by need) allowance (take k (ranking (map (λ d. record { document = d; count = scores d i }) (keep (λ d. finds d i) (below N)))))

module _ (lib : Library) (terms : List ℕ) where
  -- by any number that is told of a term, and by any test
  sum-weighed : (f : Weighed → ℕ) → sum (map f (weighed lib (rarest_first lib terms))) ≡ sum (map f (weighed lib (distinct terms)))
  sum-weighed f =
      ap sum (map-map f (weighed_term lib) (rarest_first lib terms)) ∙ sum_sort (λ t. f (weighed_term lib t)) (rarer lib) (distinct terms)
      ∙ sym (ap sum (map-map f (weighed_term lib) (distinct terms)))

  any-weighed : (p : Weighed → Bool) → any p (weighed lib (rarest_first lib terms)) ≡ any p (weighed lib (distinct terms))
  any-weighed p =
      any-map p (weighed_term lib) (rarest_first lib terms) ∙ any_sort (rarer lib) (λ t. p (weighed_term lib t)) (distinct terms)
      ∙ sym (any-map p (weighed_term lib) (distinct terms))

  -- what is found is what M-101 finds
  pub found_stays : (k allowance : ℕ) → weighted_found lib (rarest_first lib terms) k allowance ≡ weighted_found lib (distinct terms) k allowance
  found_stays k allowance =
      ap (found_of flat lib.documents)
      (weighted_same (weighed lib (rarest_first lib terms)) (weighed lib (distinct terms)) (λ d. sum-weighed (λ w. w.weight * occurrences d w.entries))
      (λ d. any-weighed (λ w. ltb 0 (occurrences d w.entries))) (λ n. sum-weighed (λ w. w.weight * count_in w.entries n))
      (λ n. any-weighed (λ w. ltb 0 (count_in w.entries n))) (height lib.documents) lib.documents k allowance)

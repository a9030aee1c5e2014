-- The first k of the documents below N that pass a test, in the order of any count: demand 3's sentences of the full list, for the shortlist by count
-- (`top_k/proofs/Demand3/FullList`) and for the weighted one (`Weighted/Demand`).
use Prim.Native.Nat.{ℕ, ◌≤◌, ◌<◌, min}
use native.Mathlib.Omega.{arith}
use native.Mathlib.Nat.{zero-add}
use mathlib.Core.Path.{◌≡◌, refl, sym, ap, ◌∙◌, subst}
use mathlib.Core.Logic.{◌⊎◌, inl, inr}
use mathlib.Core.List.{List, [], ◌∷◌, ◌++◌, map}
use mathlib.Core.Bool.{Bool, true, false, not, ◌&&◌}
use lib.ListN.{length, get_or, take, drop, length-map, length-take, take-append-drop}
use lib.Dec.{eqb}
use borrow.Author.Tests.{eqb-true, eq-eqb}
use Rattle.bits.specs.Sequences.{bit, tally, below}
use Rattle.bits.proofs.Tests.{look, and_both, both_and, le_or_lt, bit_eq, eqb_swap}
use Rattle.bits.proofs.Tally.{tally-append, tally_le, tally_none, tally-map, tally-take_le, tally-take-drop, length-up_from, get_or-up_from}
use Rattle.model.specs.Lists.{keep, Every, Sorted}
use Rattle.model.specs.Queries.{Pair}
use Rattle.model.specs.TopK.{ahead, ahead_pair, ranking}
use Rattle.model.proofs.Lists.{length-keep, tally-keep, tally-take_lt}
use Rattle.model.proofs.Sorting.{every_head, every_tail, every_cons, every_take, sorted-take, same_length}
use Rattle.model.proofs.Ranking.{ranking-sorted, ranking_same, pair-after, pair_antisymm}
use Rattle.model.proofs.Greedy.Nodes.{up_from-once}

-- ---- lists of pairs

-- two pairs are one
abbrev same_pair : Pair → Pair → Bool
same_pair p q = eqb p.document q.document && eqb p.count q.count

pair_is : (p q : Pair) → same_pair p q ≡ true → p ≡ q
pair_is p q e =
    let t = and_both (eqb p.document q.document) (eqb p.count q.count) e in
    let d = eqb-true p.document q.document t.0 in
    let c = eqb-true p.count q.count t.1 in
    λ i. record { document = d i; count = c i }

-- what holds of all holds of one among them
every_among : (t : Pair → Bool) (p : Pair) (qs : List Pair) → Every t qs → 0 < tally (same_pair p) qs → t p ≡ true
every_among t p [] e l = absurd (omega arith)
every_among t p (q ∷ qs) e l = go (look (same_pair p q)) (λ k. every_among t p qs (every_tail t q qs e) k)
  where
    go : (same_pair p q ≡ true) ⊎ (same_pair p q ≡ false) → (0 < tally (same_pair p) qs → t p ≡ true) → t p ≡ true
    go (inl s) i = ap t (pair_is p q s) ∙ every_head t q qs e
    go (inr s) i = i (omega (arith, ap bit s))

-- the front of a sorted list stands ahead of each pair behind it
front-ahead : (ps qs : List Pair) → Sorted ahead_pair (ps ++ qs) → (q : Pair) → 0 < tally (same_pair q) qs → Every (λ p. ahead_pair p q) ps
front-ahead [] qs s q l = refl
front-ahead (p ∷ ps) qs s q l =
    let e : Every (ahead_pair p) qs = omega (arith, tally-append (λ y. not (ahead_pair p y)) ps qs, s.0) in
    every_cons (λ y. ahead_pair y q) p ps (every_among (ahead_pair p) q qs e l) (front-ahead ps qs s.1 q l)

-- ---- strict order, where documents differ

ahead_strict : (p q : Pair) → ahead_pair p q ≡ true → eqb p.document q.document ≡ false → ahead p q ≡ true
ahead_strict p q a d = go (look (ahead p q))
  where
    go : (ahead p q ≡ true) ⊎ (ahead p q ≡ false) → ahead p q ≡ true
    go (inl e) = e
    go (inr e) =
        let same : p.document ≡ q.document = ap (λ (r : Pair). r.document) (pair_antisymm p q a (pair-after p q e)) in
        absurd (omega (arith, bit_eq p.document q.document same, ap bit d))

every_strict : (t u w : Pair → Bool) → ((p : Pair) → t p ≡ true → u p ≡ false → w p ≡ true) → (ps : List Pair) → Every t ps → tally u ps ≡ 0 → Every w ps
every_strict t u w f [] a b = refl
every_strict t u w f (p ∷ ps) a b =
    every_cons w p ps (go (look (u p))) (every_strict t u w f ps (every_tail t p ps a) (omega arith))
  where
    go : (u p ≡ true) ⊎ (u p ≡ false) → w p ≡ true
    go (inl e) = absurd (omega (arith, ap bit e))
    go (inr e) = f p (every_head t p ps a) e

sorted_strict : (ps : List Pair) → Sorted ahead_pair ps → ((d : ℕ) → tally (λ p. eqb d p.document) ps ≤ 1) → Sorted ahead ps
sorted_strict [] s u = tt
sorted_strict (p ∷ ps) s u = (
  every_strict (ahead_pair p) (λ q. eqb p.document q.document) (ahead p) (λ q. ahead_strict p q) ps s.0
      (omega (arith, u p.document, bit_eq p.document p.document refl)),
  sorted_strict ps s.1 (λ d. omega (arith, u d)),
)

-- ---- the full list

-- a document with its count
abbrev pub pair_by : (ℕ → ℕ) → ℕ → Pair
pair_by count d = record { document = d; count = count d }

module _ (N k : ℕ) (count : ℕ → ℕ) (test : ℕ → Bool) where
  abbrev pub full_by : List Pair
  full_by = take k (ranking (map (pair_by count) (keep test (below N))))

  abbrev passing : List Pair
  passing = map (pair_by count) (keep test (below N))

  tally_ranked : (t : Pair → Bool) → tally t (ranking passing) ≡ tally (λ d. test d && t (pair_by count d)) (below N)
  tally_ranked t =
      ranking_same passing t ∙ tally-map t (pair_by count) (keep test (below N)) ∙ tally-keep (λ d. t (pair_by count d)) test (below N)

  -- what holds of each document that passes holds of each pair listed
  listed-all : (t : Pair → Bool) → ((d : ℕ) → test d ≡ true → t (pair_by count d) ≡ true) → Every t full_by
  listed-all t h =
      every_take t k (ranking passing)
      (tally_ranked (λ p. not (t p)) ∙ tally_none (λ d. test d && not (t (pair_by count d))) (λ d. go d (look (test d))) (below N))
    where
      go : (d : ℕ) → (test d ≡ true) ⊎ (test d ≡ false) → (test d && not (t (pair_by count d))) ≡ false
      go d (inl e) = rw (e, h d e)
      go d (inr e) = rw e

  -- exactly k, or all that pass if there are fewer
  pub exactly_k : length full_by ≡ min k (tally test (below N))
  exactly_k =
      length-take k (ranking passing)
      ∙ ap (min k)
      (same_length (ranking passing) passing (ranking_same passing) ∙ length-map (keep test (below N)) (pair_by count) ∙ length-keep test (below N))

  pub different : (d : ℕ) → tally (λ p. eqb d p.document) full_by ≤ 1
  different d =
      omega (
        arith,
        tally-take_le (λ p. eqb d p.document) k (ranking passing),
        tally_ranked (λ p. eqb d p.document),
        tally_le (λ e. test e && eqb d e) (eqb d) (λ e h. (and_both (test e) (eqb d e) h).1) (below N),
        up_from-once d 0 N,
      )

  pub all_pass : Every (λ p. test p.document) full_by
  all_pass = listed-all (λ p. test p.document) (λ d e. e)

  pub exact_count : Every (λ p. eqb p.count (count p.document)) full_by
  exact_count = listed-all (λ p. eqb p.count (count p.document)) (λ d e. eq-eqb (count d) (count d) refl)

  -- larger counts first, equal ones by lower document
  pub in_order : Sorted ahead full_by
  in_order = sorted_strict full_by (sorted-take ahead_pair k (ranking passing) (ranking-sorted passing)) different

  -- a document that passes is listed, or comes after those listed
  pub others_after : (d : ℕ) → d < N → test d ≡ true → (0 < tally (λ p. eqb d p.document) full_by) ⊎ Every (λ p. ahead p (pair_by count d)) full_by
  others_after d l some = go (le_or_lt 1 (tally here full_by))
    where
      here : Pair → Bool
      here p = eqb d p.document

      same : Pair → Bool
      same = same_pair (pair_by count d)

      is : ℕ → Bool
      is e = test e && same (pair_by count e)

      at : is (get_or (below N) d 0) ≡ true
      at =
          ap is (get_or-up_from 0 N d 0 l ∙ zero-add d)
          ∙ both_and (test d) (same (pair_by count d)) some
          (both_and (eqb d d) (eqb (count d) (count d)) (eq-eqb d d refl) (eq-eqb (count d) (count d) refl))

      behind : tally here full_by < 1 → 0 < tally same (drop k (ranking passing))
      behind none =
          omega (
            arith,
            tally-take-drop same k (ranking passing),
            tally_le same here (λ p e. (and_both (eqb d p.document) (eqb (count d) p.count) e).0) full_by,
            tally_ranked same,
            tally-take_lt is (below N) d 0 (omega (arith, length-up_from 0 N)) at,
          )

      ordered : Sorted ahead_pair (full_by ++ drop k (ranking passing))
      ordered = subst (λ (ps : List Pair). Sorted ahead_pair ps) (sym (take-append-drop k (ranking passing))) (ranking-sorted passing)

      go : (1 ≤ tally here full_by) ⊎ (tally here full_by < 1) → (0 < tally here full_by) ⊎ Every (λ p. ahead p (pair_by count d)) full_by
      go (inl a) = inl a
      go (inr b) =
          inr
          (every_strict (λ p. ahead_pair p (pair_by count d)) here (λ p. ahead p (pair_by count d))
          (λ p t u. ahead_strict p (pair_by count d) t (eqb_swap p.document d ∙ u)) full_by
          (front-ahead full_by (drop k (ranking passing)) ordered (pair_by count d) (behind b)) (omega arith))

-- The candidates are the first k of the documents seen: at the start, after a new document, and where they are the full list.
use Prim.Native.Nat.{ℕ, zero, suc, ◌+◌, ◌≤◌, ◌<◌}
use native.Mathlib.Omega.{arith}
use mathlib.Core.Path.{◌≡◌, refl, sym, ap, ◌∙◌}
use mathlib.Core.Logic.{◌⊎◌, inl, inr}
use mathlib.Core.List.{List, [], ◌∷◌, ◌++◌, map}
use mathlib.Core.Bool.{Bool, true, false, not, ◌&&◌, and-false}
use lib.ListN.{length, get_or, take, length-take, length-map}
use lib.Seq.{take-nil}
use lib.Dec.{ltb, eqb}
use borrow.Author.Tests.{lt-ltb, le-ltb, ltb-true, eqb-true, eqb-false, ne_eqb, eq-eqb}
use Rattle.bits.specs.Sequences.{bit, tally, up_from, below, occurrences}
use Rattle.bits.proofs.Tests.{look}
use Rattle.bits.proofs.Tally.{tally-append, tally-sum, tally_none, tally_le_length, tally-map, length-up_from}
use Rattle.model.specs.Lists.{keep, Every, Sorted}
use Rattle.model.specs.Queries.{Pair, pair_of, present, listing}
use Rattle.model.specs.TopK.{ranking, full_list, ahead_pair}
use Rattle.model.specs.Probing.{enter, unseen, mark, nobody, seen_of, Held}
use Rattle.model.proofs.Lists.{length-keep, tally-keep}
use Rattle.model.proofs.Sorting.{Same, same_length, every_head, every_tail, sorted-take}
use Rattle.model.proofs.Ranking.{ranking-sorted, ranking_same, ranking_unique}
use Rattle.model.proofs.Probing.Insertion.{take-insert, enter_late}

-- ---- counts of listed and of seen documents, by number

keep_none : (ps : List Pair) → keep (λ p. false) ps ≡ []
keep_none [] = refl
keep_none (p ∷ ps) = keep_none ps

keep_every : (t : Pair → Bool) (ps : List Pair) → Every t ps → keep t ps ≡ ps
keep_every t [] a = refl
keep_every t (p ∷ ps) a = rw (every_head t p ps a) (ap (λ (l : List Pair). p ∷ l) (keep_every t ps (every_tail t p ps a)))

-- what is kept, and what is not
keep-halves : (f t : Pair → Bool) (ps : List Pair) → tally f ps ≡ tally f (keep (λ p. not (t p)) ps) + tally f (keep t ps)
keep-halves f t ps =
    tally-sum f (λ p. not (t p) && f p) (λ p. t p && f p) (λ p. go (t p) (f p)) ps
    ∙ sym (omega (arith, tally-keep f (λ p. not (t p)) ps, tally-keep f t ps))
  where
    go : (b c : Bool) → bit c ≡ bit (not b && c) + bit (b && c)
    go true c = omega arith
    go false c = omega arith

tally-listing : (N : ℕ) (xs : List ℕ) (f : Pair → Bool) → tally f (listing N xs) ≡ tally (λ d. present (pair_of xs d) && f (pair_of xs d)) (below N)
tally-listing N xs f = tally-keep f present (map (pair_of xs) (below N)) ∙ tally-map (λ p. present p && f p) (pair_of xs) (below N)

tally_seen : (N : ℕ) (xs : List ℕ) (seen : ℕ → Bool) (f : Pair → Bool)
    → tally f (seen_of N xs seen) ≡ tally (λ d. present (pair_of xs d) && (seen d && f (pair_of xs d))) (below N)
tally_seen N xs seen f = tally-keep f (λ p. seen p.document) (listing N xs) ∙ tally-listing N xs (λ p. seen p.document && f p)

-- one number among those from s upward
tally_past : (d s n : ℕ) (b : Bool) → d < s → tally (λ e. eqb d e && b) (up_from s n) ≡ 0
tally_past d s zero b l = refl
tally_past d s (suc n) b l = rw (ne_eqb d s (omega arith), tally_past d (suc s) n b (omega arith))

tally_only : (d s n : ℕ) (b : Bool) → s ≤ d → d < s + n → tally (λ e. eqb d e && b) (up_from s n) ≡ bit b
tally_only d s zero b l h = absurd (omega arith)
tally_only d s (suc n) b l h = go (look (eqb d s)) (tally_only d (suc s) n b)
  where
    go : (eqb d s ≡ true) ⊎ (eqb d s ≡ false) → (suc s ≤ d → d < suc s + n → tally (λ e. eqb d e && b) (up_from (suc s) n) ≡ bit b)
        → bit (eqb d s && b) + tally (λ e. eqb d e && b) (up_from (suc s) n) ≡ bit b
    go (inl e) i = rw e (omega (arith, tally_past d (suc s) n b (omega (arith, eqb-true d s e))))
    go (inr e) i = let k = eqb-false d s e in rw e (omega (arith, i (omega arith) (omega arith)))

-- ---- from document to document

pub held_start : (N k : ℕ) (xs : List ℕ) → Held N k xs unseen []
held_start N k xs = sym (ap (λ (l : List Pair). take k (ranking l)) (keep_none (listing N xs)) ∙ take-nil k)

module _ (N : ℕ) (xs : List ℕ) (d : ℕ) (inside : d < N) (occurs : 0 < occurrences d xs) (seen : ℕ → Bool) (new : seen d ≡ false) where
  mark_same : Same (pair_of xs d ∷ seen_of N xs seen) (seen_of N xs (mark d seen))
  mark_same f =
      omega (
        arith,
        tally_seen N xs seen f,
        tally_seen N xs (mark d seen) f,
        tally-sum (λ e. present (pair_of xs e) && (mark d seen e && f (pair_of xs e))) (λ e. present (pair_of xs e) && (seen e && f (pair_of xs e)))
            (λ e. eqb d e && f (pair_of xs d))
            (λ e. one_more e (look (eqb d e)))
            (below N),
        tally_only d 0 N (f (pair_of xs d)) (omega arith) (omega arith),
      )
    where
      one_more : (e : ℕ) → (eqb d e ≡ true) ⊎ (eqb d e ≡ false)
          → bit (present (pair_of xs e) && (mark d seen e && f (pair_of xs e)))
          ≡ bit (present (pair_of xs e) && (seen e && f (pair_of xs e))) + bit (eqb d e && f (pair_of xs d))
      one_more e (inl t) = rw (← eqb-true d e t) (rw (new, lt-ltb 0 (occurrences d xs) occurs, eq-eqb d d refl) (omega arith))
      one_more e (inr t) = rw t (omega arith)

  pub held_new : (k : ℕ) (candidates : List Pair) → Held N k xs seen candidates → Held N k xs (mark d seen) (enter k (pair_of xs d) candidates)
  held_new k candidates h =
      ap (enter k (pair_of xs d)) h
      ∙ take-insert k (pair_of xs d) (ranking (seen_of N xs seen))
      ∙ ap (take k) (ranking_unique (ranking (pair_of xs d ∷ seen_of N xs seen)) (seen_of N xs (mark d seen))
      (ranking-sorted (pair_of xs d ∷ seen_of N xs seen)) (λ f. ranking_same (pair_of xs d ∷ seen_of N xs seen) f ∙ mark_same f))

-- ---- what is held

module _ (N k : ℕ) (xs : List ℕ) (seen : ℕ → Bool) (candidates : List Pair) (held : Held N k xs seen candidates) where
  pub held-sorted : Sorted ahead_pair candidates
  held-sorted = rw held (sorted-take ahead_pair k (ranking (seen_of N xs seen)) (ranking-sorted (seen_of N xs seen)))

  -- no more than k, and no more than there are documents
  pub held_few : (length candidates ≤ k) × (length candidates ≤ N)
  held_few =
      let seen_few : length (seen_of N xs seen) ≤ N
      = omega (
        arith,
        length-keep (λ p. seen p.document) (listing N xs),
        tally_le_length (λ p. seen p.document) (listing N xs),
        length-keep present (map (pair_of xs) (below N)),
        tally_le_length present (map (pair_of xs) (below N)),
        length-map (below N) (pair_of xs),
        length-up_from 0 N,
      ) in
      omega (arith, ap length held, length-take k (ranking (seen_of N xs seen)), same_length (ranking (seen_of N xs seen)) (seen_of N xs seen) (ranking_same (seen_of N xs seen)))

  -- ---- the full list

  -- every document is seen
  pub held_all : ((d : ℕ) → seen d ≡ false → occurrences d xs < 1) → candidates ≡ full_list N k xs
  held_all h =
      held
      ∙ ap (λ (l : List Pair). take k (ranking l)) (keep_every (λ p. seen p.document) (listing N xs)
      (tally-listing N xs (λ p. not (seen p.document))
      ∙ tally_none (λ d. present (pair_of xs d) && not (seen d)) (λ d. left d (look (seen d))) (below N)))
    where
      left : (d : ℕ) → (seen d ≡ true) ⊎ (seen d ≡ false) → (present (pair_of xs d) && not (seen d)) ≡ false
      left d (inl e) = rw e (and-false (present (pair_of xs d)))
      left d (inr e) = let l = h d e in rw (le-ltb 0 (occurrences d xs) (omega arith))

  -- k are held, and every document that is not seen has a count below the last one's
  pub held_stop : (g j : ℕ) → ((d : ℕ) → seen d ≡ false → occurrences d xs < g) → k ≡ suc j → length candidates ≡ k
      → g ≤ (get_or candidates j nobody).count → candidates ≡ full_list N k xs
  held_stop g j h some full low =
      sym (lower (seen_of N xs other) rare)
      ∙ ap (take k) (ranking_unique (ranking (seen_of N xs other ++ seen_of N xs seen)) (listing N xs)
      (ranking-sorted (seen_of N xs other ++ seen_of N xs seen)) both)
    where
      other : ℕ → Bool
      other d = not (seen d)

      lower : (us : List Pair) → Every (λ u. ltb u.count g) us → take k (ranking (us ++ seen_of N xs seen)) ≡ candidates
      lower [] a = sym held
      lower (u ∷ us) a =
          let l = ltb-true u.count g (every_head (λ v. ltb v.count g) u us a) in
          let c = (get_or candidates j nobody).count in
          sym (take-insert k u (ranking (us ++ seen_of N xs seen)))
          ∙ ap (enter k u) (lower us (every_tail (λ v. ltb v.count g) u us a))
          ∙ ap (λ (n : ℕ). enter n u candidates) some
          ∙ enter_late j u candidates (full ∙ some) held-sorted (rw (le-ltb c u.count (omega arith), ne_eqb c u.count (omega arith)))

      left : (d : ℕ) → (seen d ≡ true) ⊎ (seen d ≡ false) → (present (pair_of xs d) && (not (seen d) && not (ltb (occurrences d xs) g))) ≡ false
      left d (inl e) = rw e (and-false (present (pair_of xs d)))
      left d (inr e) = rw (e, lt-ltb (occurrences d xs) g (h d e)) (and-false (present (pair_of xs d)))

      rare : Every (λ u. ltb u.count g) (seen_of N xs other)
      rare =
          tally_seen N xs other (λ u. not (ltb u.count g))
          ∙ tally_none (λ d. present (pair_of xs d) && (not (seen d) && not (ltb (occurrences d xs) g))) (λ d. left d (look (seen d))) (below N)

      both : (f : Pair → Bool) → tally f (ranking (seen_of N xs other ++ seen_of N xs seen)) ≡ tally f (listing N xs)
      both f =
          ranking_same (seen_of N xs other ++ seen_of N xs seen) f
          ∙ tally-append f (seen_of N xs other) (seen_of N xs seen)
          ∙ sym (keep-halves f (λ p. seen p.document) (listing N xs))

-- Terms that are chosen in a slice: what is asked with the copy is what is asked with the slice.
use Prim.Native.Nat.{ℕ, ◌*◌, ◌<◌, min}
use mathlib.Core.Path.{◌≡◌, refl, sym, ap, ◌∙◌}
use mathlib.Core.List.{List}
use mathlib.Core.Logic.{◌⊎◌, inl, inr}
use mathlib.Core.Bool.{Bool, true, false, ◌||◌}
use lib.ListN.{length, take}
use lib.Seq.{take-length}
use lib.Dec.{leb, ltb, eqb}
use borrow.Author.Tests.{ltb-true, ltb-false, lt-ltb}
use Rattle.bits.proofs.Tests.{look, or_right}
use Rattle.model.specs.Lists.{any}
use Rattle.model.specs.Distinct.{distinct}
use Rattle.model.specs.Outcome.{answered, refuse, and_then}
use Rattle.model.specs.Opening.{opened}
use Rattle.model.specs.Queries.{pairs_into, conjunction, conjunction_result}
use Rattle.model.specs.TopK.{found_into}
use Rattle.model.specs.RarestFirst.{rarest_first, order_into, rarest_first_result}
use Rattle.model.specs.Weighted.{weighted_found, weighted_result}
use Rattle.paths.specs.declared.terms.Terms.{Terms}
use Rattle.ffi.specs.Chosen.{Chosen}

-- what is asked of terms alone, and of whether there are none or more than eight, is the same of the copy and of the slice, if more than eight are
-- not looked at
module _ {R : Type 0} (result : Bool → List ℕ → R) (unseen : (ts us : List ℕ) → result true ts ≡ result true us) where
  abbrev wrong : ℕ → Bool
  wrong size = eqb size 0 || ltb 8 size

  abbrev of : ℕ → List ℕ → R
  of size numbers = result (wrong size) (take size numbers)

  too_many : (size : ℕ) (numbers : List ℕ) → 8 < size → of size numbers ≡ result true (take size numbers)
  too_many size numbers m = ap (λ (b : Bool). result b (take size numbers)) (or_right (eqb size 0) (ltb 8 size) (lt-ltb 8 size m))

  pub chosen_same : (chosen : List ℕ) (q : Terms) → Chosen chosen q → of q.size q.numbers ≡ of (length chosen) chosen
  chosen_same chosen q c = go (look (ltb 8 (length chosen)))
    where
      go : (ltb 8 (length chosen) ≡ true) ⊎ (ltb 8 (length chosen) ≡ false) → of q.size q.numbers ≡ of (length chosen) chosen
      go (inl e) =
          let m = ltb-true 8 (length chosen) e in
          too_many q.size q.numbers (c.many m) ∙ unseen (take q.size q.numbers) (take (length chosen) chosen)
          ∙ sym (too_many (length chosen) chosen m)
      go (inr e) =
          let f = c.few (ltb-false 8 (length chosen) e) in
          let same = f.1 ∙ sym (take-length chosen) in
          λ i. result (wrong (f.0 i)) (same i)

-- the conjunction
pub conjunction-chosen : (bytes answers chosen : List ℕ) (q : Terms) → Chosen chosen q
    → conjunction_result bytes q.numbers q.size answers ≡ conjunction_result bytes chosen (length chosen) answers
conjunction-chosen bytes answers =
    chosen_same
    (λ wrong terms.
    pairs_into answers
    (and_then (opened bytes)
    (λ lib.
    refuse 10 wrong
    (refuse 11 (any (leb (length lib.lengths)) terms)
    (refuse 12 (ltb (length answers) (2 * lib.documents)) (answered (conjunction lib (distinct terms))))))))
    (λ ts us. refl)

-- weighted top-k
pub weighted_chosen : (bytes : List ℕ) (k allowance : ℕ) (answers work chosen : List ℕ) (q : Terms) → Chosen chosen q
    → weighted_result bytes q.numbers q.size k allowance answers work ≡ weighted_result bytes chosen (length chosen) k allowance answers work
weighted_chosen bytes k allowance answers work =
    chosen_same
    (λ wrong terms.
    found_into answers work
    (and_then (opened bytes)
    (λ lib.
    refuse 10 wrong
    (refuse 11 (any (leb (length lib.lengths)) terms)
    (refuse 12 (ltb (length answers) (2 * min k lib.documents))
    (refuse 13 (ltb (length work) (4 * lib.documents)) (answered (weighted_found lib (rarest_first lib terms) k allowance))))))))
    (λ ts us. refl)

-- the rarest term first
pub rarest_first-chosen : (bytes lent chosen : List ℕ) (q : Terms) → Chosen chosen q
    → rarest_first_result bytes q.numbers q.size lent ≡ rarest_first_result bytes chosen (length chosen) lent
rarest_first-chosen bytes lent =
    chosen_same
    (λ wrong terms.
    order_into lent
    (and_then (opened bytes)
    (λ lib. refuse 10 wrong (refuse 11 (any (leb (length lib.lengths)) terms) (answered (rarest_first lib terms))))))
    (λ ts us. refl)

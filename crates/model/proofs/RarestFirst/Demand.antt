-- M-107's sentences (`specs/RarestFirstDemand`), from the definitions of both whole results.
use Prim.Native.Nat.{ℕ, ◌*◌, ◌<◌, min}
use native.Mathlib.Omega.{arith}
use mathlib.Core.Path.{◌≡◌, sym, ap, ap₂, ◌∙◌}
use mathlib.Core.Logic.{◌⊎◌, inl, inr}
use mathlib.Core.List.{List, map}
use mathlib.Core.Bool.{Bool, true, false, ◌||◌}
use lib.ListN.{length, take}
use lib.Dec.{leb, ltb, eqb}
use borrow.Author.Tests.{lt-ltb, le-ltb, ne_eqb}
use Rattle.bits.specs.Bits.{sum}
use Rattle.bits.specs.Sequences.{occurrences}
use Rattle.bits.proofs.Tests.{look, or_right}
use Rattle.model.specs.Lists.{any, Within, sort_by}
use Rattle.model.specs.Outcome.{answered, refused, refuse, and_then}
use Rattle.model.specs.Format.{Library}
use Rattle.model.specs.Opening.{opened}
use Rattle.model.specs.Queries.{under, PairsResult}
use Rattle.model.specs.Distinct.{EachOnce}
use Rattle.model.specs.TopK.{count_in, found_into}
use Rattle.model.specs.RarestFirst.{rarer, rarest_first, SameTerms, order_into, rarest_first_result}
use Rattle.model.specs.Weighted.{weighted_found, weighted_result}
use Rattle.model.specs.RarestFirstDemand.{IsQuestion, RarestFirstDemand}
use Rattle.model.proofs.Distinct.{each_once_unique}
use Rattle.model.proofs.Sorting.{any_sort}
use Rattle.model.proofs.Format.Valid.{within_any, any_within}
use Rattle.model.proofs.RarestFirst.Order.{rarest_first_lem, rarest_first_unique, rarest_first-typed, any-typed}
use Rattle.model.proofs.RarestFirst.Scores.{sum_sort}

-- 10 is not said of one to eight terms
no_10 : (size : ℕ) → IsQuestion size → (eqb size 0 || ltb 8 size) ≡ false
no_10 size q = let s = q.some in rw (ne_eqb size 0 (λ e. omega arith), le-ltb 8 size q.few)

-- ---- the same terms, typed otherwise, of any bytes

module _ (bytes numbers typed : List ℕ) (size long : ℕ) (q : IsQuestion size) (r : IsQuestion long)
    (alike : SameTerms (take size numbers) (take long typed)) where
  ten : (eqb size 0 || ltb 8 size) ≡ (eqb long 0 || ltb 8 long)
  ten = no_10 size q ∙ sym (no_10 long r)

  eleven : (lib : Library) → any (leb (length lib.lengths)) (take size numbers) ≡ any (leb (length lib.lengths)) (take long typed)
  eleven lib = any-typed lib (leb (length lib.lengths)) (take size numbers) (take long typed) alike

  in_order : (lib : Library) → rarest_first lib (take size numbers) ≡ rarest_first lib (take long typed)
  in_order lib = rarest_first-typed lib (take size numbers) (take long typed) alike

  pub order-typed : (lent : List ℕ) → rarest_first_result bytes numbers size lent ≡ rarest_first_result bytes typed long lent
  order-typed lent i = order_into lent (and_then (opened bytes) (λ lib. refuse 10 (ten i) (refuse 11 (eleven lib i) (answered (in_order lib i)))))

  pub weighted_typed : (k allowance : ℕ) (out work : List ℕ)
      → weighted_result bytes numbers size k allowance out work ≡ weighted_result bytes typed long k allowance out work
  weighted_typed k allowance out work i =
      found_into out work
      (and_then (opened bytes)
      (λ lib.
      refuse 10 (ten i)
      (refuse 11 (eleven lib i)
      (refuse 12 (ltb (length out) (2 * min k lib.documents))
      (refuse 13 (ltb (length work) (4 * lib.documents)) (answered (weighted_found lib (in_order lib i) k allowance)))))))

-- ---- the theorem

module _ (bytes : List ℕ) (lib : Library) (holds : opened bytes ≡ answered lib) (lent : List ℕ) where
  abbrev W : ℕ
  W = length lib.lengths

  abbrev order : List ℕ → ℕ → PairsResult
  order numbers size = rarest_first_result bytes numbers size lent

  -- what the question makes of the archive that it opens, by whether 10 and 11 apply
  abbrev made : Bool → Bool → List ℕ → PairsResult
  made ten eleven terms = order_into lent (refuse 10 ten (refuse 11 eleven (answered (rarest_first lib terms))))

  result : (numbers : List ℕ) (size : ℕ) → order numbers size ≡ made (eqb size 0 || ltb 8 size) (any (leb W) (take size numbers)) (take size numbers)
  result numbers size = rw holds

  asked : (numbers : List ℕ) (size : ℕ) → IsQuestion size → (b : Bool) → any (leb W) (take size numbers) ≡ b → order numbers size ≡ made false b (take size numbers)
  asked numbers size q b e = result numbers size ∙ ap₂ (λ (x y : Bool). made x y (take size numbers)) (no_10 size q) e

  too_many : (numbers : List ℕ) (size : ℕ) → 8 < size → order numbers size ≡ order_into lent (refused 10)
  too_many numbers size l =
      result numbers size
      ∙ ap (λ (x : Bool). made x (any (leb W) (take size numbers)) (take size numbers)) (or_right (eqb size 0) (ltb 8 size) (lt-ltb 8 size l))

  unknown : (numbers : List ℕ) (size : ℕ) → IsQuestion size → (Within W (take size numbers) → ⊥) → order numbers size ≡ order_into lent (refused 11)
  unknown numbers size q n = go (look (any (leb W) (take size numbers)))
    where
      go : (any (leb W) (take size numbers) ≡ true) ⊎ (any (leb W) (take size numbers) ≡ false) → order numbers size ≡ order_into lent (refused 11)
      go (inl e) = asked numbers size q true e
      go (inr e) = absurd (n (within_any W (take size numbers) e))

  -- over the terms as M-101 keeps them
  sum_kept : (f : ℕ → ℕ) (given kept : List ℕ) → EachOnce given kept → sum (map f (rarest_first lib given)) ≡ sum (map f kept)
  sum_kept f given kept e = ap (λ (ts : List ℕ). sum (map f (sort_by (rarer lib) ts))) (sym (each_once_unique given kept e)) ∙ sum_sort f (rarer lib) kept

  any-kept : (p : ℕ → Bool) (given kept : List ℕ) → EachOnce given kept → any p (rarest_first lib given) ≡ any p kept
  any-kept p given kept e = ap (λ (ts : List ℕ). any p (sort_by (rarer lib) ts)) (sym (each_once_unique given kept e)) ∙ any_sort (rarer lib) p kept

  pub rarest_first_demand : (k allowance : ℕ) (out work : List ℕ)
      → RarestFirstDemand lib lent order (λ numbers size. weighted_result bytes numbers size k allowance out work)
  rarest_first_demand k allowance out work = record {
    none = λ numbers. result numbers 0;
    too_many = too_many;
    unknown = unknown;
    in_rarest_order = rarest_first lib;
    answer = λ numbers size q w. asked numbers size q false (any_within W (take size numbers) w);
    promised = rarest_first_lem lib;
    no_other = rarest_first_unique lib;
    scores_stay = λ given kept e weight_of d. sum_kept (λ t. weight_of t * occurrences d (under lib t)) given kept e;
    entries_stay = λ given kept e d. any-kept (λ t. ltb 0 (occurrences d (under lib t))) given kept e;
    node_scores_stay = λ given kept e weight_of n. sum_kept (λ t. weight_of t * count_in (under lib t) n) given kept e;
    node_entries_stay = λ given kept e n. any-kept (λ t. ltb 0 (count_in (under lib t) n)) given kept e;
    whichever_way = λ numbers typed size long q r alike.
        (order-typed bytes numbers typed size long q r alike lent, weighted_typed bytes numbers typed size long q r alike k allowance out work);
  }

-- M-104's sentences (`specs/BooleanDemand`), from the definition of the whole result.
use Prim.Native.Nat.{ℕ, zero, suc, ◌+◌, ◌≤◌, ◌<◌}
use native.Mathlib.Nat.{zero-add}
use native.Mathlib.Omega.{arith}
use mathlib.Core.Path.{◌≡◌, refl, ap, ◌∙◌}
use mathlib.Core.Logic.{◌⊎◌, inl, inr}
use mathlib.Core.List.{List}
use mathlib.Core.Option.{Option, none, some}
use mathlib.Core.Bool.{Bool, true, false, ◌&&◌}
use lib.ListN.{length}
use lib.Dec.{leb, ltb, eqb}
use borrow.Author.Tests.{lt-ltb, le-ltb, ne_eqb, eqb-true, eqb-false}
use Rattle.bits.specs.Sequences.{bit, tally, up_from, below, occurrences}
use Rattle.bits.proofs.Tests.{look}
use Rattle.model.specs.Lists.{any, Every, Sorted}
use Rattle.model.specs.Outcome.{answered, refused, refuse, and_then}
use Rattle.model.specs.Format.{Library}
use Rattle.model.specs.Opening.{opened}
use Rattle.model.specs.Grammar.{Expression, IsReading}
use Rattle.model.specs.Reading.{reading}
use Rattle.model.specs.Boolean.{entered, matches, documents_of, words_in, or_unread, documents_into, boolean_result}
use Rattle.model.specs.BooleanDemand.{refused_as, BooleanDemand}
use Rattle.model.proofs.Lists.{tally-keep}
use Rattle.model.proofs.Sorting.{every_cons, sorted-keep}
use Rattle.model.proofs.Boolean.Theorem.{found, only, meaning, unread_refused, refused_unread}

-- ---- the documents that match

and_true : (b : Bool) → bit (b && true) ≡ bit b
and_true true = refl
and_true false = refl

and_false : (b : Bool) → bit (b && false) ≡ 0
and_false true = refl
and_false false = refl

module _ (p : ℕ → Bool) where
  -- a number below those from s on is none of them
  past : (v s n : ℕ) → v < s → tally (λ d. p d && eqb v d) (up_from s n) ≡ 0
  past v s zero h = refl
  past v s (suc n) h = rw (ne_eqb v s (omega arith)) (omega (arith, and_false (p s), past v (suc s) n (omega arith)))

  -- of n numbers from s on each that passes stands there once, and no other
  once : (v s n : ℕ) → s ≤ v → tally (λ d. p d && eqb v d) (up_from s n) ≡ bit (ltb v (s + n) && p v)
  once v s zero h = rw (le-ltb v (s + 0) (omega arith))
  once v s (suc n) h = go (look (eqb v s)) (once v (suc s) n)
    where
      go : (eqb v s ≡ true) ⊎ (eqb v s ≡ false)
          → (suc s ≤ v → tally (λ d. p d && eqb v d) (up_from (suc s) n) ≡ bit (ltb v (suc s + n) && p v))
          → bit (p s && eqb v s) + tally (λ d. p d && eqb v d) (up_from (suc s) n) ≡ bit (ltb v (s + suc n) && p v)
      go (inl e) rest =
          let same : v ≡ s = eqb-true v s e in
          let none = past v (suc s) n (omega arith) in
          rw (e, lt-ltb v (s + suc n) (omega arith)) (omega (arith, none, and_true (p s), ap (λ (d : ℕ). bit (p d)) same))
      go (inr e) rest =
          let further : suc s ≤ v = omega (arith, eqb-false v s e) in
          let size : suc s + n ≡ s + suc n = omega arith in
          rw e (omega (arith, and_false (p s), rest further, ap (λ (m : ℕ). bit (ltb v m && p v)) size))

-- numbers from s on ascend
up_from-sorted : (s n : ℕ) → Sorted ltb (up_from s n)
up_from-sorted s zero = tt
up_from-sorted s (suc n) = (above s (suc s) n (omega arith), up_from-sorted (suc s) n)
  where
    above : (v s n : ℕ) → v < s → Every (ltb v) (up_from s n)
    above v s zero h = refl
    above v s (suc n) h = every_cons (ltb v) s (up_from (suc s) n) (lt-ltb v s h) (above v (suc s) n (omega arith))

module _ (lib : Library) (e : Expression) where
  abbrev matching : ℕ → Bool
  matching d = matches (entered lib d) e

  pub each_matching : (d : ℕ) → occurrences d (documents_of lib e) ≡ bit (ltb d lib.documents && matching d)
  each_matching d =
      tally-keep (eqb d) matching (below lib.documents) ∙ once matching d 0 lib.documents (omega arith)
      ∙ ap (λ (n : ℕ). bit (ltb d n && matching d)) (zero-add lib.documents)

  pub matching_ascend : Sorted ltb (documents_of lib e)
  matching_ascend = sorted-keep ltb ltb matching (λ x y h k l. l) (below lib.documents) (up_from-sorted 0 lib.documents)

-- ---- the sentences

module _ (bytes : List ℕ) (lib : Library) (o : opened bytes ≡ answered lib) (question out : List ℕ) where
  abbrev W : ℕ
  W = length lib.lengths

  unknown : (e : Expression) → IsReading question e → any (leb W) (words_in question) ≡ true → boolean_result bytes question out ≡ refused_as 11 out
  unknown e r missing = rw (o, found question e r, missing)

  short : (e : Expression) → IsReading question e → any (leb W) (words_in question) ≡ false → length out < lib.documents
      → boolean_result bytes question out ≡ refused_as 12 out
  short e r known few = rw (o, found question e r, known, lt-ltb (length out) lib.documents few)

  -- of the refusals that are left no other number is given
  given : (read : Option Expression) (a b : Bool) → (documents_into out (and_then (or_unread read) (λ e. refuse 11 a (refuse 12 b (answered (documents_of lib e)))))).outcome ≡ refused 10 → ⊥
  given none a b h = let z : ◌≡◌ {A = ℕ} 18 10 = cc h in omega arith
  given (some e) true b h = let z : ◌≡◌ {A = ℕ} 11 10 = cc h in omega arith
  given (some e) false true h = let z : ◌≡◌ {A = ℕ} 12 10 = cc h in omega arith
  given (some e) false false h = let z : ◌≡◌ {A = ℕ} 0 1 = cc h in omega arith

  never_10 : (boolean_result bytes question out).outcome ≡ refused 10 → ⊥
  never_10 h = given (reading question) (any (leb W) (words_in question)) (ltb (length out) lib.documents) (rw o at h)

  pub boolean_demand : BooleanDemand lib question out (boolean_result bytes question out)
  boolean_demand = record {
    only = only question;
    unread = unread_refused bytes lib o question out;
    unread_alone = λ e r h. refused_unread bytes lib o question out h e r;
    unknown = unknown;
    short = short;
    never_10 = never_10;
    documents = documents_of lib;
    every_matching = each_matching lib;
    ascending = matching_ascend lib;
    answer = meaning bytes lib o question out;
  }

-- The terms that were kept so far, one given term more, and what a question asks of the kept ones.
use Prim.Native.Nat.{ℕ, ◌+◌, ◌≤◌, ◌<◌}
use native.Mathlib.Omega.{arith}
use native.Mathlib.Numerals.{add-one}
use mathlib.Core.Path.{◌≡◌, sym, ap, ◌∙◌, subst}
use mathlib.Core.List.{List, [], ◌∷◌, ◌++◌, append-nil}
use mathlib.Core.Bool.{Bool, true, false, cond}
use lib.ListN.{length, get_or, take, set, length-set}
use lib.Seq.{take-suc, take-suc-set}
use lib.Dec.{eqb}
use Rattle.model.specs.Lists.{any}
use Rattle.model.specs.Distinct.{distinct}
use Rattle.model.proofs.Distinct.{distinct_snoc, distinct-length, distinct_within}
use Rattle.paths.specs.Chosen.{Chosen}

-- of the first i of the given terms, so many stand in the front of the numbers
pub record Keeping (given : List ℕ) (i : ℕ) (numbers : List ℕ) (size : ℕ) : Type 0 where
  pub kept : take size numbers ≡ distinct (take i given)
  pub few : size ≤ i
  pub room : length numbers ≡ 8

module _ (given : List ℕ) (i : ℕ) (inside : i < length given) where
  abbrev stands : Bool
  stands = any (eqb (get_or given i 0)) (take i given)

  one_more : (b : Bool) → stands ≡ b → distinct (take (i + 1) given) ≡ distinct (take i given) ++ cond b [] (get_or given i 0 ∷ [])
  one_more b e =
      ap (λ (n : ℕ). distinct (take n given)) (add-one i) ∙ ap distinct (take-suc given i 0 inside) ∙ distinct_snoc (take i given) (get_or given i 0)
      ∙ ap (λ (c : Bool). distinct (take i given) ++ cond c [] (get_or given i 0 ∷ [])) e

  module _ (numbers : List ℕ) (size : ℕ) (k : Keeping given i numbers size) where
    pub keeping_new : i < 8 → stands ≡ false → Keeping given (i + 1) (set numbers size (get_or given i 0)) (size + 1)
    keeping_new l e =
        let few = k.few in
        let room = k.room in
        record {
          kept = ap (λ (n : ℕ). take n (set numbers size (get_or given i 0))) (add-one size) ∙ take-suc-set numbers size (get_or given i 0) (omega arith)
              ∙ ap (λ (l : List ℕ). l ++ (get_or given i 0 ∷ [])) k.kept
              ∙ sym (one_more false e);
          few = omega arith;
          room = length-set numbers size (get_or given i 0) ∙ room;
        }

    pub keeping_old : stands ≡ true → Keeping given (i + 1) numbers size
    keeping_old e = record {
      kept = k.kept ∙ sym (append-nil (distinct (take i given))) ∙ sym (one_more true e);
      few = let f = k.few in omega arith;
      room = k.room;
    }

-- ---- the kept terms are one to eight terms of the archive where the given ones are

nonempty : (xs : List ℕ) → 1 ≤ length xs → 1 ≤ length (distinct xs)
nonempty [] l = absurd (omega arith)
nonempty (x ∷ xs) l = omega arith

pub chosen_distinct : (W : ℕ) (given kept : List ℕ) → Chosen W given → kept ≡ distinct given → Chosen W kept
chosen_distinct W given kept a e = subst (Chosen W) (sym e) (record {
  some = nonempty given a.some;
  few = let f = a.few in omega (arith, distinct-length given);
  known = distinct_within W given a.known;
})

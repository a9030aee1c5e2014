-- Each different term of a question once. Document 02, M-101: "a repeated word counts once in all-words and in weighted totals; the first stands,
-- later ones drop out".
use Rattle.std.specs.Prelude.{ℕ, ◌≤◌, min, ◌≡◌, List, [], ◌∷◌, not, ltb, eqb}
use Rattle.bits.specs.Sequences.{occurrences, select}
use Rattle.model.specs.Lists.{keep, Sorted}

-- the first stands, and what equals it drops out of the rest
abbrev pub distinct : List ℕ → List ℕ
distinct [] = []
distinct (x ∷ xs) = x ∷ keep (λ y. not (eqb x y)) (distinct xs)

-- what that comes to: of the given numbers each different one once and no other, in the order of first appearance.
-- `distinct` is so, and no other list (`distinct_each_once`, `each_once_unique` in proofs/Distinct)
pub record EachOnce (given kept : List ℕ) : Type 0 where
  -- once where it is given at all, and else not
  pub once : (x : ℕ) → occurrences x kept ≡ min 1 (occurrences x given)
  -- each first stands, among the given, before all that follow it here
  pub order : Sorted (λ x y. ltb (select x given 1) (select y given 1)) kept

-- no number stands twice: what the searches ask of their terms
abbrev pub Different : List ℕ → Type 0
Different xs = (x : ℕ) → occurrences x xs ≤ 1

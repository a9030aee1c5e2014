-- Round half to even. Document 02, M-105: "round to the nearest whole number, and an exact half goes to the even one. The rate follows".
use Rattle.std.specs.Prelude.{ℕ, ◌+◌, ◌-◌, ◌*◌, ◌%◌, ◌≤◌, ◌≡◌, List, [], ◌∷◌, Bool, cond, ◌||◌, ◌&&◌, ltb, eqb}
use Rattle.bits.specs.Sequences.{below}

-- how far two numbers are apart
abbrev pub apart : ℕ → ℕ → ℕ
apart x y = (x - y) + (y - x)

-- how far the whole number r is from a / b, counted in parts of b
abbrev pub distance : ℕ → ℕ → ℕ → ℕ
distance a b r = apart (r * b) a

-- the property: r is a / b rounded to the nearest whole number, an exact half to the even one (round half to even)
pub record IsRounded (a b r : ℕ) : Type 0 where
  -- no whole number is nearer
  pub nearest : (s : ℕ) → distance a b r ≤ distance a b s
  -- where another is as near, this is the even one
  pub even : (s : ℕ) → distance a b s ≡ distance a b r → (s ≡ r → ⊥) → r % 2 ≡ 0

-- whether s is rather the answer than r: it is nearer, or as near and the even one of the two
abbrev pub rather : ℕ → ℕ → ℕ → ℕ → Bool
rather a b s r = ltb (distance a b s) (distance a b r) || (eqb (distance a b s) (distance a b r) && ltb (s % 2) (r % 2))

-- of r and the numbers of a list the one that is rather the answer than all others
abbrev pub chosen : ℕ → ℕ → ℕ → List ℕ → ℕ
chosen a b r [] = r
chosen a b r (s ∷ ss) = chosen a b (cond (rather a b s r) s r) ss

-- the rate of a count in a size: of 0 to 1,000 the one nearest to count × 1,000 / size.
-- It has the property, and no other number has it (`rate_rounded`, `rounded_only` in proofs/Rate)
unfoldable pub rate : ℕ → ℕ → ℕ
rate count size = chosen (count * 1000) size 0 (below 1001)

-- Worked cases of the rate, document 02, M-105, proved on the definitions: halves, what is just beside them, both ends, the refusals.
use Rattle.std.specs.Prelude.{ℕ, ◌≡◌, refl, List, [], ◌∷◌, map, replicate}
use Rattle.model.specs.Outcome.{Outcome, answered, refused}
use Rattle.model.specs.Rate.{distance, rate}
use Rattle.model.specs.Queries.{per_mille_result}

-- so many of so many
record Of : Type 0 where
  count : ℕ
  size : ℕ

infixl 70 ◌of◌
abbrev ◌of◌ : ℕ → ℕ → Of
count of size = record { count = count; size = size }

abbrev rates : List Of → List (Outcome ℕ)
rates = map (λ x. per_mille_result x.count x.size)

abbrev answers : List ℕ → List (Outcome ℕ)
answers = map answered

-- how far 0 to 4 are from 2 and a half, which is 5,000 / 2,000
pub distances : map (distance 5000 2000) (0 ∷ 1 ∷ 2 ∷ 3 ∷ 4 ∷ []) ≡ 5000 ∷ 3000 ∷ 1000 ∷ 1000 ∷ 3000 ∷ []
distances = refl

-- those that the request names
pub named : rates (3 of 16 ∷ 5 of 2000 ∷ 1 of 3 ∷ []) ≡ answers (188 ∷ 2 ∷ 333 ∷ [])
unfolding rate
named = refl

-- exact halves: 0, 1, 2, 7, 8, 998 and 999 and a half
pub halves : rates (1 of 2000 ∷ 3 of 2000 ∷ 5 of 2000 ∷ 15 of 2000 ∷ 17 of 2000 ∷ 1997 of 2000 ∷ 1999 of 2000 ∷ [])
    ≡ answers (0 ∷ 2 ∷ 2 ∷ 8 ∷ 8 ∷ 998 ∷ 1000 ∷ [])
unfolding rate
halves = refl

-- below a half, and above it
pub thirds : rates (1 of 3 ∷ 2 of 3 ∷ 1 of 6 ∷ 5 of 6 ∷ 1 of 7 ∷ 2 of 7 ∷ []) ≡ answers (333 ∷ 667 ∷ 167 ∷ 833 ∷ 143 ∷ 286 ∷ [])
unfolding rate
thirds = refl

-- whole numbers, up to both ends
pub wholes : rates (0 of 1 ∷ 1 of 1 ∷ 1 of 1000 ∷ 999 of 1000 ∷ 0 of 4294967295 ∷ 4294967295 of 4294967295 ∷ [])
    ≡ answers (0 ∷ 1000 ∷ 1 ∷ 999 ∷ 0 ∷ 1000 ∷ [])
unfolding rate
wholes = refl

-- halves of a large size, each with the count beside it
pub large_halves : rates (2147483 of 4294966000 ∷ 2147484 of 4294966000 ∷ 6442448 of 4294966000 ∷ 6442449 of 4294966000 ∷ 4292818516 of 4294966000 ∷ 4292818517 of 4294966000 ∷ [])
    ≡ answers (0 ∷ 1 ∷ 1 ∷ 2 ∷ 999 ∷ 1000 ∷ [])
unfolding rate
large_halves = refl

-- just beside a half, by one part in twice the size: above 94 and 421 and a half, below 578 and 905 and a half
pub beside_halves : rates (405874409 of 4294967291 ∷ 1810328714 of 4294967293 ∷ 2484638579 of 4294967293 ∷ 3889092882 of 4294967291 ∷ [])
    ≡ answers (95 ∷ 422 ∷ 578 ∷ 905 ∷ [])
unfolding rate
beside_halves = refl

-- all but one may come to 1,000, and one to 0; a product past 32 bits
pub near_ends : rates (1 of 4294967295 ∷ 4294967294 of 4294967295 ∷ 4294967 of 4294968 ∷ 4294968 of 42949680 ∷ [])
    ≡ answers (0 ∷ 1000 ∷ 1000 ∷ 100 ∷ [])
unfolding rate
near_ends = refl

-- the size 0, or the count above the size
pub refusals : rates (0 of 0 ∷ 1 of 0 ∷ 4294967295 of 0 ∷ 2 of 1 ∷ 17 of 16 ∷ 4294967295 of 4294967294 ∷ []) ≡ replicate 6 (refused 11)
refusals = refl

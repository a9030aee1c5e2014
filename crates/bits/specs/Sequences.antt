-- Rank and select over a sequence, after document 002, section 2. Places count from 0; the j of select counts from 1.
use Rattle.std.specs.Prelude.{ℕ, zero, suc, ◌+◌, ◌-◌, ◌≤◌, ◌<◌, ◌≡◌, List, [], ◌∷◌, Bool, true, false, cond, ◌&&◌, length, get_or, take, eqb}

-- a test as a number
abbrev pub bit : Bool → ℕ
bit true = 1
bit false = 0

module _ {A : Type 0} where
  -- how many elements pass a test
  abbrev pub tally : (A → Bool) → List A → ℕ
  tally p [] = 0
  tally p (x ∷ xs) = bit (p x) + tally p xs

  -- whether all elements pass a test
  abbrev pub all : (A → Bool) → List A → Bool
  all p [] = true
  all p (x ∷ xs) = p x && all p xs

-- the n numbers from s upward
abbrev pub up_from : ℕ → ℕ → List ℕ
up_from s zero = []
up_from s (suc n) = s ∷ up_from (suc s) n

-- the numbers below n
abbrev pub below : ℕ → List ℕ
below n = up_from 0 n

-- how many elements equal v
abbrev pub occurrences : ℕ → List ℕ → ℕ
occurrences v xs = tally (eqb v) xs

-- rank: how many of the elements before place i equal v
abbrev pub rank : ℕ → List ℕ → ℕ → ℕ
rank v xs i = occurrences v (take i xs)

-- select: the place of the j-th element that equals v; one past the end where there are fewer
abbrev pub select : ℕ → List ℕ → ℕ → ℕ
select v [] j = 0
select v (x ∷ xs) j =
    let later = suc (select v xs (j - bit (eqb v x))) in
    cond (eqb v x && eqb j 1) 0 later

-- the j-th element that equals v stands at p: it is v, and one fewer stand before it
pub record Stands (v : ℕ) (xs : List ℕ) (j p : ℕ) : Type 0 where
  pub inside : p < length xs
  pub there : get_or xs p 0 ≡ v
  pub before : rank v xs p + 1 ≡ j

-- what place the j-th has, j from 1 (M-102), in the paper's words: "the position of the j-th occurrence", and one past the end
-- "iff the number of c's in S is less than j"
pub record IsPlace (v : ℕ) (xs : List ℕ) (j p : ℕ) : Type 0 where
  pub present : j ≤ occurrences v xs → Stands v xs j p
  pub missing : occurrences v xs < j → p ≡ length xs
  pub only_missing : p ≡ length xs → occurrences v xs < j

-- Plain list functions. Document 01, "The shelf": the entries of a range; the rest is common ground.
use Rattle.std.specs.Prelude.{ℕ, ◌-◌, ◌<◌, ◌≡◌, List, [], ◌∷◌, ◌++◌, Bool, false, not, cond, ◌||◌, length, take, drop, leb}
use Rattle.bits.specs.Sequences.{tally}

module _ {A : Type 0} where
  -- the elements that pass a test, in their order
  abbrev pub keep : (A → Bool) → List A → List A
  keep p [] = []
  keep p (x ∷ xs) = cond (p x) (x ∷ keep p xs) (keep p xs)

  -- whether some element passes a test
  abbrev pub any : (A → Bool) → List A → Bool
  any p [] = false
  any p (x ∷ xs) = p x || any p xs

  -- every element passes: told by a count, so that it carries over to lists of the same elements
  abbrev pub Every : (A → Bool) → List A → Type 0
  Every p xs = tally (λ y. not (p y)) xs ≡ 0

  -- each element is ahead of all that follow it
  abbrev pub Sorted : (A → A → Bool) → List A → Type 0
  Sorted r [] = Unit {0}
  Sorted r (x ∷ xs) = Every (r x) xs × Sorted r xs

  -- insertion before the first element that a test puts behind, and the order that it makes
  abbrev pub insert_by : (A → A → Bool) → A → List A → List A
  insert_by t x [] = x ∷ []
  insert_by t x (y ∷ ys) = cond (t x y) (x ∷ y ∷ ys) (y ∷ insert_by t x ys)

  abbrev pub sort_by : (A → A → Bool) → List A → List A
  sort_by t [] = []
  sort_by t (x ∷ xs) = insert_by t x (sort_by t xs)

  -- a slice whose front is written and whose rest is untouched
  abbrev pub overwrite : List A → List A → List A
  overwrite new old = new ++ drop (length new) old

-- the entries a up to but without b
abbrev pub part : ℕ → ℕ → List ℕ → List ℕ
part a b xs = take (b - a) (drop a xs)

-- ascending order
abbrev pub insert_number : ℕ → List ℕ → List ℕ
insert_number = insert_by leb

abbrev pub sorted : List ℕ → List ℕ
sorted = sort_by leb

-- every number is below n
abbrev pub Within : ℕ → List ℕ → Type 0
Within n [] = Unit {0}
Within n (x ∷ xs) = (x < n) × Within n xs

-- What a chain of iterators comes to, in the words of bits and model.
use Rattle.std.proofs.Common.{ℕ, ◌≡◌, List, [], ◌∷◌, Bool, ◌||◌, refl, sym, ap}
use Rattle.std.specs.List.{list_any, sum_by}
use Rattle.std.proofs.lemmas.List.Recursion.{is_sum_by}
use Rattle.bits.specs.Bits.{sum}
use Rattle.model.specs.Lists.{any}

pub any-list : (p : ℕ → Bool) (xs : List ℕ) → list_any p xs ≡ any p xs
any-list p [] = refl
any-list p (x ∷ xs) = ap (λ (b : Bool). p x || b) (any-list p xs)

pub sum-list : (xs : List ℕ) → sum_by (λ x. x) xs ≡ sum xs
sum-list xs = sym (is_sum_by sum (λ x. x) refl (λ _ _. refl) xs)

-- When a question of several terms is refused, and why: document 01's table "Refused, by place", 10 before 11.
use Rattle.std.specs.Prelude.{ℕ, List, ◌≡◌, ◌≤◌, ◌<◌, ◌⊎◌, length, All, Any}
use Rattle.plain.specs.declared.outcome.Refusal.{Refusal}
use Rattle.plain.specs.declared.outcome.Refusal.TheVariants as refusal

-- one to eight terms, each of a library of W
abbrev pub Terms : ℕ → List ℕ → Type 0
Terms W numbers = (1 ≤ length numbers) × (length numbers ≤ 8) × All (λ t. t < W) numbers

-- 10: no terms, or more than eight; 11: a term W or more, where they are one to eight
abbrev pub RefusedAs : ℕ → List ℕ → Refusal → Type 0
RefusedAs W numbers r =
    ((r ≡ refusal.TermCount) × ((length numbers ≡ 0) ⊎ (8 < length numbers)))
    ⊎ ((r ≡ refusal.Argument) × (1 ≤ length numbers) × (length numbers ≤ 8) × Any (λ t. W ≤ t) numbers)

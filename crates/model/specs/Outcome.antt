-- What an operation comes to. Document 01, "Refused, by place": the lowest number that applies is given.
use Rattle.std.specs.Prelude.{ℕ, Bool, cond}

-- an answer, or a refusal, which yields its number alone
pub data Outcome (A : Type 0) : Type 0 where
  answered : A → Outcome A
  refused : ℕ → Outcome A

-- refused under the number where the condition applies
abbrev pub refuse : {A : Type 0} → ℕ → Bool → Outcome A → Outcome A
refuse number applies rest = cond applies (refused number) rest

-- go on with an answer
abbrev pub and_then : {A B : Type 0} → Outcome A → (A → Outcome B) → Outcome B
and_then (answered x) next = next x
and_then (refused number) next = refused number

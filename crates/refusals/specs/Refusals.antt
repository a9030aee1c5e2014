-- The numbers of the refusals, and a result as the outcome that document 01 has. Document 01, "Refused, by place"; 18 and 19 are document 02's, M-104 and M-106.
use Rattle.std.specs.Prelude.{ℕ, Result, Ok, Err}
use Rattle.model.specs.Outcome.{Outcome, answered, refused}
use Rattle.refusals.specs.declared.Refusal.{Refusal}
use Rattle.refusals.specs.declared.Refusal.TheVariants as refusal

-- each refusal under its number in the table
abbrev pub refusal_number : Refusal → ℕ
refusal_number refusal.TooShort = 1
refusal_number refusal.Edition = 2
refusal_number refusal.Limits = 3
refusal_number refusal.Pairs = 4
refusal_number refusal.Length = 5
refusal_number refusal.TermTable = 6
refusal_number refusal.Sample = 7
refusal_number refusal.UnusedBit = 8
refusal_number refusal.Entry = 9
refusal_number refusal.TermCount = 10
refusal_number refusal.Argument = 11
refusal_number refusal.AnswerSlice = 12
refusal_number refusal.WorkSlice = 13
refusal_number refusal.WriterLimits = 14
refusal_number refusal.WriterEntry = 15
refusal_number refusal.WriterLengths = 16
refusal_number refusal.WriterTarget = 17
refusal_number refusal.Question = 18
refusal_number refusal.Set = 19

-- an answer by its value, or a refusal by its number
abbrev pub outcome_by : {T A : Type 0} → (T → A) → Result T Refusal → Outcome A
outcome_by value (Ok x) = answered (value x)
outcome_by value (Err r) = refused (refusal_number r)

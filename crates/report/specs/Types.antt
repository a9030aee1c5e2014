-- Text that is written into a slice from a place on, as far as the slice has room.
use Rattle.std.specs.Prelude.{ℕ, suc, ◌+◌, ◌*◌, ◌≤◌, min, ◌≡◌, List, [], ◌∷◌, ◌++◌, length, take, set}
use Rattle.model.specs.Outcome.{Outcome, answered, refused}
use Rattle.model.specs.TopK.{Ended, done_with, spent_with}
use Rattle.report.specs.Report.{lines_of, end_line, last_line, refused_word}

abbrev pub typed : List ℕ → ℕ → List ℕ → List ℕ
typed [] at out = out
typed (b ∷ bs) at out = typed bs (suc at) (set out at b)

-- the text is written from a place on, and r is the next one
pub record Types (text : List ℕ) (at : ℕ) (before : List ℕ) (r : ℕ) (after : List ℕ) : Type 0 where
  pub place : r ≡ min (at + length text) (length before)
  pub content : after ≡ typed text at before
  pub within : r ≤ length after
  pub size : length after ≡ length before

-- how many documents a search listed
abbrev pub listed_by : Ended → ℕ
listed_by (done_with n openings) = n
listed_by (spent_with n allowance) = n

-- the text of a search's answer, with three numbers a document in the answer slice
abbrev pub text_in : Outcome Ended → List ℕ → List ℕ
text_in (answered e) answers = lines_of (take (3 * listed_by e) answers) ++ end_line e
text_in (refused number) answers = last_line refused_word number

-- no more of them are listed than there can be documents
abbrev pub Listed : Outcome Ended → Type 0
Listed (answered e) = listed_by e ≤ 4096
Listed (refused number) = Unit {0}

-- Questions with and, or, not: their meaning, and the whole result. Document 02, M-104.
use Rattle.std.specs.Prelude.{ℕ, List, Bool, ◌&&◌, ◌||◌, length, leb, ltb}
use Rattle.std.proofs.Math.Option.{Option, none, some}
use Rattle.std.proofs.Math.Bool
use Rattle.bits.specs.Sequences.{below, occurrences}
use Rattle.model.specs.Lists.{keep, any, overwrite}
use Rattle.model.specs.Outcome.{Outcome, answered, refused, refuse, and_then}
use Rattle.model.specs.Format.{Library}
use Rattle.model.specs.Opening.{opened}
use Rattle.model.specs.Queries.{PairsResult, under}
use Rattle.model.specs.Grammar.{Expression, term, complement, both, either}
use Rattle.model.specs.Reading.{reading}

-- "A word means the sheets with an entry under it"
abbrev pub entered : Library → ℕ → ℕ → Bool
entered lib d t = ltb 0 (occurrences d (under lib t))

-- whether a document matches, given the terms that it has an entry under
abbrev pub matches : (ℕ → Bool) → Expression → Bool
matches has (term t) = has t
matches has (complement e) = Bool.not (matches has e)
matches has (both e f) = matches has e && matches has f
matches has (either e f) = matches has e || matches has f

-- "every matching sheet, ascending"; "Not means all other sheets of the library"
abbrev pub documents_of : Library → Expression → List ℕ
documents_of lib e = keep (λ d. matches (entered lib d) e) (below lib.documents)

-- the numbers of a question that are words
abbrev pub words_in : List ℕ → List ℕ
words_in question = keep (λ n. ltb n 4096) question

-- refusal 18: empty, too long, too deep or without a reading
abbrev pub or_unread : {A : Type 0} → Option A → Outcome A
or_unread none = refused 18
or_unread (some x) = answered x

-- "one number each", in the front of the answer slice
abbrev pub documents_into : List ℕ → Outcome (List ℕ) → PairsResult
documents_into answers (answered ds) = record { outcome = answered (length ds); answers = overwrite ds answers }
documents_into answers (refused number) = record { outcome = refused number; answers = answers }

-- 18 "after the archive's checks and before 11 and 12", where "12 here asks N numbers, and 10 is never given"; 11 looks at the words
abbrev pub boolean_result : List ℕ → List ℕ → List ℕ → PairsResult
boolean_result bytes question answers =
    documents_into answers
    (and_then (opened bytes)
    (λ lib.
    and_then (or_unread (reading question))
    (λ e.
    refuse 11 (any (leb (length lib.lengths)) (words_in question))
    (refuse 12 (ltb (length answers) lib.documents) (answered (documents_of lib e))))))

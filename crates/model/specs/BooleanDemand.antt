-- M-104 (document 02) as one record, a field for each of its sentences. `boolean/proofs/Demand` draws it from what the operation promises.
use Rattle.std.specs.Prelude.{ℕ, ◌≤◌, ◌<◌, ◌≡◌, List, true, false, ◌&&◌, length, leb, ltb}
use Rattle.bits.specs.Sequences.{bit, occurrences}
use Rattle.model.specs.Lists.{any, Sorted, overwrite}
use Rattle.model.specs.Outcome.{answered, refused}
use Rattle.model.specs.Format.{Library}
use Rattle.model.specs.Queries.{PairsResult}
use Rattle.model.specs.Grammar.{Expression, IsReading}
use Rattle.model.specs.Boolean.{entered, matches, words_in}

-- refused under a number, and the answer slice as it was
abbrev pub refused_as : ℕ → List ℕ → PairsResult
refused_as number out = record { outcome = refused number; answers = out }

-- of a library and a question: what is left where `out` was lent for the answers
pub record BooleanDemand (lib : Library) (question out : List ℕ) (result : PairsResult) : Type 0 where
  -- "the question's only reading": it has no second one
  pub only : (e f : Expression) → IsReading question e → IsReading question f → e ≡ f
  -- "It refuses as 18, .. before 11 and 12, a question that is empty, too long, too deep or has no reading" ..
  pub unread : ((e : Expression) → IsReading question e → ⊥) → result ≡ refused_as 18 out
  -- .. and no other
  pub unread_alone : (e : Expression) → IsReading question e → result.outcome ≡ refused 18 → ⊥
  -- 11 of document 01: "a word W or more", before 12
  pub unknown : (e : Expression) → IsReading question e → any (leb (length lib.lengths)) (words_in question) ≡ true → result ≡ refused_as 11 out
  -- "12 here asks N numbers"
  pub short : (e : Expression) → IsReading question e → any (leb (length lib.lengths)) (words_in question) ≡ false
      → length out < lib.documents → result ≡ refused_as 12 out
  -- "10 is never given here"
  pub never_10 : result.outcome ≡ refused 10 → ⊥
  -- "every matching sheet", once, and no other number
  pub documents : Expression → List ℕ
  pub every_matching : (e : Expression) (d : ℕ) → occurrences d (documents e) ≡ bit (ltb d lib.documents && matches (entered lib d) e)
  -- "ascending"
  pub ascending : (e : Expression) → Sorted ltb (documents e)
  -- "The answer is .. one number each, equal to the meaning of the question's only reading"; the rest of the slice is untouched
  pub answer : (e : Expression) → IsReading question e → any (leb (length lib.lengths)) (words_in question) ≡ false
      → lib.documents ≤ length out
      → result ≡ record { outcome = answered (length (documents e)); answers = overwrite (documents e) out }

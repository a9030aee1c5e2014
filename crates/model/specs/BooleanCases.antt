-- Worked cases of questions with and, or, not, document 02, M-104, proved on the definitions: answers of the small library, the refusals and their order,
-- lent slices one number short, just long enough and longer, and libraries of five documents and of more than 64. `ReadingCases` has the readings.
use Rattle.std.specs.Prelude.{ℕ, ◌-◌, ◌≡◌, refl, List, [], ◌∷◌, ◌++◌, map, length, replicate, drop}
use Rattle.bits.specs.Sequences.{below}
use Rattle.bits.specs.Bits.{bits_of, pack, samples_of, samples_right, unused_clear}
use Rattle.model.specs.Outcome.{answered, refused}
use Rattle.model.specs.Format.{library, encode}
use Rattle.model.specs.Opening.{entries_at, opening}
use Rattle.model.specs.Queries.{PairsResult}
use Rattle.model.specs.Boolean.{boolean_result}
use Rattle.model.specs.Cases.{small_archive, nines}
use Rattle.model.specs.ReadingCases.{AND, OR, NOT, OPEN, CLOSE, nested}

-- what a question comes to, and what it is to come to; the lent slice is so many nines

abbrev asked : List ℕ → ℕ → PairsResult
asked question answers = boolean_result small_archive question (nines answers)

abbrev gives : List ℕ → ℕ → PairsResult
gives documents answers = record { outcome = answered (length documents); answers = documents ++ nines (answers - length documents) }

abbrev refuses : ℕ → ℕ → PairsResult
refuses number answers = record { outcome = refused number; answers = nines answers }

-- term 0 has documents 0, 1 and 3, term 1 none, term 2 all
pub small_cases : map (λ question. asked question 4)
    ((2 ∷ AND ∷ NOT ∷ 0 ∷ [])
    ∷ (2 ∷ AND ∷ NOT ∷ 0 ∷ OR ∷ 1 ∷ [])
    ∷ (NOT ∷ 1 ∷ [])
    ∷ (0 ∷ OR ∷ 2 ∷ AND ∷ 1 ∷ [])
    ∷ (OPEN ∷ 0 ∷ OR ∷ 2 ∷ CLOSE ∷ AND ∷ 1 ∷ [])
    ∷ (NOT ∷ NOT ∷ 0 ∷ [])
    ∷ (NOT ∷ OPEN ∷ NOT ∷ 0 ∷ CLOSE ∷ [])
    ∷ (NOT ∷ 0 ∷ AND ∷ 1 ∷ [])
    ∷ (NOT ∷ OPEN ∷ 0 ∷ AND ∷ 1 ∷ CLOSE ∷ [])
    ∷ (0 ∷ AND ∷ 0 ∷ [])
    ∷ [])
    ≡ map (λ documents. gives documents 4)
    ((2 ∷ [])
    ∷ (2 ∷ [])
    ∷ (0 ∷ 1 ∷ 2 ∷ 3 ∷ [])
    ∷ (0 ∷ 1 ∷ 3 ∷ [])
    ∷ []
    ∷ (0 ∷ 1 ∷ 3 ∷ [])
    ∷ (0 ∷ 1 ∷ 3 ∷ [])
    ∷ []
    ∷ (0 ∷ 1 ∷ 2 ∷ 3 ∷ [])
    ∷ (0 ∷ 1 ∷ 3 ∷ [])
    ∷ [])
unfolding bits_of samples_right unused_clear entries_at opening
small_cases = refl

-- nine words, of which the last is given
abbrev nine : ℕ → List ℕ
nine last = 0 ∷ OR ∷ 0 ∷ OR ∷ 0 ∷ OR ∷ 0 ∷ OR ∷ 0 ∷ OR ∷ 0 ∷ OR ∷ 0 ∷ OR ∷ 0 ∷ OR ∷ last ∷ []

-- a document with two entries under a word; both sides of 'or', and more on the right of 'and'; more than eight words, which is no 10
pub small_further : map (λ question. asked question 4) ((2 ∷ []) ∷ (0 ∷ OR ∷ 2 ∷ []) ∷ (0 ∷ AND ∷ 2 ∷ []) ∷ nine 1 ∷ [])
    ≡ map (λ documents. gives documents 4) ((0 ∷ 1 ∷ 2 ∷ 3 ∷ []) ∷ (0 ∷ 1 ∷ 2 ∷ 3 ∷ []) ∷ (0 ∷ 1 ∷ 3 ∷ []) ∷ (0 ∷ 1 ∷ 3 ∷ []) ∷ [])
unfolding bits_of samples_right unused_clear entries_at opening
small_further = refl

-- a slice of N numbers is enough, and what stands behind the answer stays
pub rooms : asked (0 ∷ []) 9 ∷ asked (0 ∷ []) 4 ∷ asked (1 ∷ []) 3 ∷ []
    ≡ gives (0 ∷ 1 ∷ 3 ∷ []) 9 ∷ gives (0 ∷ 1 ∷ 3 ∷ []) 4 ∷ refuses 12 3 ∷ []
unfolding bits_of samples_right unused_clear entries_at opening
rooms = refl

-- a lent slice whose numbers differ: what stands behind the answer stays in its place, and all of it where refused
pub slices : boolean_result small_archive (0 ∷ []) (5 ∷ 6 ∷ 7 ∷ 8 ∷ 4 ∷ []) ∷ boolean_result small_archive (3 ∷ []) (5 ∷ 6 ∷ 7 ∷ 8 ∷ []) ∷ []
    ≡ record { outcome = answered 3; answers = 0 ∷ 1 ∷ 3 ∷ 8 ∷ 4 ∷ [] } ∷ record { outcome = refused 11; answers = 5 ∷ 6 ∷ 7 ∷ 8 ∷ [] } ∷ []
unfolding bits_of samples_right unused_clear entries_at opening
slices = refl

-- 18, and 18 before 11 and 12; a word of W or more is 11, before 12; marks are no words
pub refusals : asked [] 4
    ∷ asked (0 ∷ 0 ∷ []) 4
    ∷ asked (4096 ∷ []) 4
    ∷ asked (nested 9 (0 ∷ [])) 4
    ∷ asked (replicate 64 NOT ++ 0 ∷ []) 4
    ∷ asked (3 ∷ []) 4
    ∷ asked (4095 ∷ []) 4
    ∷ asked (0 ∷ OR ∷ NOT ∷ 3 ∷ []) 4
    ∷ asked (AND ∷ 3 ∷ []) 4
    ∷ asked (3 ∷ 3 ∷ []) 3
    ∷ asked (0 ∷ AND ∷ []) 3
    ∷ asked (3 ∷ []) 3
    ∷ asked (2 ∷ []) 3
    ∷ asked (nested 8 (2 ∷ [])) 3
    ∷ []
    ≡ refuses 18 4
    ∷ refuses 18 4
    ∷ refuses 18 4
    ∷ refuses 18 4
    ∷ refuses 18 4
    ∷ refuses 11 4
    ∷ refuses 11 4
    ∷ refuses 11 4
    ∷ refuses 18 4
    ∷ refuses 18 3
    ∷ refuses 18 3
    ∷ refuses 11 3
    ∷ refuses 12 3
    ∷ refuses 12 3
    ∷ []
unfolding bits_of samples_right unused_clear entries_at opening
refusals = refl

-- 11 by any of the words; each cause of 18 before 11 and 12, and after the archive's checks
pub refusals_further : asked (3 ∷ OR ∷ 3 ∷ OR ∷ 0 ∷ []) 4
    ∷ asked (nine 3) 4
    ∷ asked [] 3
    ∷ asked (replicate 64 NOT ++ 3 ∷ []) 3
    ∷ asked (nested 9 (3 ∷ [])) 3
    ∷ asked (4096 ∷ 3 ∷ []) 3
    ∷ boolean_result [] (replicate 64 NOT ++ 0 ∷ []) (nines 4)
    ∷ boolean_result [] (nested 9 (0 ∷ [])) (nines 4)
    ∷ boolean_result [] (4096 ∷ []) (nines 4)
    ∷ []
    ≡ refuses 11 4
    ∷ refuses 11 4
    ∷ refuses 18 3
    ∷ refuses 18 3
    ∷ refuses 18 3
    ∷ refuses 18 3
    ∷ refuses 1 4
    ∷ refuses 1 4
    ∷ refuses 1 4
    ∷ []
unfolding bits_of samples_right unused_clear entries_at opening
refusals_further = refl

-- the archive's own refusals come first: of 73 bytes
pub archive_first : boolean_result (drop 1 small_archive) [] [] ∷ boolean_result [] (0 ∷ 0 ∷ []) (nines 4) ∷ []
    ≡ refuses 2 0 ∷ refuses 1 4 ∷ []
unfolding bits_of samples_right unused_clear entries_at opening
archive_first = refl

-- 'not' ends at N, which need not be a power of two: five documents under height 3, and the last of them alone under term 1
abbrev five : List ℕ
five = encode (library 5 (2 ∷ 1 ∷ []) (0 ∷ 2 ∷ 4 ∷ []))

pub of_five : boolean_result five (NOT ∷ 0 ∷ []) (nines 6) ∷ boolean_result five (NOT ∷ OPEN ∷ 0 ∷ OR ∷ 1 ∷ CLOSE ∷ []) (nines 5) ∷ boolean_result five (0 ∷ []) (nines 4) ∷ []
    ≡ gives (1 ∷ 3 ∷ 4 ∷ []) 6 ∷ gives (1 ∷ 3 ∷ []) 5 ∷ refuses 12 4 ∷ []
unfolding encode bits_of pack samples_of samples_right unused_clear entries_at opening
of_five = refl

-- more than 64 documents, the last of them alone entered
abbrev many : List ℕ
many = encode (library 66 (1 ∷ []) (65 ∷ []))

pub of_many : boolean_result many (NOT ∷ 0 ∷ []) (nines 67) ∷ boolean_result many (0 ∷ []) (nines 66) ∷ boolean_result many (0 ∷ []) (nines 65) ∷ []
    ≡ gives (below 65) 67 ∷ gives (65 ∷ []) 66 ∷ refuses 12 65 ∷ []
unfolding encode bits_of pack samples_of samples_right unused_clear entries_at opening
of_many = refl

-- Worked cases of places, document 02, M-102, proved on the definitions: those that are there, one past the end where there is none, the refusals.
use Rattle.std.specs.Prelude.{ℕ, ◌≡◌, refl, List, [], ◌∷◌, map, take, replicate}
use Rattle.bits.specs.Bits.{bits_of, pack, samples_of, samples_right, unused_clear}
use Rattle.bits.specs.Sequences.{select}
use Rattle.model.specs.Outcome.{Outcome, answered, refused}
use Rattle.model.specs.Format.{Library, encode}
use Rattle.model.specs.Opening.{entries_at, opening}
use Rattle.model.specs.Queries.{select_result}
use Rattle.model.specs.Cases.{small_archive, lone}

-- ---- over a row of bits

abbrev row : List ℕ
row = 0 ∷ 1 ∷ 1 ∷ 0 ∷ 1 ∷ []

-- number 0 is not there either
pub ones : map (select 1 row) (0 ∷ 1 ∷ 2 ∷ 3 ∷ 4 ∷ 99 ∷ []) ≡ 5 ∷ 1 ∷ 2 ∷ 4 ∷ 5 ∷ 5 ∷ []
ones = refl

pub zeros : map (select 0 row) (0 ∷ 1 ∷ 2 ∷ 3 ∷ 4 ∷ 99 ∷ []) ≡ 5 ∷ 0 ∷ 3 ∷ 5 ∷ 5 ∷ 5 ∷ []
zeros = refl

-- an empty row ends at 0
pub empty_row : map (select 1 []) (0 ∷ 1 ∷ 2 ∷ []) ≡ 0 ∷ 0 ∷ 0 ∷ []
empty_row = refl

-- ---- over an archive

abbrev answers : List ℕ → List (Outcome ℕ)
answers = map answered

-- entries 3 1 0, none, 3 2 1 3 0: each document up to its last entry, and past it
pub of_document_0 : map (select_result small_archive 0) (1 ∷ 2 ∷ 3 ∷ 4 ∷ []) ≡ answers (2 ∷ 7 ∷ 8 ∷ 8 ∷ [])
unfolding bits_of samples_right unused_clear entries_at opening
of_document_0 = refl

pub of_document_1 : map (select_result small_archive 1) (1 ∷ 2 ∷ 3 ∷ []) ≡ answers (1 ∷ 5 ∷ 8 ∷ [])
unfolding bits_of samples_right unused_clear entries_at opening
of_document_1 = refl

pub of_document_2 : map (select_result small_archive 2) (1 ∷ 2 ∷ 4294967295 ∷ []) ≡ answers (4 ∷ 8 ∷ 8 ∷ [])
unfolding bits_of samples_right unused_clear entries_at opening
of_document_2 = refl

pub of_document_3 : map (select_result small_archive 3) (1 ∷ 2 ∷ 3 ∷ 4 ∷ []) ≡ answers (0 ∷ 3 ∷ 6 ∷ 8 ∷ [])
unfolding bits_of samples_right unused_clear entries_at opening
of_document_3 = refl

-- without rows
pub of_the_lone : map (select_result (encode lone) 0) (1 ∷ 3 ∷ 4 ∷ []) ≡ answers (0 ∷ 2 ∷ 3 ∷ [])
unfolding encode bits_of pack samples_of samples_right unused_clear entries_at opening
of_the_lone = refl

-- documents without entries, before the first entry and behind the last
abbrev gaps : Library
gaps = record { documents = 5; lengths = 2 ∷ 1 ∷ []; entries = 1 ∷ 3 ∷ 3 ∷ [] }

pub of_no_entry : map (λ d. select_result (encode gaps) d 1) (0 ∷ 1 ∷ 2 ∷ 3 ∷ 4 ∷ []) ≡ answers (3 ∷ 0 ∷ 3 ∷ 1 ∷ 3 ∷ [])
unfolding encode bits_of pack samples_of samples_right unused_clear entries_at opening
of_no_entry = refl

-- no entries at all: the end is place 0, with rows and without
abbrev empty : ℕ → Library
empty N = record { documents = N; lengths = 0 ∷ []; entries = [] }

pub of_nothing : map (λ d. select_result (encode (empty 4)) d 1) (0 ∷ 3 ∷ []) ≡ answers (0 ∷ 0 ∷ [])
unfolding encode bits_of pack samples_of samples_right unused_clear entries_at opening
of_nothing = refl

pub of_nothing_without_rows : map (select_result (encode (empty 1)) 0) (1 ∷ 2 ∷ []) ≡ answers (0 ∷ 0 ∷ [])
unfolding encode bits_of pack samples_of samples_right unused_clear entries_at opening
of_nothing_without_rows = refl

-- ---- refusals: a document N or more, j 0, both; the archive's before them, and a missing entry of a document that is not there

pub refusals : select_result small_archive 4 1 ∷ select_result small_archive 0 0 ∷ select_result small_archive 4 0 ∷ select_result small_archive 4 9 ∷ select_result (encode (empty 4)) 4 1 ∷ []
    ≡ replicate 5 (refused 11)
unfolding encode bits_of pack samples_of samples_right unused_clear entries_at opening
refusals = refl

pub archive_first : select_result (take 73 small_archive) 4 0 ∷ select_result (take 73 small_archive) 0 3 ∷ [] ≡ replicate 2 (refused 5)
unfolding bits_of samples_right unused_clear entries_at opening
archive_first = refl

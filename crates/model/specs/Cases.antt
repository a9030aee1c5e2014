-- The cases of document 01, "The small library": one list of questions, one list of answers, proved equal on the definitions.
use Rattle.std.specs.Prelude.{ℕ, ◌-◌, ◌*◌, ◌≡◌, refl, List, [], ◌∷◌, ◌++◌, map, length, take, replicate}
use Rattle.bits.specs.Bits.{bits_of, pack, samples_of, samples_right, unused_clear}
use Rattle.model.specs.Outcome.{Outcome, answered, refused}
use Rattle.model.specs.Format.{Library, Sizes, rows_of, encode}
use Rattle.model.specs.Opening.{entries_at, opening}
use Rattle.model.specs.Rate.{rate}
use Rattle.model.specs.Queries.{of_entries, access_result, rank_result, select_result, quantile_result, PairsResult, conjunction_result, per_mille_result}
use Rattle.model.specs.TopK.{Ended, done_with, spent_with, SearchResult, greedy_result}

-- ---- the small library

abbrev pub small : Library
small = record {
  documents = 4;
  lengths = 3 ∷ 0 ∷ 5 ∷ [];
  entries = 3 ∷ 1 ∷ 0 ∷ 3 ∷ 2 ∷ 1 ∷ 3 ∷ 0 ∷ [];
}

abbrev number : ℕ → List ℕ
number x = x ∷ 0 ∷ 0 ∷ 0 ∷ []

-- its 74 bytes: n, N, W; the pairs (40, 24), (64, 8), (72, 2); the term table; both samples; the rows 59 and B5
abbrev pub small_archive : List ℕ
small_archive =
    number 1 ++ number 8 ++ number 4 ++ number 3
    ++ number 40 ++ number 24 ++ number 64 ++ number 8 ++ number 72 ++ number 2
    ++ number 0 ++ number 3 ++ number 3 ++ number 0 ++ number 3 ++ number 5
    ++ number 0 ++ number 0
    ++ 0x59 ∷ 0xB5 ∷ []

pub small_archive_is : encode small ≡ small_archive
unfolding encode pack samples_of
small_archive_is = refl

-- ---- questions and what they come to

pub data Question : Type 0 where
  entry_at : ℕ → Question
  count_before : ℕ → ℕ → Question
  place_of : ℕ → ℕ → Question
  of_rank : ℕ → ℕ → ℕ → Question
  shortlist : ℕ → ℕ → ℕ → ℕ → Question
  all_of : List ℕ → Question
  per_mille : ℕ → ℕ → Question
  opens : Question

-- a lent slice holds nines; what it holds at the end is part of the reply
pub data Reply : Type 0 where
  number_is : Outcome ℕ → Reply
  pairs_are : PairsResult → Reply
  search_is : SearchResult Ended → Reply
  opening_is : Outcome Sizes → Reply

abbrev pub nines : ℕ → List ℕ
nines n = replicate n 9

abbrev pub ask : List ℕ → Question → Reply
ask archive (entry_at p) = number_is (access_result archive p)
ask archive (count_before d p) = number_is (rank_result archive d p)
ask archive (place_of j d) = number_is (select_result archive d j)
ask archive (of_rank r a b) = number_is (quantile_result archive (of_entries a b) r)
ask archive (shortlist a b k allowance) = search_is (greedy_result archive (of_entries a b) k allowance (nines 12) (nines 17))
ask archive (all_of terms) = pairs_are (conjunction_result archive (terms ++ nines 8) (length terms) (nines 9))
ask archive (per_mille c size) = number_is (per_mille_result c size)
ask archive opens = opening_is (opening archive)

-- a search of a library with N documents: how it ended, and the answer slice; the first 4 * N numbers of the work slice are 0
abbrev searched : ℕ → Ended → List ℕ → Reply
searched N ended slice = search_is (record { outcome = answered ended; answers = slice; work = replicate (4 * N) 0 ++ nines (17 - 4 * N) })

-- so many pairs, and the answer slice
abbrev listed : ℕ → List ℕ → Reply
listed n slice = pairs_are (record { outcome = answered n; answers = slice })

-- ---- the cases marked P

abbrev pub questions : List Question
questions =
    entry_at 4
    ∷ count_before 3 8
    ∷ count_before 3 3
    ∷ place_of 2 0
    ∷ place_of 3 0
    ∷ of_rank 4 0 8
    ∷ of_rank 7 0 8
    ∷ shortlist 0 8 2 9
    ∷ shortlist 0 8 1 2
    ∷ shortlist 1 4 3 2
    ∷ shortlist 1 4 3 3
    ∷ shortlist 3 5 1 2
    ∷ shortlist 4 4 5 0
    ∷ all_of (0 ∷ 2 ∷ [])
    ∷ all_of (0 ∷ 0 ∷ [])
    ∷ per_mille 3 16
    ∷ []

abbrev pub answers : List Reply
answers =
    number_is (answered 2)
    ∷ number_is (answered 3)
    ∷ number_is (answered 1)
    ∷ number_is (answered 7)
    ∷ number_is (answered 8)
    ∷ number_is (answered 2)
    ∷ number_is (answered 3)
    ∷ searched 4 (done_with 2 3) (3 ∷ 3 ∷ 0 ∷ 0 ∷ 2 ∷ 2 ∷ nines 6)
    ∷ searched 4 (spent_with 0 2) (nines 12)
    ∷ searched 4 (spent_with 2 2) (0 ∷ 1 ∷ 2 ∷ 1 ∷ 1 ∷ 1 ∷ nines 6)
    ∷ searched 4 (done_with 3 3) (0 ∷ 1 ∷ 2 ∷ 1 ∷ 1 ∷ 1 ∷ 3 ∷ 1 ∷ 3 ∷ nines 3)
    ∷ searched 4 (done_with 1 2) (2 ∷ 1 ∷ 4 ∷ nines 9)
    ∷ searched 4 (done_with 0 0) (nines 12)
    ∷ listed 3 (0 ∷ 2 ∷ 1 ∷ 2 ∷ 3 ∷ 3 ∷ nines 3)
    ∷ listed 3 (0 ∷ 1 ∷ 1 ∷ 1 ∷ 3 ∷ 1 ∷ nines 3)
    ∷ number_is (answered 188)
    ∷ []

pub cases : map (ask small_archive) questions ≡ answers
unfolding bits_of samples_right unused_clear entries_at opening rate
cases = refl

-- ---- the other cases of the table

-- one document, which has no rows
abbrev pub lone : Library
lone = record { documents = 1; lengths = 3 ∷ []; entries = 0 ∷ 0 ∷ 0 ∷ [] }

abbrev others : List Reply
others =
    ask small_archive (all_of (0 ∷ 1 ∷ []))
    ∷ ask (encode lone) (shortlist 0 3 1 0)
    ∷ ask (small_archive ++ 0 ∷ []) opens
    ∷ ask (take 73 small_archive) opens
    ∷ []

abbrev other_answers : List Reply
other_answers =
    listed 0 (nines 9)
    ∷ searched 1 (done_with 1 0) (0 ∷ 3 ∷ 0 ∷ nines 9)
    ∷ opening_is (refused 5)
    ∷ opening_is (refused 5)
    ∷ []

pub other_cases : others ≡ other_answers
unfolding encode bits_of pack samples_of samples_right unused_clear entries_at opening
other_cases = refl

-- ---- a wavelet tree and not a wavelet matrix, which arranges by the last bit alone: its third row would be 01

abbrev eight : Library
eight = record { documents = 8; lengths = 2 ∷ []; entries = 2 ∷ 5 ∷ [] }

pub tree_not_matrix : map pack (rows_of eight) ≡ (0x02 ∷ []) ∷ (0x01 ∷ []) ∷ (0x02 ∷ []) ∷ []
unfolding pack
tree_not_matrix = refl

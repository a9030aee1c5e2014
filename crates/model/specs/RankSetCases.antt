-- Worked cases of the count of a set of documents before a place, document 02, M-106, proved on the definitions: answers of the small library, sets of none, of
-- one and of all documents, the refusals and their order, and libraries of five documents and of 64 and 65.
use Rattle.std.specs.Prelude.{ℕ, ◌≡◌, refl, List, [], ◌∷◌, map, true, false, take, replicate}
use Rattle.bits.specs.Sequences.{up_from, below}
use Rattle.bits.specs.Bits.{bits_of, pack, samples_of, samples_right, unused_clear}
use Rattle.model.specs.Outcome.{Outcome, answered, refused}
use Rattle.model.specs.Format.{Library, encode}
use Rattle.model.specs.Opening.{entries_at, opening}
use Rattle.model.specs.RankSet.{ascending, union, rank_set_result}
use Rattle.model.specs.Cases.{small_archive, lone}

abbrev answers : List ℕ → List (Outcome ℕ)
answers = map answered

-- ---- sets

pub ascend : map ascending ([] ∷ (7 ∷ []) ∷ (0 ∷ 1 ∷ []) ∷ (0 ∷ 3 ∷ 4095 ∷ []) ∷ []) ≡ true ∷ true ∷ true ∷ true ∷ []
ascend = refl

-- one that is repeated, the last or the first two in the wrong order, and what ascends again behind them
pub do_not : map ascending ((1 ∷ 1 ∷ []) ∷ (3 ∷ 0 ∷ []) ∷ (0 ∷ 2 ∷ 1 ∷ []) ∷ (2 ∷ 1 ∷ 7 ∷ []) ∷ (0 ∷ 1 ∷ 1 ∷ 2 ∷ []) ∷ (0 ∷ 1 ∷ 0 ∷ 1 ∷ []) ∷ [])
    ≡ replicate 6 false
do_not = refl

pub joined : union (1 ∷ 5 ∷ 9 ∷ []) (0 ∷ 2 ∷ 7 ∷ []) ≡ 0 ∷ 1 ∷ 2 ∷ 5 ∷ 7 ∷ 9 ∷ []
joined = refl

-- ---- the small library: entries 3 1 0 3 2 1 3 0

abbrev before : List ℕ → List ℕ → List (Outcome ℕ)
before set = map (rank_set_result small_archive set)

pub of_two : before (0 ∷ 3 ∷ []) (0 ∷ 1 ∷ 2 ∷ 3 ∷ 4 ∷ 5 ∷ 6 ∷ 7 ∷ 8 ∷ []) ≡ answers (0 ∷ 1 ∷ 1 ∷ 2 ∷ 3 ∷ 3 ∷ 3 ∷ 4 ∷ 5 ∷ [])
unfolding bits_of samples_right unused_clear entries_at opening
of_two = refl

-- neighbours under one node, and not; three of four
pub of_more : map (λ set. rank_set_result small_archive set 8) ((0 ∷ 1 ∷ []) ∷ (1 ∷ 2 ∷ []) ∷ (2 ∷ 3 ∷ []) ∷ (0 ∷ 2 ∷ []) ∷ (0 ∷ 1 ∷ 3 ∷ []) ∷ (1 ∷ 2 ∷ 3 ∷ []) ∷ [])
    ≡ answers (4 ∷ 3 ∷ 4 ∷ 3 ∷ 7 ∷ 6 ∷ [])
unfolding bits_of samples_right unused_clear entries_at opening
of_more = refl

-- "An empty set counts 0"
pub of_none : before [] (0 ∷ 3 ∷ 8 ∷ []) ≡ answers (0 ∷ 0 ∷ 0 ∷ [])
unfolding bits_of samples_right unused_clear entries_at opening
of_none = refl

-- "the whole library .. counts p"
pub of_all : before (0 ∷ 1 ∷ 2 ∷ 3 ∷ []) (0 ∷ 1 ∷ 3 ∷ 7 ∷ 8 ∷ []) ≡ answers (0 ∷ 1 ∷ 3 ∷ 7 ∷ 8 ∷ [])
unfolding bits_of samples_right unused_clear entries_at opening
of_all = refl

-- "as well as one": places up to its entry, and past it
pub of_one : before (2 ∷ []) (4 ∷ 5 ∷ 8 ∷ []) ≡ answers (0 ∷ 1 ∷ 1 ∷ [])
unfolding bits_of samples_right unused_clear entries_at opening
of_one = refl

-- ---- other libraries

-- without rows
pub of_the_lone : map (rank_set_result (encode lone) (0 ∷ [])) (0 ∷ 2 ∷ 3 ∷ []) ≡ answers (0 ∷ 2 ∷ 3 ∷ [])
unfolding encode bits_of pack samples_of samples_right unused_clear entries_at opening
of_the_lone = refl

-- five documents, of which 0, 2 and 4 have no entries
abbrev gaps : Library
gaps = record { documents = 5; lengths = 2 ∷ 1 ∷ []; entries = 1 ∷ 3 ∷ 3 ∷ [] }

pub of_gaps : map (λ set. rank_set_result (encode gaps) set 3) ((0 ∷ 2 ∷ 4 ∷ []) ∷ (0 ∷ 3 ∷ []) ∷ (1 ∷ 4 ∷ []) ∷ (0 ∷ 1 ∷ 2 ∷ 3 ∷ 4 ∷ []) ∷ []) ≡ answers (0 ∷ 2 ∷ 1 ∷ 3 ∷ [])
unfolding encode bits_of pack samples_of samples_right unused_clear entries_at opening
of_gaps = refl

-- 64 documents are a set, and 65 are none
abbrev many : ℕ → Library
many N = record { documents = N; lengths = 5 ∷ []; entries = 63 ∷ 0 ∷ 31 ∷ 63 ∷ 32 ∷ [] }

pub of_64 : rank_set_result (encode (many 64)) (below 64) 5 ∷ rank_set_result (encode (many 64)) (below 64) 2 ∷ rank_set_result (encode (many 65)) (below 64) 4
    ∷ rank_set_result (encode (many 65)) (up_from 1 64) 5 ∷ [] ≡ answers (5 ∷ 2 ∷ 4 ∷ 4 ∷ [])
unfolding encode bits_of pack samples_of samples_right unused_clear entries_at opening
of_64 = refl

pub of_65 : rank_set_result (encode (many 65)) (below 65) 5 ≡ refused 19
unfolding encode bits_of pack samples_of samples_right unused_clear entries_at opening
of_65 = refl

-- ---- refusals

-- not strictly ascending, with a document N or more too, and with a place past n
pub not_ascending : rank_set_result small_archive (3 ∷ 0 ∷ []) 8 ∷ rank_set_result small_archive (1 ∷ 1 ∷ []) 8 ∷ rank_set_result small_archive (2 ∷ 1 ∷ 7 ∷ []) 8
    ∷ rank_set_result small_archive (7 ∷ 7 ∷ []) 8 ∷ rank_set_result small_archive (3 ∷ 0 ∷ []) 9 ∷ [] ≡ replicate 5 (refused 19)
unfolding bits_of samples_right unused_clear entries_at opening
not_ascending = refl

-- 65 of them, ascending or not, each N or more but four, and with a place past n
pub too_long : rank_set_result small_archive (below 65) 8 ∷ rank_set_result small_archive (replicate 65 0) 8 ∷ rank_set_result small_archive (below 65) 9 ∷ [] ≡ replicate 3 (refused 19)
unfolding bits_of samples_right unused_clear entries_at opening
too_long = refl

-- a document N or more, the last or all of them; 64 that ascend; a place past n, of some documents and of none; both
pub unknown : rank_set_result small_archive (4 ∷ []) 8 ∷ rank_set_result small_archive (0 ∷ 4 ∷ []) 8 ∷ rank_set_result small_archive (5 ∷ 4294967295 ∷ []) 0
    ∷ rank_set_result small_archive (below 64) 8 ∷ rank_set_result small_archive (0 ∷ []) 9 ∷ rank_set_result small_archive [] 9 ∷ rank_set_result small_archive (4 ∷ []) 9 ∷ []
    ≡ replicate 7 (refused 11)
unfolding bits_of samples_right unused_clear entries_at opening
unknown = refl

pub archive_first : rank_set_result (take 73 small_archive) (3 ∷ 0 ∷ []) 8 ∷ rank_set_result (take 73 small_archive) (4 ∷ []) 9 ∷ rank_set_result (take 73 small_archive) (0 ∷ []) 0 ∷ []
    ≡ replicate 3 (refused 5)
unfolding bits_of samples_right unused_clear entries_at opening
archive_first = refl

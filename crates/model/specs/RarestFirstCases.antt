-- Worked cases of the rarest term first, document 02, M-107, proved on the definitions: which of two terms comes first, orders of the small library and of
-- libraries that tell readings apart, the refusals and their order, and what weighted scores come to whichever way the terms are typed.
use Rattle.std.specs.Prelude.{ℕ, ◌-◌, ◌≡◌, refl, List, [], ◌∷◌, ◌++◌, map, true, false, length, take, replicate, set}
use Rattle.bits.specs.Bits.{bits_of, pack, samples_of, samples_right, unused_clear}
use Rattle.model.specs.Outcome.{answered, refused}
use Rattle.model.specs.Format.{Library, library, encode}
use Rattle.model.specs.Opening.{entries_at, opening}
use Rattle.model.specs.Queries.{PairsResult}
use Rattle.model.specs.RarestFirst.{rarer, rarest_first, rarest_first_result}
use Rattle.model.specs.TopK.{done_with, spent_with}
use Rattle.model.specs.Cases.{small, small_archive, nines, lone}
use Rattle.model.specs.WeightedCases.{Case, Hold, gives, mixed}

-- an archive is asked for these terms; past them stand nines, and eight nines are lent for the order
abbrev asked : List ℕ → List ℕ → PairsResult
asked archive terms = rarest_first_result archive (terms ++ nines 8) (length terms) (nines 8)

-- these terms stand in the front of what was lent, and then zeros; a refusal writes nothing
abbrev ordered : List ℕ → PairsResult
ordered terms = record { outcome = answered (length terms); answers = terms ++ replicate (8 - length terms) 0 }

abbrev refused_as : ℕ → PairsResult
refused_as number = record { outcome = refused number; answers = nines 8 }

-- ---- the small library: terms 0, 1, 2 have 3, 0 and 5 entries

pub of_small_lem : map (asked small_archive) ((2 ∷ 0 ∷ []) ∷ (2 ∷ 1 ∷ 0 ∷ []) ∷ (0 ∷ 0 ∷ 2 ∷ []) ∷ (1 ∷ []) ∷ (2 ∷ 2 ∷ []) ∷ [])
    ≡ map ordered ((0 ∷ 2 ∷ []) ∷ (1 ∷ 0 ∷ 2 ∷ []) ∷ (0 ∷ 2 ∷ []) ∷ (1 ∷ []) ∷ (2 ∷ []) ∷ [])
unfolding bits_of samples_right unused_clear entries_at opening
of_small_lem = refl

-- all orders of all three
pub of_all_orders : map (asked small_archive)
    ((0 ∷ 1 ∷ 2 ∷ []) ∷ (0 ∷ 2 ∷ 1 ∷ []) ∷ (1 ∷ 0 ∷ 2 ∷ []) ∷ (1 ∷ 2 ∷ 0 ∷ []) ∷ (2 ∷ 0 ∷ 1 ∷ []) ∷ (2 ∷ 1 ∷ 0 ∷ []) ∷ [])
    ≡ replicate 6 (ordered (1 ∷ 0 ∷ 2 ∷ []))
unfolding bits_of samples_right unused_clear entries_at opening
of_all_orders = refl

-- one is rarer than another, and none than itself
pub which_is_rarer : map (rarer small 0) (0 ∷ 1 ∷ 2 ∷ []) ++ map (rarer small 1) (0 ∷ 1 ∷ 2 ∷ []) ++ map (rarer small 2) (0 ∷ 1 ∷ 2 ∷ [])
    ≡ false ∷ false ∷ true ∷ true ∷ false ∷ true ∷ false ∷ false ∷ false ∷ []
which_is_rarer = refl

-- ---- cases that tell misreadings apart

-- term 0 has three entries, all of document 0, and term 1 two, of documents 1 and 2: by documents it would be 0 1
abbrev heap : Library
heap = library 4 (3 ∷ 2 ∷ []) (0 ∷ 0 ∷ 0 ∷ 1 ∷ 2 ∷ [])

-- ten terms that have 2, 1, 2, 0, 1, 0, 3, 1, 0 and 2 entries
abbrev ten : Library
ten = library 2 (2 ∷ 1 ∷ 2 ∷ 0 ∷ 1 ∷ 0 ∷ 3 ∷ 1 ∷ 0 ∷ 2 ∷ []) (replicate 12 1)

pub by_entries : map (asked (encode heap)) ((0 ∷ 1 ∷ []) ∷ (1 ∷ 0 ∷ []) ∷ []) ≡ replicate 2 (ordered (1 ∷ 0 ∷ []))
unfolding encode bits_of pack samples_of samples_right unused_clear entries_at opening
by_entries = refl

-- equal ones by number, as they stand and the other way round, of terms without entries too; repeated ones apart from each other; eight different ones, eight
-- that are one, and the last term
abbrev typed : List (List ℕ)
typed =
    (0 ∷ 2 ∷ 9 ∷ [])
    ∷ (9 ∷ 2 ∷ 0 ∷ [])
    ∷ (8 ∷ 5 ∷ 3 ∷ [])
    ∷ (7 ∷ 3 ∷ 1 ∷ 8 ∷ 4 ∷ [])
    ∷ (2 ∷ 6 ∷ 2 ∷ 1 ∷ 6 ∷ 2 ∷ 1 ∷ [])
    ∷ (9 ∷ 7 ∷ 6 ∷ 5 ∷ 4 ∷ 2 ∷ 1 ∷ 0 ∷ [])
    ∷ (6 ∷ 0 ∷ 2 ∷ 9 ∷ 1 ∷ 4 ∷ 7 ∷ 3 ∷ [])
    ∷ replicate 8 6
    ∷ []

pub of_ten : map (rarest_first ten) typed
    ≡ (0 ∷ 2 ∷ 9 ∷ [])
    ∷ (0 ∷ 2 ∷ 9 ∷ [])
    ∷ (3 ∷ 5 ∷ 8 ∷ [])
    ∷ (3 ∷ 8 ∷ 1 ∷ 4 ∷ 7 ∷ [])
    ∷ (1 ∷ 2 ∷ 6 ∷ [])
    ∷ (5 ∷ 1 ∷ 4 ∷ 7 ∷ 0 ∷ 2 ∷ 9 ∷ 6 ∷ [])
    ∷ (3 ∷ 1 ∷ 4 ∷ 7 ∷ 0 ∷ 2 ∷ 9 ∷ 6 ∷ [])
    ∷ (6 ∷ [])
    ∷ []
of_ten = refl

-- ---- refusals, each alone and of two that apply the earlier; the archive's numbers 1 to 9 in that order

abbrev refusals : List PairsResult
refusals =
    asked (take 39 small_archive) (0 ∷ [])
    ∷ asked (set small_archive 0 2) (0 ∷ [])
    ∷ asked (set small_archive 8 0) (0 ∷ [])
    ∷ asked (set small_archive 16 41) (0 ∷ [])
    ∷ asked (take 73 small_archive) (0 ∷ [])
    ∷ asked (set small_archive 40 1) (0 ∷ [])
    ∷ asked (set small_archive 64 1) (0 ∷ [])
    ∷ asked (set (encode (library 4 (2 ∷ []) (0 ∷ 0 ∷ []))) 57 4) (0 ∷ [])
    ∷ asked (encode (library 3 (1 ∷ []) (3 ∷ []))) (0 ∷ [])
    ∷ asked small_archive []
    ∷ asked small_archive (replicate 9 0)
    ∷ asked small_archive (3 ∷ [])
    ∷ asked small_archive (0 ∷ 2 ∷ 0 ∷ 0 ∷ 0 ∷ 0 ∷ 0 ∷ 3 ∷ [])
    ∷ asked small_archive (4294967295 ∷ 0 ∷ [])
    ∷ asked small_archive (replicate 9 3)
    ∷ asked (set small_archive 0 2) []
    ∷ asked (encode (library 3 (1 ∷ []) (3 ∷ []))) (replicate 9 0)
    ∷ asked (set small_archive 64 1) (3 ∷ [])
    ∷ []

pub refusal_cases : refusals
    ≡ map refused_as (1 ∷ 2 ∷ 3 ∷ 4 ∷ 5 ∷ 6 ∷ 7 ∷ 8 ∷ 9 ∷ 10 ∷ 10 ∷ 11 ∷ 11 ∷ 11 ∷ 10 ∷ 2 ∷ 9 ∷ 7 ∷ [])
unfolding encode bits_of pack samples_of samples_right unused_clear entries_at opening
refusal_cases = refl

-- eight equal ones are eight, and one document with one term is enough; what stands past the size is not looked at
pub limits : asked small_archive (replicate 8 2) ∷ asked (encode lone) (0 ∷ []) ∷ rarest_first_result small_archive (2 ∷ 0 ∷ 3 ∷ []) 2 (nines 8) ∷ []
    ≡ map ordered ((2 ∷ []) ∷ (0 ∷ []) ∷ (0 ∷ 2 ∷ []) ∷ [])
unfolding encode bits_of pack samples_of samples_right unused_clear entries_at opening
limits = refl

-- ---- "Every score stays what M-100 and M-101 make it, whichever way the words were typed": 8, 4 and 8 are the weights

abbrev of_mixed : List ℕ → Case
of_mixed terms = gives (encode mixed) terms 2 9 8 16 4 (done_with 2 3) (1 ∷ 16 ∷ 2 ∷ 8 ∷ [])

abbrev scores : List Case
scores =
    of_mixed (0 ∷ 1 ∷ 2 ∷ [])
    ∷ of_mixed (2 ∷ 1 ∷ 0 ∷ [])
    ∷ of_mixed (1 ∷ 2 ∷ 0 ∷ 1 ∷ 1 ∷ 0 ∷ 2 ∷ 2 ∷ [])
    ∷ gives small_archive (2 ∷ 0 ∷ []) 4 3 8 16 4 (done_with 4 3) (0 ∷ 1 ∷ 1 ∷ 1 ∷ 3 ∷ 1 ∷ 2 ∷ 0 ∷ [])
    ∷ gives small_archive (2 ∷ 1 ∷ 0 ∷ 2 ∷ []) 4 2 8 16 4 (spent_with 2 2) (0 ∷ 1 ∷ 1 ∷ 1 ∷ [])
    ∷ []

pub score_cases : Hold scores
unfolding encode bits_of pack samples_of samples_right unused_clear entries_at opening
score_cases = refl

-- Worked cases of repeated terms, document 02, M-101, proved on the definitions: which terms stand, what both questions answer, the refusals and their order.
use Rattle.std.specs.Prelude.{ℕ, ◌-◌, ◌≡◌, refl, List, [], ◌∷◌, ◌++◌, map, length, replicate}
use Rattle.bits.specs.Sequences.{below}
use Rattle.bits.specs.Bits.{bits_of, pack, samples_of, samples_right, unused_clear}
use Rattle.model.specs.Outcome.{answered, refused}
use Rattle.model.specs.Format.{encode}
use Rattle.model.specs.Opening.{entries_at, opening}
use Rattle.model.specs.Distinct.{distinct}
use Rattle.model.specs.Queries.{PairsResult, conjunction_result}
use Rattle.model.specs.TopK.{done_with, spent_with}
use Rattle.model.specs.Cases.{small_archive, nines}
use Rattle.model.specs.WeightedCases.{Case, Hold, gives, refuses, mixed}

-- ---- the terms that stand

abbrev typed : List (List ℕ)
typed =
    []
    ∷ (5 ∷ [])
    ∷ (0 ∷ 0 ∷ [])
    ∷ (0 ∷ 2 ∷ 0 ∷ [])
    ∷ (2 ∷ 0 ∷ 2 ∷ [])
    ∷ (0 ∷ 2 ∷ 2 ∷ [])
    ∷ (2 ∷ 0 ∷ 0 ∷ 2 ∷ 1 ∷ 0 ∷ 1 ∷ 2 ∷ [])
    ∷ below 8
    ∷ replicate 9 3
    ∷ []

-- the first stands, also where others stand between
pub first_stands : map distinct typed
    ≡ []
    ∷ (5 ∷ [])
    ∷ (0 ∷ [])
    ∷ (0 ∷ 2 ∷ [])
    ∷ (2 ∷ 0 ∷ [])
    ∷ (0 ∷ 2 ∷ [])
    ∷ (2 ∷ 0 ∷ 1 ∷ [])
    ∷ below 8
    ∷ (3 ∷ [])
    ∷ []
first_stands = refl

-- ---- the conjunction, of the small library: past the terms stand nines, and the lent slice is so many nines

abbrev all_of : List ℕ → ℕ → PairsResult
all_of terms answers = conjunction_result small_archive (terms ++ nines 8) (length terms) (nines answers)

abbrev found : ℕ → List ℕ → PairsResult
found answers numbers = record { outcome = answered 3; answers = numbers ++ nines (answers - 6) }

abbrev refused_as : ℕ → ℕ → PairsResult
refused_as answers number = record { outcome = refused number; answers = nines answers }

-- as the different terms alone, in whatever order, of two terms and of eight
pub conjunctions : map (λ terms. all_of terms 8) ((0 ∷ 2 ∷ []) ∷ (0 ∷ 2 ∷ 0 ∷ []) ∷ (2 ∷ 2 ∷ 0 ∷ []) ∷ (2 ∷ 0 ∷ 0 ∷ 2 ∷ 0 ∷ 2 ∷ 2 ∷ 0 ∷ []) ∷ [])
    ≡ replicate 4 (found 8 (0 ∷ 2 ∷ 1 ∷ 2 ∷ 3 ∷ 3 ∷ []))
unfolding bits_of samples_right unused_clear entries_at opening
conjunctions = refl

pub one_term : map (λ n. all_of (replicate n 0) 9) (1 ∷ 2 ∷ 8 ∷ []) ≡ replicate 3 (found 9 (0 ∷ 1 ∷ 1 ∷ 1 ∷ 3 ∷ 1 ∷ []))
unfolding bits_of samples_right unused_clear entries_at opening
one_term = refl

-- one without entries stands too
pub empty_term : all_of (0 ∷ 1 ∷ 0 ∷ []) 8 ≡ record { outcome = answered 0; answers = nines 8 }
unfolding bits_of samples_right unused_clear entries_at opening
empty_term = refl

-- eight are counted before dropping; 11 looks at all that were given; of two refusals the earlier
abbrev refusals : List PairsResult
refusals =
    all_of (replicate 9 0) 8
    ∷ all_of (0 ∷ 2 ∷ 0 ∷ 2 ∷ 0 ∷ 2 ∷ 0 ∷ 2 ∷ 0 ∷ []) 8
    ∷ all_of (3 ∷ 3 ∷ []) 8
    ∷ all_of (replicate 7 0 ++ 3 ∷ []) 8
    ∷ all_of (0 ∷ 0 ∷ []) 7
    ∷ all_of (replicate 9 3) 8
    ∷ all_of (replicate 9 0) 7
    ∷ all_of (0 ∷ 0 ∷ 3 ∷ []) 7
    ∷ []

pub refusal_cases : refusals
    ≡ refused_as 8 10 ∷ refused_as 8 10 ∷ refused_as 8 11 ∷ refused_as 8 11 ∷ refused_as 7 12 ∷ refused_as 8 10 ∷ refused_as 7 10 ∷ refused_as 7 11 ∷ []
unfolding bits_of samples_right unused_clear entries_at opening
refusal_cases = refl

-- a repeated term past the size is not looked at
pub past_the_size : conjunction_result small_archive (0 ∷ 2 ∷ 0 ∷ []) 1 (nines 8) ≡ found 8 (0 ∷ 1 ∷ 1 ∷ 1 ∷ 3 ∷ 1 ∷ [])
unfolding bits_of samples_right unused_clear entries_at opening
past_the_size = refl

-- ---- weighted top-k: scores and need are those of the different terms

abbrev scores : List Case
scores =
    gives small_archive (0 ∷ 2 ∷ 0 ∷ []) 4 3 8 16 4 (done_with 4 3) (0 ∷ 1 ∷ 1 ∷ 1 ∷ 3 ∷ 1 ∷ 2 ∷ 0 ∷ [])
    ∷ gives small_archive (0 ∷ 2 ∷ 2 ∷ 0 ∷ []) 4 2 8 16 4 (spent_with 2 2) (0 ∷ 1 ∷ 1 ∷ 1 ∷ [])
    ∷ gives small_archive (replicate 8 0) 4 3 8 16 4 (done_with 3 3) (0 ∷ 1 ∷ 1 ∷ 1 ∷ 3 ∷ 1 ∷ [])
    ∷ gives (encode mixed) (1 ∷ 0 ∷ 1 ∷ []) 4 3 8 16 4 (done_with 3 3) (1 ∷ 8 ∷ 2 ∷ 8 ∷ 3 ∷ 4 ∷ [])
    ∷ gives (encode mixed) (0 ∷ 2 ∷ 0 ∷ 1 ∷ 0 ∷ 2 ∷ []) 2 9 8 16 4 (done_with 2 3) (1 ∷ 16 ∷ 2 ∷ 8 ∷ [])
    ∷ refuses small_archive (0 ∷ 2 ∷ 0 ∷ 2 ∷ 0 ∷ 2 ∷ 0 ∷ 2 ∷ 0 ∷ []) 4 3 8 16 10
    ∷ refuses small_archive (0 ∷ 3 ∷ 0 ∷ 3 ∷ []) 4 3 8 16 11
    ∷ refuses small_archive (0 ∷ 0 ∷ []) 4 3 7 16 12
    ∷ refuses small_archive (0 ∷ 0 ∷ []) 4 3 8 15 13
    ∷ []

pub score_cases : Hold scores
unfolding encode bits_of pack samples_of samples_right unused_clear entries_at opening
score_cases = refl

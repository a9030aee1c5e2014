-- Worked cases of first places, document 02, M-108, proved on the definitions: the readings told apart, the room that is asked for, the order of refusals.
use Rattle.std.specs.Prelude.{ℕ, ◌≡◌, refl, List, [], ◌∷◌, ◌++◌, map, take, replicate}
use Rattle.bits.specs.Bits.{bits_of, pack, samples_of, samples_right, unused_clear}
use Rattle.model.specs.Outcome.{answered, refused}
use Rattle.model.specs.Format.{encode}
use Rattle.model.specs.Opening.{entries_at, opening}
use Rattle.model.specs.Queries.{Range, of_entries, of_terms, PairsResult, first_place, list_result}
use Rattle.model.specs.TopK.{Ended, done_with, spent_with, SearchResult, greedy_result, probing_result}
use Rattle.model.specs.Cases.{small_archive, lone, nines}

-- ---- over a plain list: the entries 3 up to 8 of the small library are 3 2 1 3 0

pub places : map (first_place 3 (3 ∷ 2 ∷ 1 ∷ 3 ∷ 0 ∷ [])) (0 ∷ 1 ∷ 2 ∷ 3 ∷ []) ≡ 7 ∷ 5 ∷ 4 ∷ 3 ∷ []
places = refl

-- ---- listing

abbrev lists : ℕ → List ℕ → PairsResult
lists n slice = record { outcome = answered n; answers = slice }

abbrev listed : Range → ℕ → PairsResult
listed range room = list_result small_archive range (nines room)

-- the small library is 3 1 0, none, 3 2 1 3 0: documents that stand before the range too, twice in it, at its first and at its last place
pub listings :
    map (λ r. listed r 13) (of_entries 3 8 ∷ of_terms 2 2 ∷ of_entries 0 8 ∷ of_entries 4 7 ∷ of_entries 8 8 ∷ of_terms 1 1 ∷ [])
    ≡ lists 4 (0 ∷ 1 ∷ 7 ∷ 1 ∷ 1 ∷ 5 ∷ 2 ∷ 1 ∷ 4 ∷ 3 ∷ 2 ∷ 3 ∷ nines 1)
    ∷ lists 4 (0 ∷ 1 ∷ 7 ∷ 1 ∷ 1 ∷ 5 ∷ 2 ∷ 1 ∷ 4 ∷ 3 ∷ 2 ∷ 3 ∷ nines 1)
    ∷ lists 4 (0 ∷ 2 ∷ 2 ∷ 1 ∷ 2 ∷ 1 ∷ 2 ∷ 1 ∷ 4 ∷ 3 ∷ 3 ∷ 0 ∷ nines 1)
    ∷ lists 3 (1 ∷ 1 ∷ 5 ∷ 2 ∷ 1 ∷ 4 ∷ 3 ∷ 1 ∷ 6 ∷ nines 4)
    ∷ lists 0 (nines 13)
    ∷ lists 0 (nines 13)
    ∷ []
unfolding bits_of samples_right unused_clear entries_at opening
listings = refl

-- 12 asks three numbers for each of the N documents, however many are listed; 11 and the archive's refusals come before it
abbrev declined : ℕ → List ℕ → PairsResult
declined number slice = record { outcome = refused number; answers = slice }

pub listing_room :
    listed (of_entries 3 8) 11 ∷ listed (of_entries 3 8) 8 ∷ listed (of_entries 8 8) 11 ∷ listed (of_entries 5 4) 11 ∷ listed (of_entries 0 9) 0
    ∷ list_result (take 73 small_archive) (of_entries 5 4) [] ∷ listed (of_entries 7 8) 12 ∷ []
    ≡ declined 12 (nines 11) ∷ declined 12 (nines 8) ∷ declined 12 (nines 11) ∷ declined 11 (nines 11) ∷ declined 11 [] ∷ declined 5 []
    ∷ lists 1 (0 ∷ 1 ∷ 7 ∷ nines 9) ∷ []
unfolding bits_of samples_right unused_clear entries_at opening
listing_room = refl

-- ---- both searches

abbrev found : {A : Type 0} → A → List ℕ → SearchResult A
found answer slice = record { outcome = answered answer; answers = slice; work = replicate 16 0 ++ nines 1 }

abbrev greedy : Range → ℕ → ℕ → ℕ → SearchResult Ended
greedy range k allowance room = greedy_result small_archive range k allowance (nines room) (nines 17)

-- 'done', 'spent' with a front part, nothing listed, k above N, and k 0
pub greedily :
    greedy (of_entries 3 8) 2 9 7 ∷ greedy (of_terms 2 2) 2 9 6 ∷ greedy (of_entries 1 4) 3 2 9 ∷ greedy (of_entries 3 8) 2 1 6 ∷ greedy (of_entries 0 8) 5 3 12
    ∷ greedy (of_entries 3 8) 0 0 0 ∷ []
    ≡ found (done_with 2 3) (3 ∷ 2 ∷ 3 ∷ 0 ∷ 1 ∷ 7 ∷ nines 1)
    ∷ found (done_with 2 3) (3 ∷ 2 ∷ 3 ∷ 0 ∷ 1 ∷ 7 ∷ [])
    ∷ found (spent_with 2 2) (0 ∷ 1 ∷ 2 ∷ 1 ∷ 1 ∷ 1 ∷ nines 3)
    ∷ found (spent_with 0 1) (nines 6)
    ∷ found (done_with 4 3) (3 ∷ 3 ∷ 0 ∷ 0 ∷ 2 ∷ 2 ∷ 1 ∷ 2 ∷ 1 ∷ 2 ∷ 1 ∷ 4 ∷ [])
    ∷ found (done_with 0 0) []
    ∷ []
unfolding bits_of samples_right unused_clear entries_at opening
greedily = refl

abbrev probing : Range → ℕ → ℕ → SearchResult ℕ
probing range k room = probing_result small_archive range k (nines room) (nines 17)

pub by_probing :
    probing (of_entries 1 4) 3 10 ∷ probing (of_terms 2 2) 1 3 ∷ probing (of_entries 3 8) 9 12 ∷ probing (of_entries 2 2) 4 12 ∷ []
    ≡ found 3 (0 ∷ 1 ∷ 2 ∷ 1 ∷ 1 ∷ 1 ∷ 3 ∷ 1 ∷ 3 ∷ nines 1)
    ∷ found 1 (3 ∷ 2 ∷ 3 ∷ [])
    ∷ found 4 (3 ∷ 2 ∷ 3 ∷ 0 ∷ 1 ∷ 7 ∷ 1 ∷ 1 ∷ 5 ∷ 2 ∷ 1 ∷ 4 ∷ [])
    ∷ found 0 (nines 12)
    ∷ []
unfolding bits_of samples_right unused_clear entries_at opening
by_probing = refl

-- 12 asks 3 * min k N; 11 comes before it and 13 behind it
abbrev lacking : {A : Type 0} → ℕ → List ℕ → List ℕ → SearchResult A
lacking number slice work = record { outcome = refused number; answers = slice; work = work }

pub search_room :
    greedy (of_entries 3 8) 2 9 5 ∷ greedy (of_entries 8 8) 2 9 5 ∷ greedy (of_entries 3 8) 4294967295 9 11 ∷ greedy (of_entries 3 9) 2 9 5
    ∷ greedy_result small_archive (of_entries 3 8) 2 9 (nines 5) (nines 15) ∷ greedy_result small_archive (of_entries 3 8) 2 9 (nines 6) (nines 15) ∷ []
    ≡ lacking 12 (nines 5) (nines 17) ∷ lacking 12 (nines 5) (nines 17) ∷ lacking 12 (nines 11) (nines 17) ∷ lacking 11 (nines 5) (nines 17)
    ∷ lacking 12 (nines 5) (nines 15) ∷ lacking 13 (nines 6) (nines 15) ∷ []
unfolding bits_of samples_right unused_clear entries_at opening
search_room = refl

pub probing_room :
    probing (of_entries 3 8) 2 5 ∷ probing (of_entries 3 8) 5 11 ∷ probing_result small_archive (of_terms 0 2) 1 (nines 2) [] ∷ probing_result small_archive (of_terms 0 2) 1 (nines 3) [] ∷ []
    ≡ lacking 12 (nines 5) (nines 17) ∷ lacking 12 (nines 11) (nines 17) ∷ lacking 12 (nines 2) [] ∷ lacking 13 (nines 3) [] ∷ []
unfolding bits_of samples_right unused_clear entries_at opening
probing_room = refl

-- ---- one document, which has no rows

pub of_the_lone : list_result (encode lone) (of_entries 1 3) (nines 3) ∷ list_result (encode lone) (of_entries 3 3) (nines 4) ∷ []
    ≡ lists 1 (0 ∷ 2 ∷ 1 ∷ []) ∷ lists 0 (nines 4) ∷ []
unfolding encode bits_of pack samples_of samples_right unused_clear entries_at opening
of_the_lone = refl

-- Worked cases of the weighted shortlist, document 02, M-100, proved on the definitions: those that tell readings apart, the refusals and their order, lent
-- slices one number short, just long enough and longer, and the ends of the limits.
use Rattle.std.specs.Prelude.{ℕ, ◌-◌, ◌*◌, ◌≡◌, refl, List, [], ◌∷◌, ◌++◌, map, length, take, replicate, set}
use Rattle.bits.specs.Sequences.{up_from, below}
use Rattle.bits.specs.Bits.{bits_of, pack, samples_of, samples_right, unused_clear}
use Rattle.model.specs.Outcome.{answered, refused}
use Rattle.model.specs.Format.{Library, library, encode}
use Rattle.model.specs.Opening.{entries_at, opening}
use Rattle.model.specs.Queries.{pair, flat}
use Rattle.model.specs.TopK.{node, Ended, done_with, spent_with, SearchResult}
use Rattle.model.specs.Search.{names, opens, finds_spent}
use Rattle.model.specs.Weighted.{weight, weighed, weighted_begin, weighted_moves, weighted_result}
use Rattle.model.specs.Cases.{small, small_archive, nines, lone}

-- ---- weights

-- of 4 documents, by df: for 0 by rule; for 1, 2 and 4 2 ^ g * df ^ 4 is N ^ 4
pub weights_of_4 : map (weight 4) (below 5) ≡ 0 ∷ 8 ∷ 4 ∷ 1 ∷ 0 ∷ []
weights_of_4 = refl

-- the largest there is and the next, the last that fits and the next, and one document
pub weights : (weight 4096 1 ≡ 48) × (weight 4095 1 ≡ 47) × (weight 4096 3444 ≡ 1) × (weight 4096 3445 ≡ 0) × (weight 1 1 ≡ 0)
weights = (refl, refl, refl, refl, refl)

-- ---- questions and what they come to

-- what a question comes to, and what it is to come to
pub record Case : Type 0 where
  pub result : SearchResult Ended
  pub expected : SearchResult Ended

abbrev pub Hold : List Case → Type 0
Hold cases = map (λ c. c.result) cases ≡ map (λ c. c.expected) cases

-- an archive is asked for these terms, with k and an allowance; past the terms stand nines, and the lent slices are so many nines
module _ (archive terms : List ℕ) (k allowance answers work : ℕ) where
  abbrev asked : SearchResult Ended
  asked = weighted_result archive (terms ++ nines 8) (length terms) k allowance (nines answers) (nines work)

  -- of N documents: how it ended, and the pairs in front of the answer slice
  abbrev pub gives : ℕ → Ended → List ℕ → Case
  gives N ended pairs = record {
    result = asked;
    expected = record {
      outcome = answered ended;
      answers = pairs ++ nines (answers - length pairs);
      work = replicate (4 * N) 0 ++ nines (work - 4 * N);
    };
  }

  -- a refusal writes nothing
  abbrev pub refuses : ℕ → Case
  refuses number = record { result = asked; expected = record { outcome = refused number; answers = nines answers; work = nines work } }

-- ---- the small library: term 0 weighs 1, term 2 weighs 0, and term 1 has no entries

-- with slices just as long as asked for k 4
abbrev of_small : List ℕ → ℕ → ℕ → Ended → List ℕ → Case
of_small terms k allowance ended pairs = gives small_archive terms k allowance 8 16 4 ended pairs

abbrev small_case_list : List Case
small_case_list =
    of_small (0 ∷ 2 ∷ []) 4 3 (done_with 4 3) (0 ∷ 1 ∷ 1 ∷ 1 ∷ 3 ∷ 1 ∷ 2 ∷ 0 ∷ [])
    ∷ of_small (0 ∷ 2 ∷ []) 4 2 (spent_with 2 2) (0 ∷ 1 ∷ 1 ∷ 1 ∷ [])
    ∷ of_small (0 ∷ 2 ∷ []) 1 1 (spent_with 0 1) []
    ∷ of_small (2 ∷ []) 4 3 (done_with 4 3) (0 ∷ 0 ∷ 1 ∷ 0 ∷ 2 ∷ 0 ∷ 3 ∷ 0 ∷ [])
    ∷ of_small (1 ∷ []) 2 0 (done_with 0 0) []
    ∷ of_small (0 ∷ 0 ∷ []) 2 2 (done_with 2 2) (0 ∷ 1 ∷ 1 ∷ 1 ∷ [])
    ∷ []

pub small_cases : Hold small_case_list
unfolding bits_of samples_right unused_clear entries_at opening
small_cases = refl

-- ---- cases that tell misreadings apart

-- one term found twice in one document, which weighs 8: by its entries it would weigh 4
abbrev pile : Library
pile = library 4 (2 ∷ []) (0 ∷ 0 ∷ [])

-- three terms that weigh 8, 4 and 8
abbrev pub mixed : Library
mixed = library 4 (1 ∷ 3 ∷ 1 ∷ []) (1 ∷ 2 ∷ 2 ∷ 3 ∷ 1 ∷ [])

abbrev telling_case_list : List Case
telling_case_list =
    gives (encode pile) (0 ∷ []) 4 2 8 16 4 (done_with 1 2) (0 ∷ 16 ∷ [])
    ∷ gives (encode pile) (0 ∷ []) 4 1 8 16 4 (spent_with 0 1) []
    ∷ gives (encode mixed) (0 ∷ 1 ∷ []) 4 3 8 16 4 (done_with 3 3) (1 ∷ 8 ∷ 2 ∷ 8 ∷ 3 ∷ 4 ∷ [])
    ∷ gives (encode mixed) (0 ∷ 1 ∷ 2 ∷ []) 2 9 8 16 4 (done_with 2 3) (1 ∷ 16 ∷ 2 ∷ 8 ∷ [])
    ∷ gives (encode lone) (0 ∷ []) 1 0 2 4 1 (done_with 1 0) (0 ∷ 0 ∷ [])
    ∷ []

pub telling_cases : Hold telling_case_list
unfolding encode bits_of pack samples_of samples_right unused_clear entries_at opening
telling_cases = refl

-- one term in eleven documents of thirteen, which weighs 0: of the fifteen nodes two have no entry, and are no part of the need.
-- Its cases are proved in `proofs/WeightedCases`
abbrev pub row : Library
row = library 13 (11 ∷ []) (up_from 2 11)

-- so many documents from 2 on, with score 0
abbrev of_row : ℕ → ℕ → Ended → ℕ → Case
of_row k allowance ended n = gives (encode row) (0 ∷ []) k allowance (2 * k) 52 13 ended (flat (map (λ d. pair d 0) (up_from 2 n)))

abbrev pub row_case_list : List Case
row_case_list =
    of_row 1 9 (done_with 1 4) 1
    ∷ of_row 1 4 (done_with 1 4) 1
    ∷ of_row 1 3 (spent_with 0 3) 0
    ∷ of_row 11 14 (done_with 11 13) 11
    ∷ of_row 11 13 (done_with 11 13) 11
    ∷ of_row 11 12 (spent_with 10 12) 10
    ∷ of_row 11 10 (spent_with 8 10) 8
    ∷ []

-- ---- refusals, each alone: k 4, allowance 3, slices of 8 and 16 numbers, and the refusal

abbrev refusals : List Case
refusals =
    refuses (take 39 small_archive) (0 ∷ []) 4 3 8 16 1
    ∷ refuses (set small_archive 0 2) (0 ∷ []) 4 3 8 16 2
    ∷ refuses (set small_archive 8 0) (0 ∷ []) 4 3 8 16 3
    ∷ refuses (set small_archive 16 41) (0 ∷ []) 4 3 8 16 4
    ∷ refuses (take 73 small_archive) (0 ∷ []) 4 3 8 16 5
    ∷ refuses (set small_archive 40 1) (0 ∷ []) 4 3 8 16 6
    ∷ refuses (set small_archive 64 1) (0 ∷ []) 4 3 8 16 7
    ∷ refuses (set (encode pile) 57 4) (0 ∷ []) 4 3 8 16 8
    ∷ refuses (encode (library 3 (1 ∷ []) (3 ∷ []))) (0 ∷ []) 4 3 8 16 9
    ∷ refuses small_archive [] 4 3 8 16 10
    ∷ refuses small_archive (replicate 9 0) 4 3 8 16 10
    ∷ refuses small_archive (3 ∷ []) 4 3 8 16 11
    ∷ refuses small_archive (0 ∷ []) 4 3 7 16 12
    ∷ refuses small_archive (0 ∷ []) 4 3 8 15 13
    ∷ []

pub refusal_cases : Hold refusals
unfolding encode bits_of pack samples_of samples_right unused_clear entries_at opening
refusal_cases = refl

-- ---- of two refusals that apply, the earlier

abbrev orders : List Case
orders =
    refuses (set small_archive 0 2) [] 4 3 8 16 2
    ∷ refuses (set (encode pile) 57 4) (replicate 9 0) 4 3 8 16 8
    ∷ refuses (encode (library 3 (1 ∷ []) (3 ∷ []))) [] 4 3 8 16 9
    ∷ refuses small_archive (replicate 9 3) 4 3 8 16 10
    ∷ refuses small_archive (3 ∷ []) 4 3 7 16 11
    ∷ refuses small_archive (0 ∷ []) 4 3 7 15 12
    ∷ []

pub order_cases : Hold orders
unfolding encode bits_of pack samples_of samples_right unused_clear entries_at opening
order_cases = refl

-- ---- lent slices, and the ends of the limits

abbrev limits : List Case
limits =
    -- slices longer than asked; 12 asks for min k N pairs, for k below, at and above N
    gives small_archive (0 ∷ 2 ∷ []) 4 3 9 17 4 (done_with 4 3) (0 ∷ 1 ∷ 1 ∷ 1 ∷ 3 ∷ 1 ∷ 2 ∷ 0 ∷ [])
    ∷ gives small_archive (0 ∷ 2 ∷ []) 3 3 6 16 4 (done_with 3 3) (0 ∷ 1 ∷ 1 ∷ 1 ∷ 3 ∷ 1 ∷ [])
    ∷ refuses small_archive (0 ∷ 2 ∷ []) 3 3 5 16 12
    ∷ gives small_archive (0 ∷ 2 ∷ []) 5 3 8 16 4 (done_with 4 3) (0 ∷ 1 ∷ 1 ∷ 1 ∷ 3 ∷ 1 ∷ 2 ∷ 0 ∷ [])
    ∷ refuses small_archive (0 ∷ 2 ∷ []) 5 3 7 16 12
    -- even where fewer are found
    ∷ refuses small_archive (1 ∷ []) 4 3 7 16 12
    -- k 0, and the largest k and allowance
    ∷ gives small_archive (0 ∷ 2 ∷ []) 0 0 0 16 4 (done_with 0 0) []
    ∷ refuses small_archive (0 ∷ 2 ∷ []) 0 0 0 15 13
    ∷ gives small_archive (0 ∷ []) 0xFFFFFFFF 0xFFFFFFFF 8 16 4 (done_with 3 3) (0 ∷ 1 ∷ 1 ∷ 1 ∷ 3 ∷ 1 ∷ [])
    -- eight terms; the eighth is looked at
    ∷ gives small_archive (2 ∷ 0 ∷ 1 ∷ 2 ∷ 0 ∷ 2 ∷ 1 ∷ 0 ∷ []) 4 3 8 16 4 (done_with 4 3) (0 ∷ 1 ∷ 1 ∷ 1 ∷ 3 ∷ 1 ∷ 2 ∷ 0 ∷ [])
    ∷ refuses small_archive (replicate 7 0 ++ 3 ∷ []) 4 3 8 16 11
    ∷ []

pub limit_cases : Hold limits
unfolding bits_of samples_right unused_clear entries_at opening
limit_cases = refl

-- what stands past the size is not looked at, a term that the archive has or not
pub past_the_size : weighted_result small_archive (2 ∷ 0 ∷ 3 ∷ []) 1 1 3 (nines 2) (nines 16)
    ≡ record { outcome = answered (done_with 1 2); answers = 0 ∷ 0 ∷ []; work = replicate 16 0 }
unfolding bits_of samples_right unused_clear entries_at opening
past_the_size = refl

-- ---- the moves

-- the root waits with the score of all entries, one or more, even where that is 0; without an entry nothing waits
pub begins : map (λ ws. weighted_begin ws 2) (weighed small (0 ∷ 2 ∷ []) ∷ weighed mixed (0 ∷ []) ∷ weighed small (2 ∷ []) ∷ weighed small (1 ∷ []) ∷ [])
    ≡ (record { block = node 2 0; count = 3 } ∷ []) ∷ (record { block = node 2 0; count = 8 } ∷ []) ∷ (record { block = node 2 0; count = 0 } ∷ []) ∷ [] ∷ []
begins = refl

-- the last opening is of a node with score 1, whose lower half waits with score 0
pub moves_small : weighted_moves (weighed small (0 ∷ 2 ∷ [])) 2 4 3
    ≡ opens (node 2 0) ∷ opens (node 1 0) ∷ names (pair 0 1) ∷ names (pair 1 1) ∷ opens (node 1 1) ∷ names (pair 3 1) ∷ names (pair 2 0) ∷ []
moves_small = refl

pub moves_spent : weighted_moves (weighed small (0 ∷ 2 ∷ [])) 2 4 2 ≡ opens (node 2 0) ∷ opens (node 1 0) ∷ names (pair 0 1) ∷ names (pair 1 1) ∷ finds_spent ∷ []
moves_spent = refl

-- the node of 0 and 1 has no entry, and does not wait
pub moves_row : weighted_moves (weighed row (0 ∷ [])) 4 1 9
    ≡ opens (node 4 0) ∷ opens (node 3 0) ∷ opens (node 2 0) ∷ opens (node 1 1) ∷ names (pair 2 0) ∷ []
moves_row = refl

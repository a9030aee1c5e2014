-- What a question of top-k asks to search, or its refusal, and the answers. Document 01, the shortlists and refusals 1 to 13.
use Rattle.std.specs.Prelude.{ℕ, ◌*◌, min, List, Result, ltb}
use Rattle.model.specs.Lists.{part}
use Rattle.model.specs.Outcome.{Outcome, answered, refuse, and_then}
use Rattle.model.specs.Opening.{opened, contents}
use Rattle.model.specs.Queries as model
use Rattle.model.specs.Queries.{Bounds, bounds_of}
use Rattle.model.specs.TopK.{Ended, Found, SearchResult}
use Rattle.refusals.specs.declared.Refusal.{Refusal}
use Rattle.refusals.specs.Refusals.{outcome_by}
use Rattle.search.specs.declared.Search.{Search}
use Rattle.search.specs.Sought.{Asked, entries_of, greedy_of, probing_of}

-- ---- the answers

-- how many documents, or the number of a refusal
abbrev pub probed_of : Result ℕ Refusal → Outcome ℕ
probed_of = outcome_by (λ x. x)

-- the answer, with the final content of the lent slices
abbrev pub probed_is : Result ℕ Refusal → List ℕ → List ℕ → SearchResult ℕ
probed_is r answers work = record { outcome = probed_of r; answers = answers; work = work }

-- what is found where the question is not refused
abbrev pub greedy_found : ℕ → ℕ → Outcome Asked → Outcome (Found Ended)
greedy_found k allowance asked = and_then asked (λ x. answered (greedy_of k allowance x))

abbrev pub probing_found : ℕ → Outcome Asked → Outcome (Found ℕ)
probing_found k asked = and_then asked (λ x. answered (probing_of k x))

-- ---- the question

-- refusals 12, three numbers a document (M-108), and 13, where slices of the given lengths are lent
abbrev pub with_room : ℕ → ℕ → ℕ → Asked → Outcome Asked
with_room k answers work x =
    refuse 12 (ltb answers (3 * min k x.documents)) (refuse 13 (ltb work (4 * x.documents)) (answered x))

-- all refusals, else what is searched: as `search_result` has it
abbrev pub asked : List ℕ → model.Range → ℕ → ℕ → ℕ → Outcome Asked
asked bytes r k answers work =
    and_then (opened bytes)
    (λ lib.
    and_then (bounds_of lib r)
    (λ ends. with_room k answers work (record { documents = lib.documents; from = ends.from; entries = part ends.from ends.to lib.entries })))

-- ---- the question as the code holds it

-- the same where the archive is opened, by the ends of the range or its refusal
abbrev pub posed : List ℕ → ℕ → ℕ → ℕ → Outcome Bounds → Outcome Asked
posed bytes k answers work bounds =
    and_then bounds
    (λ ends. with_room k answers work (record { documents = (contents bytes).documents; from = ends.from; entries = part ends.from ends.to (contents bytes).entries }))

-- what a search searches, or the number of a refusal
abbrev pub asked_in : Result Search Refusal → Outcome Asked
asked_in = outcome_by entries_of

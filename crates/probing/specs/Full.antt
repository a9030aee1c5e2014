-- The result that probing promises: the full list, and how many pairs it has.
use Rattle.std.specs.Prelude.{ℕ, List}
use Rattle.model.specs.Outcome.{answered}
use Rattle.model.specs.TopK.{Found, SearchResult}
use Rattle.search.specs.declared.Search.{Search}
use Rattle.search.specs.Sought.{entries_of, probing_pairs}

-- the answer, with the final content of the lent slices
abbrev pub listed_is : ℕ → List ℕ → List ℕ → SearchResult ℕ
listed_is n answers work = record { outcome = answered n; answers = answers; work = work }

-- what is to be found: as `probing_result` has it for an accepted question
abbrev pub full_in : Search → ℕ → Found ℕ
full_in s k = probing_pairs k (entries_of s)

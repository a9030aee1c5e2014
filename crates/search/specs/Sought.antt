-- What a search takes, on the definitions' side, and what it is to find. Document 01, "The questions", both shortlists.
use Rattle.std.specs.Prelude.{ℕ, List, length}
use Rattle.wavelet.specs.Levels.{entries_in}
use Rattle.model.specs.Lists.{part}
use Rattle.model.specs.Rows.{height}
use Rattle.model.specs.Queries.{Pair, flat}
use Rattle.model.specs.TopK.{Ended, Found, top_k, found_of, with_places, full_list}
use Rattle.search.specs.declared.Search.{Search}

-- the entries of the range
abbrev pub range_of : Search → List ℕ
range_of s = part s.a s.b (entries_in s.tree.bytes.now s.tree.levels)

-- what is searched: the entries of a range of a library with N documents, and where the range starts
pub record Asked : Type 0 where
  pub documents : ℕ
  pub from : ℕ
  pub entries : List ℕ

-- what is searched by a search
abbrev pub entries_of : Search → Asked
entries_of s = record { documents = s.documents; from = s.a; entries = range_of s }

-- what is found, by how its pairs go into the answer slice
abbrev pub greedy_by : (List Pair → List ℕ) → ℕ → ℕ → Asked → Found Ended
greedy_by write k allowance x = found_of write x.documents (top_k (height x.documents) x.documents x.entries k allowance)

abbrev pub probing_by : (List Pair → List ℕ) → ℕ → Asked → Found ℕ
probing_by write k x =
    let full = full_list x.documents k x.entries in
    record { documents = x.documents; numbers = write full; answer = length full }

-- the searches leave pairs
abbrev pub greedy_pairs : ℕ → ℕ → Asked → Found Ended
greedy_pairs = greedy_by flat

abbrev pub probing_pairs : ℕ → Asked → Found ℕ
probing_pairs = probing_by flat

-- the questions answer them with the first places, as `greedy_result` and `probing_result` have it (M-108)
abbrev pub greedy_of : ℕ → ℕ → Asked → Found Ended
greedy_of k allowance x = greedy_by (with_places x.from x.entries) k allowance x

abbrev pub probing_of : ℕ → Asked → Found ℕ
probing_of k x = probing_by (with_places x.from x.entries) k x

-- Sets of documents under a node of the wavelet tree, and their counts by a place in it.
use Rattle.std.specs.Prelude.{ℕ, ◌+◌, ◌-◌, ◌^◌, ◌≤◌, ◌<◌, ◌≡◌, List, length, get_or}
use Rattle.model.specs.Walk.{key}
use Rattle.model.specs.RankSet.{rank_set}
use Rattle.wavelet.specs.declared.Levels.{Levels}
use Rattle.wavelet.specs.declared.Halves.{Halves}
use Rattle.wavelet.specs.declared.Place.{Place}
use Rattle.wavelet.specs.Levels.{entries_in}
use Rattle.wavelet.specs.Spans.{span_at}
use Rattle.wavelet.specs.Descents.{Toward}
use Rattle.rank_set.specs.declared.Places.{Places}
use Rattle.rank_set.specs.Sets.{Ascends}

-- documents, at least one, ascending, that are all under one node of depth j in a tree of height h
pub record Under (h j : ℕ) (set : List ℕ) : Type 0 where
  pub deep : j ≤ h
  pub some : 0 < length set
  pub ascends : Ascends set
  pub fit : (i : ℕ) → i < length set → get_or set i 0 < 2 ^ h
  pub together : (i : ℕ) → i < length set → key h j (get_or set i 0) ≡ key h j (get_or set 0 0)

-- the lowest node that all are under: below it, the first and the last part
pub record IsLowest (h j : ℕ) (set : List ℕ) (depth : ℕ) : Type 0 where
  pub below : j ≤ depth
  pub under : Under h depth set
  pub part : depth < h → key h (depth + 1) (get_or set 0 0) ≡ key h (depth + 1) (get_or set (length set - 1) 0) → ⊥

-- p is where a place of the list stands in the node of depth j
pub record Reached (bytes : List ℕ) (t : Levels) (set : List ℕ) (j : ℕ) (p : Place) : Type 0 where
  pub place : ℕ
  pub inside : place ≤ t.entries
  pub toward : Toward bytes t place place (get_or set 0 0) j (span_at p)

-- a place in both halves of a node
abbrev pub places_of : Places → Halves
places_of two = record { zero = span_at two.zero; one = span_at two.one }

-- whichever place of the list stands at p, so many of the entries before it belong to the set
abbrev pub CountsAt : List ℕ → Levels → List ℕ → ℕ → Place → ℕ → Type 0
CountsAt bytes t set j p r = (i : ℕ) → i ≤ t.entries → Toward bytes t i i (get_or set 0 0) j (span_at p) → r ≡ rank_set set (entries_in bytes t) i

-- The ground of the greedy search has what the laws of moves ask.
use Prim.Native.Nat.{ℕ, ◌+◌, ◌^◌, ◌≤◌, ◌<◌}
use native.Mathlib.Omega.{arith}
use mathlib.Core.Path.{◌≡◌, sym, ap}
use mathlib.Core.List.{List}
use lib.ListN.{length}
use Rattle.model.specs.Lists.{Within}
use Rattle.model.specs.Queries.{flat}
use Rattle.model.specs.TopK.{count_in, found_of}
use Rattle.model.specs.Search.{Waiting, answer_of, occupied, moves_from}
use Rattle.model.proofs.Lists.{within_part, within_le}
use Rattle.model.proofs.Height.{le_pow-height}
use Rattle.model.proofs.Greedy.Counts.{counted, outside, begin-root}
use Rattle.wavelet.specs.Levels.{entries_in}
use Rattle.wavelet.proofs.Stored.{length-entries_in}
use Rattle.moves.specs.Results.{found_by}
use Rattle.moves.proofs.Grounds.{Sound}
use Rattle.search.specs.declared.Search.{Search}
use Rattle.search.specs.Sought.{range_of}
use Rattle.greedy.specs.Grounds.{ground_of, found_in}

module _ (s : Search) where
  -- the range ends inside the entries, of which there are fewer than 2 ^ 16
  pub inside : s.b ≤ length (entries_in s.tree.bytes.now s.tree.levels)
  inside = let i = s.searchable.inside in omega (arith, length-entries_in s.tree.bytes.now s.tree.levels)

  pub few : length (entries_in s.tree.bytes.now s.tree.levels) < 65536
  few = let f = s.searchable.stored.few in omega (arith, length-entries_in s.tree.bytes.now s.tree.levels)

  pub range_within : Within s.documents (range_of s)
  range_within = within_part s.documents s.a s.b (entries_in s.tree.bytes.now s.tree.levels) s.searchable.within

  pub documents_fit : s.documents ≤ 2 ^ s.tree.levels.height
  documents_fit = rw s.searchable.high (le_pow-height s.documents)

  pub sound : Sound (ground_of s)
  sound = record {
    low = s.searchable.stored.low;
    some = s.searchable.some;
    few = s.searchable.few;
    fits = documents_fit;
    counted = counted (range_of s);
    outside = λ d l u. outside s.documents (range_of s) range_within d l;
  }

  -- the moves on it are those of the search
  pub found_is : (k allowance : ℕ) → found_by (ground_of s) k allowance ≡ found_in s k allowance
  found_is k allowance =
      ap (λ (w : List Waiting). found_of flat s.documents (answer_of (moves_from (count_in (range_of s)) (occupied (range_of s)) (k + allowance) k allowance w)))
      (sym (begin-root s.tree.levels.height (range_of s) (within_le s.documents (2 ^ s.tree.levels.height) documents_fit (range_of s) range_within)))

-- The ground of the greedy search, and what it is to find. Document 01, "The questions", the shortlist.
use Rattle.std.specs.Prelude.{ℕ, ◌-◌}
use Rattle.model.specs.Queries.{flat}
use Rattle.model.specs.TopK.{Node, node, count_in, Ended, Found, found_of}
use Rattle.model.specs.Search.{answer_of, occupied, search_moves}
use Rattle.wavelet.specs.declared.Span.{Span}
use Rattle.wavelet.specs.Levels.{entries_in}
use Rattle.wavelet.specs.Spans.{span_of}
use Rattle.moves.specs.Ground.{Ground}
use Rattle.search.specs.declared.Search.{Search}
use Rattle.search.specs.Sought.{range_of}
use Rattle.greedy.specs.Records.{node_places, range_places}

-- a node's places, and those of the range in it
abbrev pub span_at : Search → Node → Span
span_at s (node l q) = span_of s.tree.levels.height (entries_in s.tree.bytes.now s.tree.levels) s.a s.b (s.tree.levels.height - l) q

-- a node counts the range's entries in it, and with none it never waits
abbrev pub ground_of : Search → Ground
ground_of s = record {
  height = s.tree.levels.height;
  documents = s.documents;
  count = count_in (range_of s);
  lives = occupied (range_of s);
  third = λ n. node_places (span_at s n);
  fourth = λ n. range_places (span_at s n);
}

-- the pairs and the answer that are read off the moves. They are those of `greedy_result` (`model/proofs/Greedy/Theorem`)
abbrev pub found_in : Search → ℕ → ℕ → Found Ended
found_in s k allowance = found_of flat s.documents (answer_of (search_moves s.tree.levels.height (range_of s) k allowance))

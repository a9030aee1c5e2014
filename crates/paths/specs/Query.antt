-- Where the terms of a question lie.
use Rattle.std.specs.Prelude.{ℕ, ◌≡◌, List, length}
use Rattle.wavelet.specs.declared.Span.{Span}
use Rattle.wavelet.specs.declared.Ranked.{Ranked}
use Rattle.wavelet.specs.Levels.{level_of}
use Rattle.wavelet.specs.Spans.{ranked_of}
use Rattle.paths.specs.declared.query.Query.{Query}
use Rattle.paths.specs.Paths.{term_span, passed_span}

-- how many terms it has
abbrev pub size : Query → ℕ
size q = length q.terms.now

-- the places of its terms in the nodes
abbrev pub spans : Query → ℕ → ℕ → ℕ → Span
spans q = term_span q.archive.bytes.now q.archive.layout q.terms.now

-- the places that a walk with all terms holds
abbrev pub passes : Query → ℕ → ℕ → ℕ → Span
passes q = passed_span q.archive.bytes.now q.archive.layout q.terms.now

-- the bits of a level
abbrev pub bits : Query → ℕ → List ℕ
bits q level = level_of q.archive.bytes.now q.archive.layout.levels level

-- a node of a level with its ranks
abbrev pub Known : Query → ℕ → ℕ → Ranked → Type 0
Known q level number node = node ≡ ranked_of (bits q level) (spans q level number 0).start (spans q level number 0).end

-- ranks that are right by the bounds beside them
abbrev pub RanksItself : Query → ℕ → Ranked → Type 0
RanksItself q level node = node ≡ ranked_of (bits q level) node.start node.end

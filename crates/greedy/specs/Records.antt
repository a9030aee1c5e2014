-- A waiting node with the range in it as a record of the frontier: four numbers.
use Rattle.std.specs.Prelude.{ℕ, ◌+◌, ◌-◌, ◌*◌, ◌/◌, ◌%◌, ◌^◌, List}
use Rattle.frontier.specs.declared.Record.{Record}
use Rattle.wavelet.specs.declared.Span.{Span}
use Rattle.wavelet.specs.Spans.{halves_of}

-- the node's places, and the range's places in it, each two as a number
abbrev pub node_places : Span → ℕ
node_places s = s.start * 65536 + s.end

abbrev pub range_places : Span → ℕ
range_places s = s.lo * 65536 + s.hi

-- the count; the start and the depth; the places
unfoldable pub packed : ℕ → ℕ → Span → Record
packed start depth s = record {
  first = s.hi - s.lo;
  second = start * 16 + depth;
  third = node_places s;
  fourth = range_places s;
}

-- the places back
abbrev pub span_in : Record → Span
span_in r = record { start = r.third / 65536; lo = r.fourth / 65536; hi = r.fourth % 65536; end = r.third % 65536 }

-- the halves of a node in a level of the given bits
abbrev pub zero_of : List ℕ → Record → Record
zero_of bits r = packed (r.second / 16) (r.second % 16 + 1) (halves_of bits (span_in r)).zero

abbrev pub one_of : ℕ → List ℕ → Record → Record
one_of h bits r = packed (r.second / 16 + 2 ^ (h - 1 - r.second % 16)) (r.second % 16 + 1) (halves_of bits (span_in r)).one

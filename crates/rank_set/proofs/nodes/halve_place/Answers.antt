use mathlib.Core.Path.{ap}
use Rattle.wavelet.specs.declared.Halves.{Halves}
use Rattle.wavelet.specs.Spans.{span}
use Rattle.rank_set.proofs.nodes.halve_place.Goals as goal

pub halve-two-requires : goal.halve-two-requires
halve-two-requires c = c.requires

pub returns : goal.returns
returns c =
    ap (λ (two : Halves). record {
      zero = span two.zero.start two.zero.lo two.zero.lo two.zero.end;
      one = span two.one.start two.one.lo two.one.lo two.one.end;
    }) c.halve-two.ensures.0

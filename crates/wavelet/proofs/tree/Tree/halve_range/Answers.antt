use native.Mathlib.Omega.{arith}
use mathlib.Core.Path.{ap}
use Rattle.wavelet.specs.declared.Ranked.{Ranked}
use Rattle.wavelet.specs.Spans.{span_in}
use Rattle.wavelet.proofs.Halved.{on_lower, halves_fit, halves_made}
use Rattle.wavelet.proofs.tree.Tree.halve_range.Goals as goal

pub map_end-lower-requires-clause-before_value : goal.map_end-lower-requires-clause-before_value
map_end-lower-requires-clause-before_value c =
    let before = ap (λ (r : Ranked). r.before) c.requires.j_lt_height.1 in
    (before, omega (arith, before))

pub map_end-upper-requires-clause-before_value : goal.map_end-upper-requires-clause-before_value
map_end-upper-requires-clause-before_value c =
    let g = c.args in
    let l = c.requires.j_lt_height in
    on_lower g.self.now g.j l.0 (span_in g.node g.lo g.hi) l.2 (ap (λ (r : Ranked). r.before) l.1) c.map_end-lower.ensures

pub take_halves-requires : goal.take_halves-requires
take_halves-requires c =
    let g = c.args in
    let l = c.requires.j_lt_height in
    halves_fit g.self.now g.j l.0 (span_in g.node g.lo g.hi) l.2 c.map_end-lower.ensures c.map_end-upper.ensures (ap (λ (r : Ranked). r.middle) l.1)

pub returns : goal.returns
returns c =
    let g = c.args in
    let l = c.requires.j_lt_height in
    halves_made g.self.now g.j l.0 (span_in g.node g.lo g.hi) l.2 c.map_end-lower.ensures c.map_end-upper.ensures (ap (λ (r : Ranked). r.middle) l.1)
    c.take_halves.ensures

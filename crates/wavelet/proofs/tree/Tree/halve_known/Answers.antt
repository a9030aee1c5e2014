use native.Mathlib.Omega.{arith}
use Rattle.wavelet.proofs.Halved.{on_lower, on_upper, on_end, middle_inside, middle_is, halves_fit, halves_made}
use Rattle.wavelet.proofs.tree.Tree.halve_known.Goals as goal

pub map_end-upper-requires-clause-before_value : goal.map_end-upper-requires-clause-before_value
map_end-upper-requires-clause-before_value c =
    let l = c.requires.j_lt_height in
    on_lower c.args.self.now c.args.j l.0 c.args.s l.1 l.2 c.map_end-lower.ensures

pub map_end-all-requires-clause-before_value : goal.map_end-all-requires-clause-before_value
map_end-all-requires-clause-before_value c =
    let l = c.requires.j_lt_height in
    on_upper c.args.self.now c.args.j l.0 c.args.s l.1 l.2 c.map_end-upper.ensures

pub overflow_add-s : goal.overflow_add-s
overflow_add-s c =
    let l = c.requires.j_lt_height in
    omega (arith, middle_inside c.args.self.now c.args.j l.0 c.args.s l.1 c.map_end-all.ensures, c.args.self.now.stored.few)

pub take_halves-two-requires : goal.take_halves-two-requires
take_halves-two-requires c =
    let g = c.args in
    let l = c.requires.j_lt_height in
    halves_fit g.self.now g.j l.0 g.s l.1 c.map_end-lower.ensures c.map_end-upper.ensures (middle_is g.self.now g.j l.0 g.s l.1 c.map_end-all.ensures)

pub overflow_add-result : goal.overflow_add-result
overflow_add-result c =
    let l = c.requires.j_lt_height in
    omega (arith, (on_end c.args.self.now c.args.j l.0 c.args.s l.1 l.2 c.map_end-all.ensures).1, c.args.self.now.stored.few)

pub returns : goal.returns
returns c =
    let g = c.args in
    let l = c.requires.j_lt_height in
    let made = halves_made g.self.now g.j l.0 g.s l.1 c.map_end-lower.ensures c.map_end-upper.ensures (middle_is g.self.now g.j l.0 g.s l.1 c.map_end-all.ensures)
    c.take_halves-two.ensures in
    record { two_value = (made.0, (on_end g.self.now g.j l.0 g.s l.1 l.2 c.map_end-all.ensures).0); ordered = (made.1, made.2) }

use Rattle.std.proofs.Common.{arith}
use Rattle.model.proofs.Weighted.Weights.{weight_le_48}
use Rattle.weights.proofs.Fourths.{fourth_fits, fourth_some, times_some, by_logarithm}
use Rattle.weights.proofs.weight.weight_of.Goals as goal

pub pow-requires : goal.pow-requires
pow-requires c = rw c.from.ensures (fourth_fits c.args.documents c.requires.1)

pub pow-requires-2 : goal.pow-requires-2
pow-requires-2 c = rw c.from-2.ensures (fourth_fits c.args.df (omega arith))

pub nonzero_div-times : goal.nonzero_div-times
nonzero_div-times c = rw (c.pow-2.ensures, c.from-2.ensures) (fourth_some c.args.documents c.args.df (omega arith) c.requires.0)

pub ilog2-requires : goal.ilog2-requires
ilog2-requires c =
    rw (c.pow.ensures, c.pow-2.ensures, c.from.ensures, c.from-2.ensures) (times_some c.args.documents c.args.df (omega arith) c.requires.0)

pub returns : goal.returns
returns c =
    let a = c.args in
    let low = rw (c.pow.ensures, c.pow-2.ensures, c.from.ensures, c.from-2.ensures) at c.ilog2.ensures.power_le in
    let high = rw (c.pow.ensures, c.pow-2.ensures, c.from.ensures, c.from-2.ensures) at c.ilog2.ensures.next_power_gt in
    let e = by_logarithm a.documents a.df (omega arith) c.requires.0 c.ilog2.result low high in
    (e, omega (arith, e, weight_le_48 a.documents a.df c.requires.1))

use native.Mathlib.Omega.{arith}
use Rattle.paths.proofs.TermSpans.{term_known}
use Rattle.paths.proofs.Filling.{filling_next, filling_end}
use Rattle.weighted.proofs.weigh.weigh.Invariants.{weight_of}
use Rattle.weighted.proofs.weigh.weigh.Goals as goal

pub weight_in-requires : goal.weight_in-requires
weight_in-requires c = term_known c.args.query.now c.loop-k.k (omega arith)

pub loop-k-preserved : goal.loop-k-preserved
loop-k-preserved c =
    let q = c.args.query.now in
    filling_next (weight_of q.archive.bytes.now) q.terms.now q.chosen.few c.loop-k.invariant (omega arith) c.weight_in.result c.weight_in.ensures

pub returns : goal.returns
returns c =
    let q = c.args.query.now in
    filling_end (weight_of q.archive.bytes.now) q.terms.now q.chosen.few c.loop-k.invariant (omega arith)

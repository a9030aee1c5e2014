use native.Mathlib.Omega.{arith}
use Rattle.paths.proofs.Ways.{way_above}
use Rattle.paths.proofs.walk.meet.Goals as goal

pub overflow_sub-j : goal.overflow_sub-j
overflow_sub-j c =
    let s = c in
    let o = c.loop-j.invariant in
    let up = way_above s.args.from s.args.to c.loop-j.j s.requires.0 s.requires.1 o.0 o.1 c.loop-j-test.true in
    up

pub loop-j-smaller : goal.loop-j-smaller
loop-j-smaller c =
    let s = c in
    let o = c.loop-j.invariant in
    let up = way_above s.args.from s.args.to c.loop-j.j s.requires.0 s.requires.1 o.0 o.1 c.loop-j-test.true in
    omega arith

pub loop-j-preserved : goal.loop-j-preserved
loop-j-preserved c =
    let o = c.loop-j.invariant in
    (omega arith, omega arith)

pub returns : goal.returns
returns c =
    let o = c.loop-j.invariant in
    record { here = o.0; there = o.1; same = c.loop-j-test.false }

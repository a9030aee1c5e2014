use native.Mathlib.Omega.{arith}
use Rattle.archive.proofs.Opened.{fitting}
use Rattle.queries.proofs.Results.{access_out, access_is}
use Rattle.queries.proofs.entry.access_opened.Goals as goal

pub returns-then-archive-p : goal.returns-then-archive-p
returns-then-archive-p c =
    let g = c.args in
    access_out g.archive.now.bytes.now g.archive.now.layout g.archive.now.opened g.place c.if-archive-p.true

pub overflow_cast-result : goal.overflow_cast-result
overflow_cast-result c =
    let g = c.args in
    omega (arith, c.access_in.ensures.1, (fitting g.archive.now.bytes.now g.archive.now.layout g.archive.now.opened).documents)

pub returns : goal.returns
returns c =
    let g = c.args in
    access_is g.archive.now.bytes.now g.archive.now.layout g.archive.now.opened g.place c.access_in.result c.if-archive-p.false c.access_in.ensures.0

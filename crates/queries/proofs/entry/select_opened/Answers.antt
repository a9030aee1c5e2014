use native.Mathlib.Omega.{arith}
use Rattle.archive.proofs.Opened.{fitting}
use Rattle.queries.proofs.Results.{select_no_document, select_zeroth, select_is, select_fits}
use Rattle.queries.proofs.entry.select_opened.Goals as goal

pub returns-then-archive-d : goal.returns-then-archive-d
returns-then-archive-d c =
    let g = c.args in
    select_no_document g.archive.now.bytes.now g.archive.now.layout g.archive.now.opened g.document g.j c.if-archive-d.true

pub returns-then-j-eq0 : goal.returns-then-j-eq0
returns-then-j-eq0 c =
    let g = c.args in
    select_zeroth g.archive.now.bytes.now g.archive.now.layout g.archive.now.opened g.document g.j c.if-j-eq0.true

pub overflow_cast-result : goal.overflow_cast-result
overflow_cast-result c =
    let g = c.args in
    omega (arith, c.select_in.ensures, select_fits g.archive.now.bytes.now g.archive.now.layout g.archive.now.opened g.document g.j, (fitting g.archive.now.bytes.now g.archive.now.layout g.archive.now.opened).entries)

pub returns : goal.returns
returns c =
    let g = c.args in
    select_is g.archive.now.bytes.now g.archive.now.layout g.archive.now.opened g.document g.j c.select_in.result c.if-archive-d.false c.if-j-eq0.false c.select_in.ensures

use Rattle.queries.proofs.Results.{rank_no_document, rank_out, rank_is}
use Rattle.queries.proofs.entry.rank_opened.Goals as goal

pub returns-then-archive-d : goal.returns-then-archive-d
returns-then-archive-d c =
    let g = c.args in
    rank_no_document g.archive.now.bytes.now g.archive.now.layout g.archive.now.opened g.document g.place c.if-archive-d.true

pub returns-then-archive-p : goal.returns-then-archive-p
returns-then-archive-p c =
    let g = c.args in
    rank_out g.archive.now.bytes.now g.archive.now.layout g.archive.now.opened g.document g.place c.if-archive-p.true

pub returns : goal.returns
returns c =
    let g = c.args in
    rank_is g.archive.now.bytes.now g.archive.now.layout g.archive.now.opened g.document g.place c.rank_in.result c.if-archive-d.false c.if-archive-p.false c.rank_in.ensures.0

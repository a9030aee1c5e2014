use native.Mathlib.Omega.{arith}
use mathlib.Core.Path.{sym, ◌∙◌}
use Rattle.model.proofs.Format.Valid.{within_any}
use Rattle.archive.proofs.Opened.{fitting}
use Rattle.rank_set.proofs.Results.{too_long, not_ascending, no_document, past_end, count_is}
use Rattle.rank_set.proofs.question.rank_set_opened.Goals as goal

pub returns-then-set-gt64 : goal.returns-then-set-gt64
returns-then-set-gt64 c =
    let g = c.args in
    too_long g.archive.now.bytes.now g.archive.now.layout g.archive.now.opened g.set.now g.place c.if-set-gt64.true

pub returns-then-not-is_ascending : goal.returns-then-not-is_ascending
returns-then-not-is_ascending c =
    let g = c.args in
    not_ascending g.archive.now.bytes.now g.archive.now.layout g.archive.now.opened g.set.now g.place (omega (arith, c.if-set-gt64.false)) (sym c.is_ascending.ensures ∙ c.if-not-is_ascending.true)

pub reaches-requires : goal.reaches-requires
reaches-requires c = sym c.is_ascending.ensures ∙ c.if-not-is_ascending.false

pub returns-then-reaches : goal.returns-then-reaches
returns-then-reaches c =
    let g = c.args in
    no_document g.archive.now.bytes.now g.archive.now.layout g.archive.now.opened g.set.now g.place (omega (arith, c.if-set-gt64.false))
    (sym c.is_ascending.ensures ∙ c.if-not-is_ascending.false) (sym c.reaches.ensures ∙ c.if-reaches.true)

pub returns-then-archive-p : goal.returns-then-archive-p
returns-then-archive-p c =
    let g = c.args in
    past_end g.archive.now.bytes.now g.archive.now.layout g.archive.now.opened g.set.now g.place (omega (arith, c.if-set-gt64.false))
    (sym c.is_ascending.ensures ∙ c.if-not-is_ascending.false) c.if-archive-p.true

pub rank_set_in-requires : goal.rank_set_in-requires
rank_set_in-requires c =
    let g = c.args in (
      sym c.is_ascending.ensures ∙ c.if-not-is_ascending.false,
      within_any g.archive.now.layout.documents g.set.now (sym c.reaches.ensures ∙ c.if-reaches.false),
      omega (arith, c.if-archive-p.false),
    )

pub overflow_cast-result : goal.overflow_cast-result
overflow_cast-result c =
    let s = c in
    record { fits = omega (arith, c.rank_set_in.ensures.1, c.if-archive-p.false, (fitting c.args.archive.now.bytes.now c.args.archive.now.layout c.args.archive.now.opened).entries) }

pub returns : goal.returns
returns c =
    let g = c.args in
    count_is g.archive.now.bytes.now g.archive.now.layout g.archive.now.opened g.set.now g.place (omega (arith, c.if-set-gt64.false))
    (sym c.is_ascending.ensures ∙ c.if-not-is_ascending.false) c.rank_set_in.result (sym c.reaches.ensures ∙ c.if-reaches.false)
    (omega (arith, c.if-archive-p.false)) c.rank_set_in.ensures.0

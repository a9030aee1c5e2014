-- `over`: the refusals of the range, then the two tests of the lent slices, in their order.
use native.Mathlib.Omega.{arith}
use mathlib.Core.Path.{subst}
use Rattle.archive_ranges.specs.Ranges.{Inside}
use Rattle.archive.proofs.Opened.{limits}
use Rattle.top_k.proofs.Asking.{searchable, short_answers, short_work, enough_room}
use Rattle.top_k.proofs.question.over.Goals as goal

pub returns-then-answers-min-clause-same : goal.returns-then-answers-min-clause-same
returns-then-answers-min-clause-same c =
    let a = c.args in
    let l = a.archive.now in
    short_answers l.bytes.now l.layout l.opened a.k a.answers a.work a.range c.in_ok-range.range c.in_ok-range.was (omega arith)

pub overflow_mul-documents : goal.overflow_mul-documents
overflow_mul-documents c =
    let l = c.args.archive.now in
    omega (arith, (limits l.bytes.now l.layout l.opened).documents)

pub returns-then-work-documents-clause-same : goal.returns-then-work-documents-clause-same
returns-then-work-documents-clause-same c =
    let a = c.args in
    let l = a.archive.now in
    short_work l.bytes.now l.layout l.opened a.k a.answers a.work a.range c.in_ok-range.range c.in_ok-range.was (omega arith) (omega arith)

pub invariant_of-result : goal.invariant_of-result
invariant_of-result c =
    let l = c.args.archive.now in
    let r = c.in_ok-range.range in
    let inside = subst (Inside l.layout.levels.entries) c.in_ok-range.was c.requires in
    record { searchable = rw (c.tree.ensures.0, c.tree.ensures.1) (searchable l.bytes.now l.layout l.opened r.from r.to inside.0 inside.1) }

pub returns-clause-same : goal.returns-clause-same
returns-clause-same c =
    let a = c.args in
    let l = a.archive.now in
    enough_room l.bytes.now l.layout l.opened a.k a.answers a.work a.range c.in_ok-range.range c.in_ok-range.was (omega arith) (omega arith)
    c.tree.result.bytes.now c.tree.result.levels c.tree.ensures.0 c.tree.ensures.1

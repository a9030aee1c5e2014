use Prim.Native.Nat.{◌≤◌, ◌<◌}
use native.Mathlib.Omega.{arith}
use native.Mathlib.Numerals.{add-one}
use mathlib.Core.Path.{sym, ap, ◌∙◌}
use borrow.Author.Rules.{rules}
use Rattle.model.specs.Outcome.{answered}
use Rattle.model.specs.Opening.{contents}
use Rattle.model.specs.Queries.{term_start}
use Rattle.archive.proofs.Opened.{fitting}
use Rattle.archive_ranges.proofs.RangeEnds.{terms_crossed, terms-beyond, terms_inside, terms-ordered}
use Rattle.archive_ranges.proofs.ranges.term_range.Goals as goal

pub returns-then-l-f : goal.returns-then-l-f
returns-then-l-f c =
    let s = c in
    (sym (terms_crossed s.args.archive.now.bytes.now s.args.archive.now.layout s.args.archive.now.opened s.args.f s.args.l c.if-l-f.true), tt)

pub returns-then-archive-last : goal.returns-then-archive-last
returns-then-archive-last c =
    let s = c in
    (sym (terms-beyond s.args.archive.now.bytes.now s.args.archive.now.layout s.args.archive.now.opened s.args.f s.args.l c.if-archive-last.true), tt)

pub overflow_cast-from : goal.overflow_cast-from
overflow_cast-from c =
    let s = c in
    let few = (fitting s.args.archive.now.bytes.now s.args.archive.now.layout s.args.archive.now.opened).entries in
    search rules

pub overflow_cast-to : goal.overflow_cast-to
overflow_cast-to c =
    let s = c in
    let few = (fitting s.args.archive.now.bytes.now s.args.archive.now.layout s.args.archive.now.opened).entries in
    search rules

pub returns : goal.returns
returns c =
    let s = c in
    let bytes = s.args.archive.now.bytes.now in
    let layout = s.args.archive.now.layout in
    let from = c.term_start-from.ensures.0 in
    let to = c.term_start-to.ensures.0 ∙ ap (term_start (contents bytes)) (add-one s.args.l) in
    let m : s.args.f ≤ s.args.l = search rules in
    let k : s.args.l < layout.terms = search rules in (
      (λ i. answered (record { from = from i; to = to i })) ∙ sym (terms_inside bytes layout s.args.archive.now.opened s.args.f s.args.l m k),
      (omega (arith, from, to, terms-ordered bytes layout s.args.archive.now.opened s.args.f s.args.l m), search rules),
    )

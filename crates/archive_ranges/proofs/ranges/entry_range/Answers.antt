use mathlib.Core.Path.{sym}
use borrow.Author.Rules.{rules}
use Rattle.archive_ranges.proofs.RangeEnds.{entries_crossed, entries-beyond, entries_inside}
use Rattle.archive_ranges.proofs.ranges.entry_range.Goals as goal

pub returns-then-b-a : goal.returns-then-b-a
returns-then-b-a c = let s = c.args in (sym (entries_crossed s.l.levels.entries s.a s.b c.if-b-a.true), tt)

pub returns-then-l-b : goal.returns-then-l-b
returns-then-l-b c =
    let s = c.args in
    (sym (entries-beyond s.l.levels.entries s.a s.b c.if-l-b.true), tt)

pub returns : goal.returns
returns c =
    let s = c.args in
    (sym (entries_inside s.l.levels.entries s.a s.b (search rules) (search rules)), search rules)

use Rattle.std.proofs.Common.{length}
use borrow.Author.Tests.{le-ltb}
use Rattle.model.specs.Outcome.{answered}
use Rattle.archive.specs.Layout.{sizes_in}
use Rattle.reader.proofs.lists.read_opened.Goals as goal

pub returns : goal.returns
returns c =
    let a = c.args.archive.now in
    rw (a.opened.accepted, le-ltb (length c.args.entries.now) a.layout.levels.entries c.if-entries-sizes.false, le-ltb (length c.args.lengths.now) a.layout.terms c.if-lengths-sizes.false)
    (λ i. record { outcome = answered (sizes_in a.layout); entries = c.read_in.ensures.entries_after i; lengths = c.read_in.ensures.lengths_after i })

use Prim.Native.Nat.{ℕ, ◌*◌}
use native.Mathlib.Omega.{arith}
use mathlib.Core.Path.{ap, sym, ◌∙◌}
use lib.ListN.{length}
use borrow.Author.Tests.{lt-ltb, le-ltb}
use Rattle.model.specs.Outcome.{answered}
use Rattle.model.specs.Opening.{contents}
use Rattle.archive.proofs.Opened.{fitting, documents-are}
use Rattle.model.specs.Lists.{part}
use Rattle.model.specs.Queries.{placed_listing, placed_into}
use Rattle.listing.proofs.Listed.{listing_le}
use Rattle.listing.proofs.lists.list_of.Goals as goal

pub overflow_mul-archive : goal.overflow_mul-archive
overflow_mul-archive c =
    let g = c.args in
    omega (arith, (fitting g.archive.now.bytes.now g.archive.now.layout g.archive.now.opened).documents)

pub list_in-n-requires : goal.list_in-n-requires
list_in-n-requires c = (c.requires.0, c.requires.1, c.if-answers-archive.false)

pub overflow_cast-result : goal.overflow_cast-result
overflow_cast-result c =
    let g = c.args in
    omega (
      arith,
      c.list_in-n.ensures.0,
      (fitting g.archive.now.bytes.now g.archive.now.layout g.archive.now.opened).documents,
      listing_le g.archive.now.layout.documents (part g.range.from g.range.to (contents g.archive.now.bytes.now).entries),
    )

pub returns-then-answers-archive : goal.returns-then-answers-archive
returns-then-answers-archive c =
    let g = c.args in
    let n = documents-are g.archive.now.bytes.now g.archive.now.layout g.archive.now.opened in
    rw (lt-ltb (length g.answers.now) (3 * (contents g.archive.now.bytes.now).documents) (rw n c.if-answers-archive.true))

pub returns : goal.returns
returns c =
    let g = c.args in
    let n = documents-are g.archive.now.bytes.now g.archive.now.layout g.archive.now.opened in
    let k = c.list_in-n in
    rw (le-ltb (length g.answers.now) (3 * (contents g.archive.now.bytes.now).documents) (rw n c.if-answers-archive.false))
    ((λ i. record { outcome = answered (k.ensures.0 i); answers = k.ensures.1 i })
    ∙ ap (λ (N : ℕ). placed_into g.answers.now (answered (placed_listing N g.range.from (part g.range.from g.range.to (contents g.archive.now.bytes.now).entries)))) (sym n))

use Prim.Native.Nat.{ℕ, ◌-◌, ◌≤◌}
use native.Mathlib.Omega.{arith}
use mathlib.Core.Path.{ap}
use mathlib.Core.List.{List}
use lib.ListN.{length}
use borrow.Author.Tests.{le-leb, lt-leb}
use Rattle.model.specs.Outcome.{answered}
use Rattle.model.specs.Opening.{contents}
use Rattle.model.proofs.Lists.{length_part}
use Rattle.archive.proofs.Opened.{fitting, entries-size}
use Rattle.queries.proofs.quantiles.quantile_of.Goals as goal

pub overflow_cast-result : goal.overflow_cast-result
overflow_cast-result c =
    let g = c.args in
    omega (arith, c.quantile_in-document.ensures.1, (fitting g.archive.now.bytes.now g.archive.now.layout g.archive.now.opened).documents)

pub returns-then-range-r : goal.returns-then-range-r
returns-then-range-r c =
    let g = c.args in
    let xs : List ℕ = (contents g.archive.now.bytes.now).entries in
    let few : g.range.to ≤ length xs = rw (entries-size g.archive.now.bytes.now g.archive.now.layout g.archive.now.opened) c.requires.1 in
    rw (length_part g.range.from g.range.to xs few, le-leb (g.range.to - g.range.from) g.r c.if-range-r.true)

pub returns : goal.returns
returns c =
    let g = c.args in
    let xs : List ℕ = (contents g.archive.now.bytes.now).entries in
    let few : g.range.to ≤ length xs = rw (entries-size g.archive.now.bytes.now g.archive.now.layout g.archive.now.opened) c.requires.1 in
    rw (length_part g.range.from g.range.to xs few, lt-leb (g.range.to - g.range.from) g.r c.if-range-r.false) (ap answered c.quantile_in-document.ensures.0)

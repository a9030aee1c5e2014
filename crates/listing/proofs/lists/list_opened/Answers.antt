use mathlib.Core.Path.{ap, ◌∙◌}
use Rattle.model.specs.Outcome.{Outcome}
use Rattle.model.specs.Opening.{contents}
use Rattle.model.specs.Queries.{Bounds, of_entries}
use Rattle.archive_ranges.proofs.RangeEnds.{entry_bounds_lem}
use Rattle.answers.proofs.Passed.{pairs_passed_on}
use Rattle.listing.specs.Listing.{list_of}
use Rattle.listing.proofs.Listed.{list_is}
use Rattle.listing.proofs.lists.list_opened.Goals as goal

pub returns-in_err-entry_range : goal.returns-in_err-entry_range
returns-in_err-entry_range c =
    let g = c.args in
    let e = ap (λ (ends : Outcome Bounds). list_of (contents g.archive.now.bytes.now) ends g.answers.now) (c.in_err-entry_range.ensures.0 ∙ entry_bounds_lem g.archive.now.bytes.now g.archive.now.layout g.archive.now.opened g.a g.b)
    ∙ list_is g.archive.now.bytes.now g.archive.now.layout g.archive.now.opened (of_entries g.a g.b) g.answers.now in
    pairs_passed_on c.from_residual.result c.in_err-entry_range.field-0.0 c.from_residual.ensures.1 e

pub returns : goal.returns
returns c =
    let g = c.args in
    c.list_of.ensures
    ∙ ap (λ (ends : Outcome Bounds). list_of (contents g.archive.now.bytes.now) ends g.answers.now) (c.in_ok-entry_range.ensures.0 ∙ entry_bounds_lem g.archive.now.bytes.now g.archive.now.layout g.archive.now.opened g.a g.b)
    ∙ list_is g.archive.now.bytes.now g.archive.now.layout g.archive.now.opened (of_entries g.a g.b) g.answers.now

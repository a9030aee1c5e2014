use mathlib.Core.Path.{ap, ◌∙◌}
use Rattle.model.specs.Outcome.{Outcome}
use Rattle.model.specs.Opening.{contents}
use Rattle.model.specs.Queries.{Bounds, of_terms}
use Rattle.refusals.proofs.Outcomes.{passed_on}
use Rattle.queries.specs.Ranges.{quantile_of}
use Rattle.queries.proofs.Results.{quantile_is}
use Rattle.queries.proofs.quantiles.quantile_terms_opened.Goals as goal

pub returns-in_err-term_range : goal.returns-in_err-term_range
returns-in_err-term_range c =
    let g = c.args in
    passed_on _ c.from_residual.result c.in_err-term_range.field-0.0 c.from_residual.ensures.1
    (ap (λ (ends : Outcome Bounds). quantile_of (contents g.archive.now.bytes.now) ends g.r) (c.in_err-term_range.ensures.0)
    ∙ quantile_is g.archive.now.bytes.now g.archive.now.layout g.archive.now.opened (of_terms g.first g.last) g.r)

pub returns : goal.returns
returns c =
    let g = c.args in
    c.quantile_of.ensures
    ∙ ap (λ (ends : Outcome Bounds). quantile_of (contents g.archive.now.bytes.now) ends g.r) (c.in_ok-term_range.ensures.0)
    ∙ quantile_is g.archive.now.bytes.now g.archive.now.layout g.archive.now.opened (of_terms g.first g.last) g.r

use mathlib.Core.Path.{◌∙◌}
use mathlib.Core.List.{[], ◌∷◌}
use Rattle.model.specs.Queries.{of_terms}
use Rattle.queries.proofs.Results.{range_is}
use Rattle.ffi.specs.Left.{ends}
use Rattle.ffi.proofs.Leaving.{given_for}
use Rattle.masuvelior.proofs.ranges.masuvelior_opened_range_of_terms.Goals as goal

pub returns : goal.returns
returns c =
    let g = c.args in
    let o = c.reopen-opened.result in
    given_for ends (g.from.now ∷ g.to.now ∷ []) c.ends.ensures
    (rw c.reopen-opened.ensures at (c.term_range.ensures.0 ∙ range_is o.bytes.now o.layout o.opened (of_terms g.first g.last)))

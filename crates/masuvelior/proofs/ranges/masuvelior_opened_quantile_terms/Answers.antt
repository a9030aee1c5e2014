use mathlib.Core.List.{[], ◌∷◌}
use Rattle.ffi.specs.Left.{one}
use Rattle.ffi.proofs.Leaving.{gave, given_for}
use Rattle.masuvelior.proofs.ranges.masuvelior_opened_quantile_terms.Goals as goal

pub returns : goal.returns
returns c =
    let g = c.args in
    given_for one (g.document.now ∷ []) (gave c.quantile_terms_opened.result c.number.result g.document.now c.number.new.out c.number.ensures) (rw c.reopen-opened.ensures at c.quantile_terms_opened.ensures)

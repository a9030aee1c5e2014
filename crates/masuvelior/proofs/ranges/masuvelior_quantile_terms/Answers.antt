use mathlib.Core.List.{[], ◌∷◌}
use Rattle.ffi.specs.Left.{one}
use Rattle.ffi.proofs.Leaving.{gave, given_for}
use Rattle.masuvelior.proofs.ranges.masuvelior_quantile_terms.Goals as goal

pub returns : goal.returns
returns c =
    let g = c.args in
    given_for one (g.document.now ∷ []) (gave c.quantile_terms.result c.number.result g.document.now c.number.new.out c.number.ensures) c.quantile_terms.ensures

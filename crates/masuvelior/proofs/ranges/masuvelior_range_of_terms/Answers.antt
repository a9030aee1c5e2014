use mathlib.Core.List.{[], ◌∷◌}
use Rattle.ffi.specs.Left.{ends}
use Rattle.ffi.proofs.Leaving.{given_for}
use Rattle.masuvelior.proofs.ranges.masuvelior_range_of_terms.Goals as goal

pub returns : goal.returns
returns c =
    let g = c.args in
    given_for ends (g.from.now ∷ g.to.now ∷ []) c.ends.ensures c.range_of_terms.ensures

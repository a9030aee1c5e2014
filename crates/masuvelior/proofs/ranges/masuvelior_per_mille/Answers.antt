use mathlib.Core.List.{[], ◌∷◌}
use Rattle.ffi.specs.Left.{one}
use Rattle.ffi.proofs.Leaving.{gave, given_for}
use Rattle.masuvelior.proofs.ranges.masuvelior_per_mille.Goals as goal

pub returns : goal.returns
returns c =
    let g = c.args in
    given_for one (g.rate.now ∷ []) (gave c.per_mille.result c.number.result g.rate.now c.number.new.out c.number.ensures) c.per_mille.ensures

use mathlib.Core.List.{[], ◌∷◌}
use Rattle.ffi.proofs.Leaving.{gave, pairs-left}
use Rattle.masuvelior.proofs.ranges.masuvelior_list.Goals as goal

pub returns : goal.returns
returns c =
    let g = c.args in
    pairs-left (g.listed.now ∷ []) (gave c.list.result c.number.result g.listed.now c.number.new.out c.number.ensures) c.list.ensures

use mathlib.Core.List.{[], ◌∷◌}
use Rattle.ffi.proofs.Leaving.{gave, pairs-left}
use Rattle.masuvelior.proofs.ranges.masuvelior_list_terms.Goals as goal

pub returns : goal.returns
returns c =
    let g = c.args in
    pairs-left (g.listed.now ∷ []) (gave c.list_terms.result c.number.result g.listed.now c.number.new.out c.number.ensures) c.list_terms.ensures

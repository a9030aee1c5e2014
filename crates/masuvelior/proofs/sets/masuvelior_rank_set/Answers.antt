use mathlib.Core.List.{[], ◌∷◌}
use Rattle.ffi.specs.Left.{one}
use Rattle.ffi.proofs.Leaving.{gave, given_for}
use Rattle.masuvelior.proofs.sets.masuvelior_rank_set.Goals as goal

pub returns : goal.returns
returns c =
    let g = c.args in
    given_for one (g.count.now ∷ []) (gave c.rank_set.result c.number.result g.count.now c.number.new.out c.number.ensures) c.rank_set.ensures

use mathlib.Core.List.{[], ◌∷◌}
use Rattle.ffi.proofs.Leaving.{gave, pairs-left}
use Rattle.masuvelior.proofs.boolean_questions.masuvelior_boolean.Goals as goal

pub returns : goal.returns
returns c =
    let g = c.args in
    pairs-left (g.listed.now ∷ []) (gave c.boolean.result c.number.result g.listed.now c.number.new.out c.number.ensures) c.boolean.ensures

use mathlib.Core.List.{[], ◌∷◌}
use Rattle.ffi.proofs.Leaving.{gave, pairs-left}
use Rattle.masuvelior.proofs.boolean_questions.masuvelior_opened_boolean.Goals as goal

pub returns : goal.returns
returns c =
    let g = c.args in
    pairs-left (g.listed.now ∷ []) (gave c.boolean_opened.result c.number.result g.listed.now c.number.new.out c.number.ensures) (rw c.reopen-opened.ensures at c.boolean_opened.ensures)

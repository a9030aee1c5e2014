use mathlib.Core.Path.{◌∙◌}
use mathlib.Core.List.{[], ◌∷◌}
use Rattle.ffi.proofs.Leaving.{gave, pairs-left}
use Rattle.ffi.proofs.Chosen.{conjunction-chosen}
use Rattle.masuvelior.proofs.conjunctions.masuvelior_opened_conjunction.Goals as goal

pub returns : goal.returns
returns c =
    let g = c.args in
    pairs-left (g.listed.now ∷ []) (gave c.conjunction_opened.result c.number.result g.listed.now c.number.new.out c.number.ensures) ((rw c.reopen-opened.ensures at c.conjunction_opened.ensures) ∙ conjunction-chosen g.archive.now g.answers.now g.chosen.now c.terms_of.result c.terms_of.ensures)

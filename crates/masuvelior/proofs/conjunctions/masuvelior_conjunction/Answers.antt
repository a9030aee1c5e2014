use mathlib.Core.Path.{◌∙◌}
use mathlib.Core.List.{[], ◌∷◌}
use Rattle.ffi.proofs.Leaving.{gave, pairs-left}
use Rattle.ffi.proofs.Chosen.{conjunction-chosen}
use Rattle.masuvelior.proofs.conjunctions.masuvelior_conjunction.Goals as goal

pub returns : goal.returns
returns c =
    let g = c.args in
    pairs-left (g.listed.now ∷ []) (gave c.conjunction.result c.number.result g.listed.now c.number.new.out c.number.ensures) (c.conjunction.ensures ∙ conjunction-chosen g.archive.now g.answers.now g.chosen.now c.terms_of.result c.terms_of.ensures)

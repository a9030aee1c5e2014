use mathlib.Core.Path.{◌∙◌}
use mathlib.Core.List.{[], ◌∷◌}
use Rattle.ffi.specs.Left.{ended}
use Rattle.ffi.proofs.Leaving.{search_left_lem}
use Rattle.ffi.proofs.Chosen.{weighted_chosen}
use Rattle.masuvelior.proofs.weighted_searches.masuvelior_opened_weighted.Goals as goal

pub returns : goal.returns
returns c =
    let g = c.args in
    search_left_lem ended (g.listed.now ∷ g.spent.now ∷ g.number.now ∷ []) c.top_k.ensures
    ((rw c.reopen-opened.ensures at c.weighted_opened-answer.ensures) ∙ weighted_chosen g.archive.now g.k g.allowance g.answers.now g.work.now g.chosen.now c.terms_of.result c.terms_of.ensures)

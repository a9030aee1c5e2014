use mathlib.Core.List.{[], ◌∷◌}
use Rattle.ffi.specs.Left.{one}
use Rattle.ffi.proofs.Leaving.{gave, search_left_lem}
use Rattle.masuvelior.proofs.searches.masuvelior_opened_probing_terms.Goals as goal

pub returns : goal.returns
returns c =
    let g = c.args in
    search_left_lem one (g.listed.now ∷ []) (gave c.probing_terms_opened-answer.result c.number.result g.listed.now c.number.new.out c.number.ensures) (rw c.reopen-opened.ensures at c.probing_terms_opened-answer.ensures)

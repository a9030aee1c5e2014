use mathlib.Core.Path.{◌∙◌}
use mathlib.Core.List.{[], ◌∷◌}
use Rattle.ffi.proofs.Leaving.{gave, pairs-left}
use Rattle.ffi.proofs.Chosen.{rarest_first-chosen}
use Rattle.masuvelior.proofs.orders.masuvelior_rarest_first.Goals as goal

pub returns : goal.returns
returns c =
    let g = c.args in
    pairs-left (g.size.now ∷ []) (gave c.rarest_first.result c.number.result g.size.now c.number.new.out c.number.ensures) (c.rarest_first.ensures ∙ rarest_first-chosen g.archive.now g.order.now g.chosen.now c.terms_of.result c.terms_of.ensures)

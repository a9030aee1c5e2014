use mathlib.Core.List.{[], ◌∷◌}
use Rattle.ffi.specs.Left.{ended}
use Rattle.ffi.proofs.Leaving.{search_left_lem}
use Rattle.masuvelior.proofs.searches.masuvelior_opened_greedy_entries.Goals as goal

pub returns : goal.returns
returns c =
    let g = c.args in
    search_left_lem ended (g.listed.now ∷ g.spent.now ∷ g.number.now ∷ []) c.top_k.ensures (rw c.reopen-opened.ensures at c.greedy_entries_opened-answer.ensures)

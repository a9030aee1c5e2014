use mathlib.Core.Path.{ap}
use mathlib.Core.List.{[], ◌∷◌}
use Rattle.model.specs.Opening.{ReadResult}
use Rattle.ffi.proofs.Leaving.{read_left_lem}
use Rattle.masuvelior.proofs.Narrow.{read_narrow}
use Rattle.masuvelior.proofs.archives.masuvelior_read.Goals as goal

pub sizes-requires : goal.sizes-requires
sizes-requires c =
    let g = c.args in
    let x = c.read-answer in
    read_narrow g.archive.now g.entries.now g.lengths.now x.result (ap (λ (r : ReadResult). r.outcome) x.ensures)

pub returns : goal.returns
returns c =
    let g = c.args in
    read_left_lem (g.n.now ∷ g.documents.now ∷ g.terms.now ∷ []) c.sizes.ensures c.read-answer.ensures

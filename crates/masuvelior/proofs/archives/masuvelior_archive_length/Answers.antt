use mathlib.Core.List.{[], ◌∷◌}
use Rattle.ffi.specs.Left.{one}
use Rattle.ffi.proofs.Leaving.{gave, given_for}
use Rattle.masuvelior.proofs.archives.masuvelior_archive_length.Goals as goal

pub returns : goal.returns
returns c =
    let g = c.args in
    given_for one (g.length.now ∷ []) (gave c.length_of.result c.number.result g.length.now c.number.new.out c.number.ensures) c.length_of.ensures

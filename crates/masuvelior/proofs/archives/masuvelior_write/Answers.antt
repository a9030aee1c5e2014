use mathlib.Core.List.{[], ◌∷◌}
use Rattle.ffi.proofs.Leaving.{gave, write_left_lem}
use Rattle.masuvelior.proofs.archives.masuvelior_write.Goals as goal

pub returns : goal.returns
returns c =
    let g = c.args in
    write_left_lem (g.length.now ∷ []) (gave c.write-answer.result c.number.result g.length.now c.number.new.out c.number.ensures) c.write-answer.ensures

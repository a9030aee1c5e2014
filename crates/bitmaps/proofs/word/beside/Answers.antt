use mathlib.Core.Path.{ap}
use Prim.Native.Nat.{◌+◌}
use Rattle.bitmaps.proofs.Words.{shifted, beside_fits}
use Rattle.bitmaps.proofs.word.beside.Goals as goal

pub overflow_add-result : goal.overflow_add-result
overflow_add-result c =
    let g = c.args in
    record { fits = rw (shifted g.one g.documents c.requires.1 c.requires.2) (beside_fits g.zero g.one g.documents c.requires.0 c.requires.1 c.requires.2) }

pub returns : goal.returns
returns c =
    let g = c.args in
    ap (λ n. g.zero + n) (shifted g.one g.documents c.requires.1 c.requires.2)

use native.Mathlib.Omega.{arith}
use lib.Dec.{ltb}
use Prim.Native.Nat.{◌-◌}
use Rattle.wavelet.specs.Levels.{level_of}
use Rattle.wavelet.proofs.Ranges.{byte_le}
use Rattle.bitmaps.proofs.Words.{last_by_ones, last_fits}
use Rattle.bitmaps.proofs.word.last_word.Goals as goal

pub overflow_mul-result : goal.overflow_mul-result
overflow_mul-result c =
    let g = c.args in
    omega (arith, byte_le (ltb 0 c.ones_between-ones.result), byte_le (ltb c.ones_between-ones.result (g.hi - g.lo)))

pub overflow_add-result : goal.overflow_add-result
overflow_add-result c =
    let g = c.args in
    omega (arith, byte_le (ltb 0 c.ones_between-ones.result), byte_le (ltb c.ones_between-ones.result (g.hi - g.lo)))

pub returns : goal.returns
returns c =
    let g = c.args in
    let bits = level_of g.tree.now.bytes.now g.tree.now.levels g.j in
    let e = last_by_ones bits g.lo g.hi c.ones_between-ones.result c.ones_between-ones.ensures in
    (e, rw e (last_fits bits g.lo g.hi))

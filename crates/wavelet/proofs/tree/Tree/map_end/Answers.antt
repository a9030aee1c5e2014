use native.Mathlib.Nat.{le_trans}
use native.Mathlib.Omega.{arith}
use mathlib.Core.List.{List}
use Prim.Native.Nat.{ℕ}
use Rattle.model.proofs.Wavelet.Counts.{ones_mono, ones_step}
use Rattle.wavelet.specs.Levels.{level_of}
use Rattle.wavelet.proofs.Steps.{level-of, rank_le, maps_by_ranks}
use Rattle.wavelet.proofs.tree.Tree.map_end.Goals as goal

pub overflow_add-before : goal.overflow_add-before
overflow_add-before c =
    let g = c.args in
    let bits : List ℕ = level_of g.self.now.bytes.now g.self.now.levels g.j in
    omega (arith, c.requires.before_value.1, rank_le bits g.x, c.requires.j_lt_height.2, c.requires.j_lt_height.3, c.args.self.now.stored.few)

pub overflow_sub-ones : goal.overflow_sub-ones
overflow_sub-ones c =
    let g = c.args in
    let bits : List ℕ = level_of g.self.now.bytes.now g.self.now.levels g.j in
    omega (arith, c.requires.before_value.0, c.ones_from.ensures.0, ones_mono bits g.start g.p (le_trans c.requires.j_lt_height.1 c.requires.j_lt_height.2))

pub overflow_sub-result-2 : goal.overflow_sub-result-2
overflow_sub-result-2 c =
    let g = c.args in
    let bits : List ℕ = level_of g.self.now.bytes.now g.self.now.levels g.j in
    omega (arith, c.requires.before_value.0, c.ones_from.ensures.0, ones_step bits g.start g.p (le_trans c.requires.j_lt_height.1 c.requires.j_lt_height.2))

pub returns : goal.returns
returns c =
    let g = c.args in
    let bits : List ℕ = level_of g.self.now.bytes.now g.self.now.levels g.j in
    maps_by_ranks bits g.self.now.levels.entries (level-of g.self.now.bytes.now g.self.now.levels g.j c.requires.j_lt_height.0) g.start g.p (le_trans c.requires.j_lt_height.1 c.requires.j_lt_height.2)
    g.before c.ones_from.result c.requires.before_value.0 c.ones_from.ensures.0

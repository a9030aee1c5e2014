use native.Mathlib.Omega.{arith}
use mathlib.Core.Path.{◌∙◌}
use Rattle.paths.specs.Paths.{Whole}
use Rattle.paths.specs.Query.{size, passes}
use Rattle.paths.proofs.Ways.{going_start, going_next, way_lt}
use Rattle.paths.proofs.query.Query.go_to.Goals as goal

pub loop-j-init : goal.loop-j-init
loop-j-init c =
    let g = c.args in
    let q = g.self.now in
    going_start (Whole (passes q) (size q)) g.path.now g.from g.to _ c.requires.path_len.0 c.meet-j.ensures c.requires.held_whole

pub open_whole-requires-clause-path_len : goal.open_whole-requires-clause-path_len
open_whole-requires-clause-path_len c =
    let g = c.args in
    let o = c.loop-j.invariant in
    let deep = c.requires.path_len.2.low in
    let high = c.requires.path_len.3 in
    (o.room, omega arith, omega arith, way_lt g.to c.loop-j.j c.requires.path_len.2 o.above)

pub loop-j-preserved : goal.loop-j-preserved
loop-j-preserved c =
    let g = c.args in
    let q = g.self.now in
    let k = c.loop-j in
    let w = c.open_whole in
    going_next (Whole (passes q) (size q)) w.new.path g.to k.j (w.auto.path ∙ k.invariant.room) (omega arith) w.ensures

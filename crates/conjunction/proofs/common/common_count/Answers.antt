use Prim.Native.Nat.{◌+◌, ◌*◌}
use native.Mathlib.Omega.{arith}
use Rattle.paths.specs.Paths.{count_at}
use Rattle.conjunction.proofs.Counting.{counting_start, counting_next, counting_none, counting_end}
use Rattle.conjunction.proofs.common.common_count.Goals as goal

pub loop-k-init : goal.loop-k-init
loop-k-init c = let g = c.args in counting_start (count_at g.path.now g.frame) g.size

pub overflow_cast-lo : goal.overflow_cast-lo
overflow_cast-lo c =
    let g = c.args in
    omega (arith, c.type_inv.path (2 * (g.frame + 1 + c.loop-k.k)))

pub overflow_cast-hi : goal.overflow_cast-hi
overflow_cast-hi c =
    let g = c.args in
    omega (arith, c.type_inv.path (2 * (g.frame + 1 + c.loop-k.k) + 1))

pub returns-then-hi-lo : goal.returns-then-hi-lo
returns-then-hi-lo c =
    let s = c in
    let g = s.args in
    let k = c.loop-k in
    counting_none (count_at g.path.now g.frame) g.size k.invariant (omega arith) (omega arith)

pub overflow_add-sum : goal.overflow_add-sum
overflow_add-sum c =
    let s = c in
    let g = s.args in
    let k = c.loop-k in
    let hi = (c.type_inv.path (2 * (g.frame + 1 + k.k) + 1)).fits in
    let few = k.invariant.few in
    omega arith

pub loop-k-preserved : goal.loop-k-preserved
loop-k-preserved c =
    let s = c in
    let g = s.args in
    let k = c.loop-k in
    let hi = (c.type_inv.path (2 * (g.frame + 1 + k.k) + 1)).fits in
    counting_next (count_at g.path.now g.frame) g.size k.invariant (omega arith) (omega arith) (omega arith)

pub returns : goal.returns
returns c =
    let s = c in
    let g = s.args in
    let k = c.loop-k in
    counting_end (count_at g.path.now g.frame) g.size k.invariant (omega arith)

-- `step`: the first record tells whether its node is a leaf, and what is left whether another is opened.
use Prim.Native.Nat.{suc, ◌-◌, ◌/◌, ◌%◌}
use native.Mathlib.Omega.{arith}
use mathlib.Core.Path.{◌≡◌, refl, ap}
use Rattle.model.specs.TopK.{node}
use Rattle.moves.proofs.Kept.{front_at, first_depth, index_of, others_of}
use Rattle.moves.proofs.Made.{names_move, names_kept, spent_move, opens_move, same_kept}
use Rattle.greedy.specs.Grounds.{ground_of}
use Rattle.greedy.proofs.Grounds.{sound}
use Rattle.greedy.proofs.step.step.Goals as goal

pub returns-then-depth-levels : goal.returns-then-depth-levels
returns-then-depth-levels c =
    let s = c in
    let a = s.args in
    let G = ground_of a.s.now in
    let ok = sound a.s.now in
    let r = c.top-r.result in
    let F = front_at G a.work.now a.waiting r s.requires.waiting_nonzero.1 c.top-r.ensures 0 (omega arith) in
    let q = index_of G r in
    let ms = others_of G a.work.now a.waiting in
    let P = c.pop in record {
      work_after = rw c.from-start.ensures.0 (names_move G ok a.work.now a.waiting r s.requires.waiting_nonzero.1 q ms F P.new.work P.result P.ensures a.left);
      moves = names_kept G ok a.work.now a.waiting r s.requires.waiting_nonzero.1 q ms F P.new.work P.result P.ensures s.requires.waiting_nonzero.0;
    }

pub returns-then-left-eq0 : goal.returns-then-left-eq0
returns-then-left-eq0 c =
    let s = c in
    let a = s.args in
    let G = ground_of a.s.now in
    let ok = sound a.s.now in
    let r = c.top-r.result in
    let h = a.s.now.tree.levels.height in
    let d = first_depth G a.work.now a.waiting r s.requires.waiting_nonzero.1 c.top-r.ensures ok in
    let l = h - 1 - r.second % 16 in
    let F = front_at G a.work.now a.waiting r s.requires.waiting_nonzero.1 c.top-r.ensures (suc l) (omega arith) in
    let z : a.left ≡ 0 = omega arith in record {
      work_after = rw z (spent_move G ok a.work.now a.waiting r s.requires.waiting_nonzero.1 l (index_of G r)
          (others_of G a.work.now a.waiting) F);
      moves = same_kept G a.work.now a.waiting s.requires.waiting_nonzero.1;
    }

pub overflow_sub-height : goal.overflow_sub-height
overflow_sub-height c =
    let s = c in
    let a = s.args in
    let G = ground_of a.s.now in
    let ok = sound a.s.now in
    omega (arith, first_depth G a.work.now a.waiting c.top-r.result s.requires.waiting_nonzero.1 c.top-r.ensures ok)

pub open-n-requires : goal.open-n-requires
open-n-requires c =
    let s = c in
    let a = s.args in
    let G = ground_of a.s.now in
    let ok = sound a.s.now in
    let d = first_depth G a.work.now a.waiting c.top-r.result s.requires.waiting_nonzero.1 c.top-r.ensures ok in record {
      kept = s.requires.waiting_nonzero.1;
      first = c.top-r.ensures;
      second_bound = omega arith;
    }

pub returns : goal.returns
returns c =
    let s = c in
    let a = s.args in
    let G = ground_of a.s.now in
    let ok = sound a.s.now in
    let r = c.top-r.result in
    let h = a.s.now.tree.levels.height in
    let d = first_depth G a.work.now a.waiting r s.requires.waiting_nonzero.1 c.top-r.ensures ok in
    let l = h - 1 - r.second % 16 in
    let e : h - r.second % 16 ≡ suc l = omega arith in
    let F = front_at G a.work.now a.waiting r s.requires.waiting_nonzero.1 c.top-r.ensures (suc l) e in
    let o = c.open-n in
    let M = o.ensures in record {
      work_after = rw (c.from-start.ensures.0, c.from-start.ensures.1) (opens_move G ok a.work.now a.waiting r s.requires.waiting_nonzero.1 l (index_of G r)
          (others_of G a.work.now a.waiting) F a.left (λ z. omega arith) o.new.work o.result (r.second / 16)
          (h - r.second % 16) (ap (λ k. node k (index_of G r)) e) M.waits);
      moves = record { kept = M.kept; waits = refl; rest = M.rest; size = M.size };
    }

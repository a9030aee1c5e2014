use Prim.Native.Nat.{suc, ◌-◌, ◌/◌, ◌%◌}
use native.Mathlib.Omega.{arith}
use mathlib.Core.Path.{◌≡◌, refl, ap}
use lib.Pow.{shr_le}
use Rattle.model.specs.TopK.{node}
use Rattle.moves.proofs.Kept.{front_at, first_depth, index_of, others_of}
use Rattle.moves.proofs.Made.{names_move, names_kept, spent_move, opens_move, same_kept}
use Rattle.weighted.specs.Grounds.{ground_of}
use Rattle.weighted.proofs.Nodes.{sound}
use Rattle.weighted.proofs.step.step.Goals as goal

pub returns-then-depth-height : goal.returns-then-depth-height
returns-then-depth-height c =
    let g = c.args in
    let G = ground_of g.asking.now.query in
    let ok = sound g.asking.now.query in
    let kept = c.requires.waiting_nonzero.1 in
    let r = c.top-r.result in
    let e = c.top-r.ensures in
    let d = first_depth G g.work.now g.waiting r kept e ok in
    let F = front_at G g.work.now g.waiting r kept e 0 (omega arith) in
    let q = index_of G r in
    let ms = others_of G g.work.now g.waiting in
    let P = c.pop in record {
      work_after = names_move G ok g.work.now g.waiting r kept q ms F P.new.work P.result P.ensures g.left;
      moves = names_kept G ok g.work.now g.waiting r kept q ms F P.new.work P.result P.ensures c.requires.waiting_nonzero.0;
      leads_2 = c.requires.leads;
    }

pub returns-then-left-eq0 : goal.returns-then-left-eq0
returns-then-left-eq0 c =
    let g = c.args in
    let G = ground_of g.asking.now.query in
    let ok = sound g.asking.now.query in
    let kept = c.requires.waiting_nonzero.1 in
    let r = c.top-r.result in
    let e = c.top-r.ensures in
    let d = first_depth G g.work.now g.waiting r kept e ok in
    let l = g.asking.now.query.archive.layout.levels.height - 1 - r.second % 16 in
    let F = front_at G g.work.now g.waiting r kept e (suc l) (omega arith) in
    let z : g.left ≡ 0 = omega arith in record {
      work_after = rw z (spent_move G ok g.work.now g.waiting r kept l (index_of G r) (others_of G g.work.now g.waiting) F);
      moves = same_kept G g.work.now g.waiting kept;
      leads_2 = c.requires.leads;
    }

pub overflow_sub-above : goal.overflow_sub-above
overflow_sub-above c =
    let g = c.args in
    let G = ground_of g.asking.now.query in
    let ok = sound g.asking.now.query in
    let kept = c.requires.waiting_nonzero.1 in
    let r = c.top-r.result in
    let e = c.top-r.ensures in
    let d = first_depth G g.work.now g.waiting r kept e ok in
    d

pub open-n-requires : goal.open-n-requires
open-n-requires c =
    let g = c.args in
    let G = ground_of g.asking.now.query in
    let ok = sound g.asking.now.query in
    let kept = c.requires.waiting_nonzero.1 in
    let r = c.top-r.result in
    let e = c.top-r.ensures in
    let d = first_depth G g.work.now g.waiting r kept e ok in record {
      leads = c.requires.leads;
      kept = kept;
      first = (e, omega arith);
    }

pub overflow_cast-result : goal.overflow_cast-result
overflow_cast-result c =
    let g = c.args in
    let G = ground_of g.asking.now.query in
    let ok = sound g.asking.now.query in
    let kept = c.requires.waiting_nonzero.1 in
    let r = c.top-r.result in
    let e = c.top-r.ensures in
    let d = first_depth G g.work.now g.waiting r kept e ok in
    omega (arith, ok.low)

pub overflow_shr-result : goal.overflow_shr-result
overflow_shr-result c =
    let g = c.args in
    let G = ground_of g.asking.now.query in
    let ok = sound g.asking.now.query in
    let kept = c.requires.waiting_nonzero.1 in
    let r = c.top-r.result in
    let e = c.top-r.ensures in
    let d = first_depth G g.work.now g.waiting r kept e ok in
    omega (arith, ok.low)

pub overflow_mul-result : goal.overflow_mul-result
overflow_mul-result c =
    let g = c.args in
    let G = ground_of g.asking.now.query in
    let ok = sound g.asking.now.query in
    let kept = c.requires.waiting_nonzero.1 in
    let r = c.top-r.result in
    let e = c.top-r.ensures in
    let d = first_depth G g.work.now g.waiting r kept e ok in
    omega (arith, shr_le (r.second / 16) (g.asking.now.query.archive.layout.levels.height - r.second % 16))

pub returns : goal.returns
returns c =
    let g = c.args in
    let G = ground_of g.asking.now.query in
    let ok = sound g.asking.now.query in
    let kept = c.requires.waiting_nonzero.1 in
    let r = c.top-r.result in
    let e = c.top-r.ensures in
    let d = first_depth G g.work.now g.waiting r kept e ok in
    let h = g.asking.now.query.archive.layout.levels.height in
    let l = h - 1 - r.second % 16 in
    let u : h - r.second % 16 ≡ suc l = let less = c.if-depth-height.false in omega arith in
    let F = front_at G g.work.now g.waiting r kept e (suc l) u in
    let w = c.open-n in
    let M = w.ensures.moves in record {
      work_after = opens_move G ok g.work.now g.waiting r kept l (index_of G r) (others_of G g.work.now g.waiting) F g.left (λ z. let some = c.if-left-eq0.false in omega arith)
          w.new.work w.result (r.second / 16) (h - r.second % 16) (ap (λ k. node k (index_of G r)) u) M.waits;
      moves = record { kept = M.kept; waits = refl; rest = M.rest; size = M.size };
      leads_2 = w.ensures.leads_2;
    }

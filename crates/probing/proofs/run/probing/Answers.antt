-- `probing`: no document is marked at first, and the marks are cleared with the rest in the end.
use Prim.Native.Nat.{ℕ, ◌*◌}
use native.Mathlib.Omega.{arith}
use mathlib.Core.Path.{ap, ◌∙◌}
use lib.ListN.{length, drop, replicate}
use Rattle.probing.specs.Slices.{marked}
use Rattle.probing.specs.Full.{listed_is}
use Rattle.probing.proofs.Laws.Slices.{marked_clear, clear_again}
use Rattle.probing.proofs.run.probing.Goals as goal

pub full_list-n-requires : goal.full_list-n-requires
full_list-n-requires c =
    let s = c in
    let N = s.args.s.now.documents in
    let rest = drop (length (replicate {A = ℕ} N 0)) s.args.work.now in record {
      documents_in_bounds = (omega arith, s.requires.documents_in_bounds.0);
      work_value = ap (marked N) c.clear.ensures ∙ marked_clear N N rest (omega arith);
    }

pub returns : goal.returns
returns c =
    let m = c in
    let s = m in
    let N = s.args.s.now.documents in
    let rest = m.full_list-n.ensures.work_unchanged ∙ ap (drop N) m.clear.ensures in
    let cleared = c.finish.ensures ∙ clear_again N (4 * N) s.args.work.now m.full_list-n.new.work (omega arith) rest in
    λ i. listed_is (m.full_list-n.ensures.value i) (m.full_list-n.ensures.answers_after i) (cleared i)

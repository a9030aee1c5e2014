-- `answer_line`: the length of its array by a lemma, which is quicker than to count it.
use Prim.Native.Nat.{ℕ}
use lib.ListN.{length-replicate}
use mathlib.Core.Path.{sym}
use Rattle.cases.proofs.answer_line.Goals as goal

pub slice_bounds-read_numbers-end : goal.slice_bounds-read_numbers-end
slice_bounds-read_numbers-end c = sym (length-replicate {A = ℕ} 70000 0)

use Rattle.bitmaps.proofs.Followed.{Followed}
use Rattle.bitmaps.proofs.single.document_at.Given as goal

abbrev pub invariant-loop-i : goal.invariant-loop-i
invariant-loop-i l = Followed l.tree.bytes.now l.tree.levels l.fn.j l.fn.start l.fn.p l.fn.end l.place l.document l.i

use Rattle.listing.proofs.Placed.{Placed}
use Rattle.listing.proofs.pass.place_entries.Given as goal

abbrev pub invariant-loop-i : goal.invariant-loop-i
invariant-loop-i l = Placed l.tree.bytes.now l.tree.levels l.a l.b l.initial.cursors l.initial.first l.cursors l.first l.i

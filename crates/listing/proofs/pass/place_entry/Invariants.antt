use Rattle.listing.proofs.Ways.{Way}
use Rattle.listing.proofs.pass.place_entry.Given as goal

abbrev pub invariant-loop-j : goal.invariant-loop-j
invariant-loop-j l = Way l.tree.bytes.now l.tree.levels l.i l.initial.cursors l.cursors l.v l.j

use Rattle.reader.proofs.Descending.{Read}
use Rattle.reader.proofs.lists.read_lengths.Given as goal

abbrev pub invariant-loop-t : goal.invariant-loop-t
invariant-loop-t l = Read l.archive l.t l.lengths

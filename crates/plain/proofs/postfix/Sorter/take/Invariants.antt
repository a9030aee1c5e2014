-- `take`: a mark less waits.
use Rattle.std.proofs.Common.{length}
use Rattle.plain.proofs.postfix.Sorter.take.Given as goal

abbrev pub decreases-loop-mark : goal.decreases-loop-mark
decreases-loop-mark l = length l.self.waiting.items

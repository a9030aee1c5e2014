-- `list`: no more documents are listed than are passed.
use Rattle.std.proofs.Common.{◌≤◌}
use Rattle.plain.proofs.pairs.list.Given as goal

abbrev pub invariant-loop-d : goal.invariant-loop-d
invariant-loop-d l = l.listed ≤ l.d

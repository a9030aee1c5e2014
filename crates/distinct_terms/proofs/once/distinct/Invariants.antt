-- `distinct`: a term is kept unless it stands before.
use Rattle.distinct_terms.proofs.Keeping.{Keeping}
use Rattle.distinct_terms.proofs.once.distinct.Given as goal

abbrev pub invariant-loop-i : goal.invariant-loop-i
invariant-loop-i l = Keeping l.terms l.i l.numbers l.size

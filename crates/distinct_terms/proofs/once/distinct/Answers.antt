-- `distinct`: a term is kept unless it stands before.
use Rattle.std.proofs.Common.{◌<◌, sym, ◌∙◌, length, arith}
use Rattle.distinct_terms.proofs.Keeping.{keeping_new, keeping_old}
use Rattle.distinct_terms.proofs.once.distinct.Goals as goal
use Rattle.distinct_terms.proofs.once.distinct.Goals.{then-not-stands_before, else-not-stands_before}

pub loop-i-preserved : goal.loop-i-preserved
loop-i-preserved c =
    let ts = c.args.terms.now in
    let l = c.loop-i in
    let inside : l.i < length ts = omega arith in
    let said = c.stands_before.ensures in
    elim c.if-not-stands_before.branch [
      | then-not-stands_before w ↦ rw (w.numbers-is, w.size-is) (keeping_new ts l.i inside l.numbers l.size l.invariant (omega arith) (sym said ∙ w.if-not-stands_before.true))
      | else-not-stands_before w ↦ rw (w.numbers-is, w.size-is) (keeping_old ts l.i inside l.numbers l.size l.invariant (sym said ∙ w.if-not-stands_before.false))
    ]

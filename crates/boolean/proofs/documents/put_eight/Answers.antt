-- `put_eight` meets its contract.
use Rattle.boolean.proofs.Members.{run_next}
use Rattle.boolean.proofs.documents.put_eight.Goals as goal

pub loop-k-preserved : goal.loop-k-preserved
loop-k-preserved c = run_next c.args.answers.now c.args.document c.args.place c.loop-k.k c.loop-k.answers c.loop-k.invariant

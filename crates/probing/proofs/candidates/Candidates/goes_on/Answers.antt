-- `goes_on`: the step, then whether k are held, then the count of the last of them.
use mathlib.Core.Path.{ap, ◌∙◌}
use borrow.Author.Tests.{ne_eqb}
use lib.Dec.{ltb}
use Rattle.model.specs.Queries.{Pair}
use Rattle.probing.proofs.Laws.Steps.{goes_on_short, goes_on_full}
use native.Mathlib.Omega.{arith}
use Rattle.probing.proofs.candidates.Candidates.goes_on.Goals as goal

pub returns-then-self-k : goal.returns-then-self-k
returns-then-self-k c =
    let a = c.args.self.now in
    rw (ne_eqb a.held a.k c.if-self-k.true) (goes_on_short a.answers.now a.held a.k c.args.g (omega arith) c.if-self-k.true)

pub returns-else-self-k : goal.returns-else-self-k
returns-else-self-k c =
    let a = c.args.self.now in
    ap (λ (p : Pair). ltb p.count c.args.g) c.pair_at.ensures ∙ goes_on_full a.answers.now a.held a.k c.args.g (omega arith) (omega arith) (omega arith)

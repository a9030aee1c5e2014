-- `number_at` meets its contract: within the question it does not matter what stands beyond its end.
-- Assumes nothing.
use lib.ListN.{get_or-eq_default}
use mathlib.Core.Path.{sym}
use native.Mathlib.Omega.{arith}
use Rattle.matching.proofs.Onward.{get_or-within}
use Rattle.matching.proofs.parts.number_at.Goals as goal

pub returns-then-at-question : goal.returns-then-at-question
returns-then-at-question c = get_or-within 0 65535 c.args.question.now c.args.at (omega arith)

pub returns-else-at-question : goal.returns-else-at-question
returns-else-at-question c = sym (get_or-eq_default c.args.question.now 65535 (omega arith))

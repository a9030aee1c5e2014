-- `matching_set` meets its contract: each return is a law of Whole.
-- Assumes nothing.
use native.Mathlib.Omega.{arith}
use Rattle.matching.specs.Sets.{set_at}
use Rattle.matching.proofs.Whole.{of_long, of_end, of_trailing, of-unread}
use Rattle.matching.proofs.matching_set.Goals as goal

pub returns-then-question-gt64 : goal.returns-then-question-gt64
returns-then-question-gt64 c = of_long (set_at c.args.masks.now c.args.block) c.args.question.now (omega arith)

pub returns-then-next-question : goal.returns-then-next-question
returns-then-next-question c = of_end (set_at c.args.masks.now c.args.block) c.args.question.now (omega arith) c.in-Parsed.set c.in-Parsed.next c.in-Parsed.ensures c.if-next-question.true

pub returns-else-next-question : goal.returns-else-next-question
returns-else-next-question c = of_trailing (set_at c.args.masks.now c.args.block) c.args.question.now (omega arith) c.in-Parsed.set c.in-Parsed.next c.in-Parsed.ensures c.if-next-question.false

pub returns-in-Unread : goal.returns-in-Unread
returns-in-Unread c = of-unread (set_at c.args.masks.now c.args.block) c.args.question.now (omega arith) c.in-Unread.ensures

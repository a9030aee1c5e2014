use native.Mathlib.Omega.{arith}
use mathlib.Core.Path.{◌∙◌}
use Rattle.conjunction.proofs.Searches.{resume_first, resume_later}
use Rattle.conjunction.proofs.common.resume.Goals as goal

pub after-requires : goal.after-requires
after-requires c = (omega (arith, c.requires.0), c.requires.1)

pub returns-then-from-eq0 : goal.returns-then-from-eq0
returns-then-from-eq0 c = let g = c.args in resume_first g.height g.from c.if-from-eq0.true

pub returns-else-from-eq0 : goal.returns-else-from-eq0
returns-else-from-eq0 c =
    let g = c.args in
    c.after.ensures ∙ resume_later g.height g.from c.if-from-eq0.false

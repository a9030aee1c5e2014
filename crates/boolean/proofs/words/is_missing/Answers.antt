use native.Mathlib.Omega.{arith}
use mathlib.Core.Path.{sym, ap, ◌∙◌}
use mathlib.Core.Bool.{Bool, ◌&&◌}
use lib.Dec.{leb}
use borrow.Author.Tests.{lt-ltb, le-ltb}
use Rattle.boolean.proofs.words.is_missing.Goals as goal

pub returns-then-number-lt4096 : goal.returns-then-number-lt4096
returns-then-number-lt4096 c = ap (λ (b : Bool). b && leb c.args.l.terms c.args.number) (sym (lt-ltb c.args.number 4096 (omega arith)))

pub returns-else-number-lt4096 : goal.returns-else-number-lt4096
returns-else-number-lt4096 c = let e = le-ltb c.args.number 4096 (omega arith) in e ∙ ap (λ (b : Bool). b && leb c.args.l.terms c.args.number) (sym e)

use Rattle.std.proofs.Common.{refl, rules}
use Rattle.std.proofs.lemmas.List.Recursion.{or_is}
use lib.Dec.{leb}
use Rattle.model.specs.Lists.{any}
use Rattle.paths.proofs.query.term_missing.Goals as goal

pub returns : goal.returns
returns c = or_is (any (leb c.args.l.terms)) (leb c.args.l.terms) refl (λ _ _. refl) c.args.terms.now 0 c.any.result (search rules) (search rules)

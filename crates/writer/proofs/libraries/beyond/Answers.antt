use Rattle.std.proofs.Common.{◌∙◌, rules, tests, leb}
use Rattle.std.proofs.lemmas.Iterator.{YieldsList-from_slice}
use Rattle.std.proofs.lemmas.Iterator.Search.{any_from_yields_List}
use Rattle.writer.proofs.Chains.{any-list}
use Rattle.writer.proofs.libraries.beyond.Goals as goal

pub returns : goal.returns
returns c =
    let xs = c.args.entries.now in
    any_from_yields_List (leb c.args.documents) _ _ _ c.any.ensures.ran (YieldsList-from_slice xs cc) (λ x b q k. search (rules, tests))
    ∙ any-list (leb c.args.documents) xs

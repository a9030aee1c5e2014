use Rattle.std.proofs.Common.{◌∙◌, rules}
use Rattle.std.proofs.lemmas.Iterator.{YieldsList-from_slice, YieldsList-from_map}
use Rattle.std.proofs.lemmas.Iterator.Consumers.{sum_by_from_yields_List}
use Rattle.writer.proofs.Chains.{sum-list}
use Rattle.writer.proofs.libraries.total.Goals as goal

pub returns : goal.returns
returns c =
    let xs = c.args.lengths.now in
    sum_by_from_yields_List (λ x. x) xs c.map.result c.sum.result c.sum.ensures.ran (YieldsList-from_map _ (λ x. x) (YieldsList-from_slice xs cc) c.map.ensures.closure (λ x r q k. search rules))
    ∙ sum-list xs

-- `at_rank`: the quantile of the range, which is below N, and its count, which is below 2 ^ 16.
use native.Mathlib.Omega.{arith}
use Rattle.probing.proofs.Ranges.{document_is, count_is}
use Rattle.probing.proofs.run.at_rank.Goals as goal

pub overflow_cast-result : goal.overflow_cast-result
overflow_cast-result c = let a = c.args in omega (arith, (count_is a.s.now c.requires c.quantile-found.ensures).1)

pub overflow_cast-result-2 : goal.overflow_cast-result-2
overflow_cast-result-2 c = let a = c.args in omega (arith, (document_is a.s.now c.requires c.quantile-found.ensures).2)

pub returns : goal.returns
returns c =
    let d = document_is c.args.s.now c.requires c.quantile-found.ensures in
    record { document = (d.0, d.1); count = (count_is c.args.s.now c.requires c.quantile-found.ensures).0 }

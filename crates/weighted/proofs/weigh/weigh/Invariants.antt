use Prim.Native.Nat.{ℕ}
use mathlib.Core.List.{List}
use Rattle.model.specs.Opening.{contents}
use Rattle.model.specs.Weighted.{weighed_term}
use Rattle.paths.proofs.Filling.{Filling}
use Rattle.weighted.proofs.weigh.weigh.Given as goal

abbrev pub weight_of : List ℕ → ℕ → ℕ
weight_of bytes t = (weighed_term (contents bytes) t).weight

abbrev pub invariant-loop-k : goal.invariant-loop-k
invariant-loop-k l = Filling (weight_of l.query.archive.bytes.now) l.query.terms.now l.weights l.k

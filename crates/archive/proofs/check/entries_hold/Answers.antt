use mathlib.Core.Path.{ap, ◌∙◌}
use Prim.Native.Nat.{ℕ}
use lib.Dec.{eqb}
use Rattle.archive.proofs.Parts.{entries_below}
use Rattle.archive.proofs.check.entries_hold.Goals as goal

pub returns : goal.returns
returns c =
    let t = c.args.tree.now in
    ap (λ (x : ℕ). eqb x t.levels.entries) c.count_below.ensures ∙ entries_below t.bytes.now t.levels c.args.documents

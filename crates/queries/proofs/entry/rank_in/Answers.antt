use Rattle.archive.proofs.Opened.{tree_entries, documents_fit}
use Prim.Native.Nat.{ℕ}
use native.Mathlib.Omega.{arith}
use mathlib.Core.Path.{ap, ◌∙◌}
use mathlib.Core.List.{List}
use Rattle.bits.specs.Sequences.{rank}
use Rattle.bits.proofs.Sequences.{rank_le}
use Rattle.model.specs.Opening.{contents}
use Rattle.queries.proofs.entry.rank_in.Goals as goal

pub rank-requires : goal.rank-requires
rank-requires c =
    let g = c.args in
    let fit = documents_fit g.archive.now.bytes.now g.archive.now.layout g.archive.now.opened in
    record { d_bound = (rw (c.tree.ensures.1) (omega (arith, c.requires.0, fit)), rw (c.tree.ensures.1) c.requires.1) }

pub returns : goal.returns
returns c =
    let g = c.args in
    let e = c.rank.ensures ∙ ap (λ (xs : List ℕ). rank g.document xs g.place) (tree_entries g.archive.now.bytes.now g.archive.now.layout g.archive.now.opened c.tree.ensures) in
    (e, rw e (rank_le g.document (contents g.archive.now.bytes.now).entries g.place))

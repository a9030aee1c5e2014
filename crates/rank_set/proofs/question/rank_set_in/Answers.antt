use Prim.Native.Nat.{ℕ, ◌^◌, ◌≤◌, ◌<◌}
use native.Mathlib.Omega.{arith}
use mathlib.Core.Path.{sym, ap, subst, ◌∙◌}
use mathlib.Core.List.{List}
use lib.ListN.{length}
use borrow.Author.Tests.{eqb-true, eqb-false}
use Rattle.model.specs.Opening.{contents}
use Rattle.model.specs.RankSet.{rank_set}
use Rattle.wavelet.specs.declared.Levels.{Levels}
use Rattle.archive.proofs.Opened.{tree_entries, documents_fit}
use Rattle.rank_set.proofs.Parts.{under-root}
use Rattle.rank_set.proofs.Counted.{root_reached, root-counts}
use Rattle.rank_set.proofs.Results.{empty-counts, rank-set_le}
use Rattle.rank_set.proofs.question.rank_set_in.Goals as goal

pub returns-then-is_empty : goal.returns-then-is_empty
returns-then-is_empty c =
    let g = c.args in
    (sym (empty-counts g.set.now (contents g.archive.now.bytes.now).entries g.place (eqb-true (length g.set.now) 0 (sym c.if-is_empty.ensures))), omega arith)

pub rank_node-requires : goal.rank_node-requires
rank_node-requires c =
    let g = c.args in
    let t = c.tree-tree.result in
    let some : 0 < length g.set.now = omega (arith, eqb-false (length g.set.now) 0 (sym c.if-is_empty.ensures)) in
    let fit : g.archive.now.layout.documents ≤ 2 ^ t.levels.height =
    subst (λ (x : Levels). g.archive.now.layout.documents ≤ 2 ^ x.height) (sym c.tree-tree.ensures.1) (documents_fit g.archive.now.bytes.now g.archive.now.layout g.archive.now.opened) in
    let under = under-root t.levels.height g.archive.now.layout.documents g.set.now c.requires.0 c.requires.1 fit some in
    record { under = (under, root_reached t.bytes.now t.levels g.set.now under g.place (rw (c.tree-tree.ensures.1) c.requires.2)) }

pub returns : goal.returns
returns c =
    let g = c.args in
    let t = c.tree-tree.result in
    let some : 0 < length g.set.now = omega (arith, eqb-false (length g.set.now) 0 (sym c.if-is_empty.ensures)) in
    let fit : g.archive.now.layout.documents ≤ 2 ^ t.levels.height =
    subst (λ (x : Levels). g.archive.now.layout.documents ≤ 2 ^ x.height) (sym c.tree-tree.ensures.1) (documents_fit g.archive.now.bytes.now g.archive.now.layout g.archive.now.opened) in
    let under = under-root t.levels.height g.archive.now.layout.documents g.set.now c.requires.0 c.requires.1 fit some in
    let e = root-counts t.bytes.now t.levels g.set.now under g.place (rw (c.tree-tree.ensures.1) c.requires.2) c.rank_node.result c.rank_node.ensures
    ∙ ap (λ (xs : List ℕ). rank_set g.set.now xs g.place) (tree_entries g.archive.now.bytes.now g.archive.now.layout g.archive.now.opened c.tree-tree.ensures) in
    (e, rw e (rank-set_le g.set.now (contents g.archive.now.bytes.now).entries g.place))

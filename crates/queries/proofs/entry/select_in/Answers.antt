use Rattle.archive.proofs.Opened.{tree_entries, documents_fit}
use Prim.Native.Nat.{ℕ}
use native.Mathlib.Omega.{arith}
use mathlib.Core.Path.{ap, ◌∙◌}
use mathlib.Core.List.{List}
use Rattle.bits.specs.Sequences.{select}
use Rattle.queries.proofs.entry.select_in.Goals as goal

pub select-requires : goal.select-requires
select-requires c =
    let g = c.args in
    let fit = documents_fit g.archive.now.bytes.now g.archive.now.layout g.archive.now.opened in
    record { d_bound = (rw (c.tree.ensures.1) (omega (arith, c.requires.0, fit)), c.requires.1) }

pub returns : goal.returns
returns c =
    let g = c.args in
    c.select.ensures ∙ ap (λ (xs : List ℕ). select g.document xs g.j) (tree_entries g.archive.now.bytes.now g.archive.now.layout g.archive.now.opened c.tree.ensures)

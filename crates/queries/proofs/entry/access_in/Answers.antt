use Rattle.archive.proofs.Opened.{tree_entries, entries-size, entries_within}
use Prim.Native.Nat.{ℕ}
use mathlib.Core.Path.{ap, ◌∙◌}
use mathlib.Core.List.{List}
use lib.ListN.{get_or}
use Rattle.model.specs.Opening.{contents}
use Rattle.model.proofs.Lists.{within_at}
use Rattle.queries.proofs.entry.access_in.Goals as goal

pub returns : goal.returns
returns c =
    let g = c.args in
    let e = c.access.ensures ∙ ap (λ (xs : List ℕ). get_or xs g.place 0) (tree_entries g.archive.now.bytes.now g.archive.now.layout g.archive.now.opened c.tree.ensures) in (
      e,
      rw e (within_at g.archive.now.layout.documents (contents g.archive.now.bytes.now).entries g.place (entries_within g.archive.now.bytes.now g.archive.now.layout g.archive.now.opened) (rw (entries-size g.archive.now.bytes.now g.archive.now.layout g.archive.now.opened) c.requires)),
    )

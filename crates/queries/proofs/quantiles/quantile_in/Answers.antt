use Prim.Native.Nat.{ℕ, ◌≤◌}
use mathlib.Core.Path.{ap, ◌∙◌}
use mathlib.Core.List.{List}
use lib.ListN.{length}
use Rattle.model.specs.Lists.{part}
use Rattle.model.specs.Opening.{contents}
use Rattle.model.specs.Queries.{quantile}
use Rattle.model.proofs.Lists.{length_part, within_part}
use Rattle.wavelet.specs.declared.Counted.{Counted}
use Rattle.archive.proofs.Opened.{tree_entries, entries-size, entries_within}
use Rattle.queries.proofs.Results.{quantile_lt}
use Rattle.queries.proofs.quantiles.quantile_in.Goals as goal

pub returns : goal.returns
returns c =
    let g = c.args in
    let xs : List ℕ = (contents g.archive.now.bytes.now).entries in
    let size = entries-size g.archive.now.bytes.now g.archive.now.layout g.archive.now.opened in
    let few : g.b ≤ length xs = rw size c.requires.1 in
    let e = ap (λ (d : Counted). d.document) c.quantile.ensures ∙ ap (λ (xs : List ℕ). quantile g.r (part g.a g.b xs)) (tree_entries g.archive.now.bytes.now g.archive.now.layout g.archive.now.opened c.tree.ensures) in (
      e,
      rw e (quantile_lt g.archive.now.layout.documents (part g.a g.b xs) g.r (within_part g.archive.now.layout.documents g.a g.b xs (entries_within g.archive.now.bytes.now g.archive.now.layout g.archive.now.opened))
          (rw (length_part g.a g.b xs few) c.requires.2)),
    )

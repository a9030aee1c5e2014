use Prim.Native.Nat.{ℕ, ◌^◌, ◌≤◌}
use native.Mathlib.Omega.{arith}
use mathlib.Core.Path.{◌≡◌, sym, ◌∙◌, subst}
use mathlib.Core.List.{List}
use Rattle.model.specs.Lists.{part}
use Rattle.model.specs.Opening.{contents}
use Rattle.model.specs.Weighted.{documents_in}
use Rattle.wavelet.specs.declared.Levels.{Levels}
use Rattle.wavelet.specs.Levels.{entries_in}
use Rattle.archive.proofs.Opened.{fitting}
use Rattle.archive_ranges.proofs.TermEnds.{term_order}
use Rattle.weighted.proofs.Weighing.{df_le, weight_is}
use Rattle.weighted.proofs.weigh.weight_in.Goals as goal

-- the documents of the archive's tree
of_tree : {b bytes : List ℕ} {t l : Levels} (x y df : ℕ) → (b ≡ bytes) × (t ≡ l) → df ≡ documents_in (2 ^ t.height) (part x y (entries_in b t))
    → df ≡ documents_in (2 ^ l.height) (part x y (entries_in bytes l))
of_tree x y df e f = f ∙ (λ i. documents_in (2 ^ (e.1 i).height) (part x y (entries_in (e.0 i) (e.1 i))))

pub overflow_add-term : goal.overflow_add-term
overflow_add-term c =
    let o = c.args.archive.now in
    omega (arith, (fitting o.bytes.now o.layout o.opened).terms)

pub distinct_in-df-requires : goal.distinct_in-df-requires
distinct_in-df-requires c =
    let o = c.args.archive.now in
    let a = c.term_start-a in
    let b = c.term_start-b in
    (term_order (contents o.bytes.now) c.args.term a.result b.result a.ensures.0 b.ensures.0, subst (λ (t : Levels). b.result ≤ t.entries) (sym c.tree-tree.ensures.1) b.ensures.1)

pub overflow_cast-archive : goal.overflow_cast-archive
overflow_cast-archive c =
    let o = c.args.archive.now in
    omega (arith, (fitting o.bytes.now o.layout o.opened).documents)

pub overflow_cast-df : goal.overflow_cast-df
overflow_cast-df c =
    let o = c.args.archive.now in
    let a = c.term_start-a in
    let b = c.term_start-b in
    let df = c.distinct_in-df in
    omega (arith, (fitting o.bytes.now o.layout o.opened).documents, df_le o.bytes.now o.layout o.opened c.args.term a.result b.result a.ensures.0 b.ensures.0 df.result (of_tree a.result b.result df.result c.tree-tree.ensures df.ensures))

pub weight_of-requires : goal.weight_of-requires
weight_of-requires c =
    let o = c.args.archive.now in
    let a = c.term_start-a in
    let b = c.term_start-b in
    let df = c.distinct_in-df in
    (df_le o.bytes.now o.layout o.opened c.args.term a.result b.result a.ensures.0 b.ensures.0 df.result (of_tree a.result b.result df.result c.tree-tree.ensures df.ensures), (fitting o.bytes.now o.layout o.opened).documents)

pub returns : goal.returns
returns c =
    let o = c.args.archive.now in
    let a = c.term_start-a in
    let b = c.term_start-b in
    let df = c.distinct_in-df in
    weight_is o.bytes.now o.layout o.opened c.args.term a.result b.result a.ensures.0 b.ensures.0 df.result c.weight_of.result (of_tree a.result b.result df.result c.tree-tree.ensures df.ensures) c.weight_of.ensures.0

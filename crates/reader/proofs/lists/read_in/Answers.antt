use Prim.Native.Nat.{ℕ}
use mathlib.Core.Path.{sym, ap, ◌∙◌}
use mathlib.Core.List.{map}
use native.Mathlib.Omega.{arith}
use lib.Seq.{length-take-le}
use Rattle.bits.specs.Sequences.{below}
use Rattle.model.specs.Opening.{length_at, contents}
use Rattle.wavelet.specs.declared.Levels.{Levels}
use Rattle.wavelet.specs.Levels.{entries_in}
use Rattle.archive.proofs.Opened.{fitting, entries-are}
use Rattle.reader.proofs.Contents.{overwritten, opened_table, lengths_are}
use Rattle.reader.proofs.lists.read_in.Goals as goal

pub slice_bounds-read_entries-end-2 : goal.slice_bounds-read_entries-end-2
slice_bounds-read_entries-end-2 c =
    let s = c in
    sym (length-take-le s.args.archive.now.layout.levels.entries s.args.entries.now s.requires.entries_in_bounds.0)

pub read_entries-requires : goal.read_entries-requires
read_entries-requires c =
    let n = c.args.archive.now.layout.levels.entries in
    length-take-le n c.args.entries.now c.requires.entries_in_bounds.0 ∙ ap (λ (t : Levels). t.entries) (sym c.tree.ensures.1)

pub slice_bounds-read_lengths-end-2 : goal.slice_bounds-read_lengths-end-2
slice_bounds-read_lengths-end-2 c =
    let s = c in
    sym (length-take-le s.args.archive.now.layout.terms s.args.lengths.now s.requires.entries_in_bounds.1)

pub read_lengths-requires : goal.read_lengths-requires
read_lengths-requires c =
    let s = c in
    let e = length-take-le s.args.archive.now.layout.terms s.args.lengths.now s.requires.entries_in_bounds.1 in
    let f = fitting s.args.archive.now.bytes.now s.args.archive.now.layout s.args.archive.now.opened in
    omega (arith, opened_table s.args.archive.now.bytes.now s.args.archive.now.layout s.args.archive.now.opened, f.terms)

pub returns : goal.returns
returns c =
    let s = c in
    let bytes = s.args.archive.now.bytes.now in
    let l = s.args.archive.now.layout in
    let o = s.args.archive.now.opened in
    let entries = c.read_entries in
    let lengths = c.read_lengths in
    let n = length-take-le l.levels.entries s.args.entries.now s.requires.entries_in_bounds.0 in
    let w = length-take-le l.terms s.args.lengths.now s.requires.entries_in_bounds.1 in record {
      entries_after = overwritten (contents bytes).entries s.args.entries.now entries.new.entries l.levels.entries (entries.ensures ∙ (λ i. entries_in (c.tree.ensures.0 i) (c.tree.ensures.1 i)) ∙ entries-are bytes l o) (entries.auto.entries ∙ n);
      lengths_after = overwritten (contents bytes).lengths s.args.lengths.now lengths.new.lengths l.terms
          (lengths.ensures ∙ ap (λ (k : ℕ). map (length_at bytes) (below k)) w ∙ lengths_are bytes l o) (lengths.auto.lengths ∙ w);
    }

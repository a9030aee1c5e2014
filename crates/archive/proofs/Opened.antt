-- What is known of an opened archive and its layout.
use Prim.Native.Nat.{ℕ, ◌+◌, ◌*◌, ◌^◌, ◌≤◌, ◌<◌}
use native.Mathlib.Omega.{arith}
use mathlib.Core.Path.{◌≡◌, refl, sym, ap, ◌∙◌, subst}
use mathlib.Core.List.{List}
use mathlib.Core.Bool.{true}
use lib.ListN.{length, length-map}
use lib.Seq.{take-length}
use Rattle.bits.specs.Sequences.{below}
use Rattle.bits.specs.Bits.{sum}
use Rattle.bits.proofs.Tally.{all-up_from, length-up_from}
use Rattle.model.specs.Lists.{Within}
use Rattle.model.specs.Format.{Sizes, archive_length}
use Rattle.model.specs.Opening.{sizes_at, start_at, length_at, entries_at, contents}
use Rattle.model.specs.Queries.{term_start}
use Rattle.model.proofs.Height.{le_pow-height}
use Rattle.model.proofs.Format.Valid.{Limits}
use Rattle.model.proofs.Format.WriteBack.{Accepted, accepted}
use Rattle.wavelet.specs.declared.Levels.{Levels}
use Rattle.wavelet.specs.Levels.{entries_in, Stored}
use Rattle.wavelet.proofs.Stored.{length-entries_in}
use Rattle.archive.specs.declared.Layout.{Layout}
use Rattle.archive.specs.Layout.{sizes_in, layout_of, Fitting, IsArchive, Opened}
use Rattle.archive.specs.Opening.{Laid, sampled_at}
use Rattle.archive.proofs.Bounds.{bounded}
use Rattle.archive.proofs.Parts.{laid_placed, placed_stored}
use Rattle.archive.proofs.TermTable.{table_start, table_total, term_start_mono}

module _ (bytes : List ℕ) (l : Layout) (o : Opened bytes l) where
  said : Accepted bytes × (sizes_at bytes ≡ sizes_in l)
  said = accepted bytes (sizes_in l) o.accepted

  pub sizes-are : sizes_at bytes ≡ sizes_in l
  sizes-are = said.1

  pub limits : Limits (sizes_in l)
  limits = subst Limits sizes-are said.0.limits

  pub fitting : Fitting l
  fitting = record { entries = limits.entries; documents = limits.documents; terms = limits.terms; shape = o.shape }

  pub laid : Laid bytes l
  laid = record { fitting = fitting; size = said.0.size ∙ ap archive_length sizes-are }

  layout_is : layout_of (sizes_at bytes) ≡ l
  layout_is = ap layout_of sizes-are ∙ sym o.shape

  -- the levels of the archive are what wavelet asks for
  pub stored : Stored bytes l.levels
  stored =
      placed_stored bytes l.levels (laid_placed bytes l laid)
      (all-up_from (sampled_at bytes l.levels) 0 l.levels.height
      (λ j a b. subst (λ (x : Layout). j < x.levels.height → sampled_at bytes x.levels j ≡ true) layout_is (said.0.samples j) (omega arith)))

  -- the entries of the levels are those of the library
  pub entries-are : entries_in bytes l.levels ≡ (contents bytes).entries
  unfolding entries_in entries_at
  entries-are = ap (λ (x : Layout). entries_in bytes x.levels) (sym layout_is)

  pub entries-size : length (contents bytes).entries ≡ l.levels.entries
  entries-size = ap length (sym entries-are) ∙ length-entries_in bytes l.levels

  -- every entry is a document
  pub entries_within : Within l.documents (contents bytes).entries
  entries_within = subst (λ (s : Sizes). Within s.documents (contents bytes).entries) sizes-are said.0.within

  -- the documents are leaves of the tree
  pub documents_fit : l.documents ≤ 2 ^ l.levels.height
  documents_fit = rw (bounded l fitting).height_is (le_pow-height l.documents)

  pub documents-are : (contents bytes).documents ≡ l.documents
  documents-are = ap (λ (s : Sizes). s.documents) sizes-are

  -- ---- the terms

  pub lengths_size : length (contents bytes).lengths ≡ l.terms
  lengths_size =
      length-map (below (sizes_at bytes).terms) (length_at bytes) ∙ length-up_from 0 (sizes_at bytes).terms ∙ ap (λ (s : Sizes). s.terms) sizes-are

  pub lengths_total : sum (contents bytes).lengths ≡ l.levels.entries
  lengths_total =
      omega (arith, table_total bytes (sizes_at bytes).entries 0 0 (sizes_at bytes).terms said.0.table, ap (λ (s : Sizes). s.entries) sizes-are)

  -- the table lies in the bytes
  pub pair_end : (t : ℕ) → t < l.terms → 40 + 8 * t + 8 ≤ length bytes
  pair_end t m = omega (arith, (bounded l fitting).samples_is, stored.samples_fit)

  -- where a term starts, and where the last one ends
  pub start_is : (t : ℕ) → t < l.terms → start_at bytes t ≡ term_start (contents bytes) t
  start_is t m =
      let e = ap (λ (s : Sizes). s.terms) sizes-are in
      let zero-first : 0 + t ≡ t = omega arith in
      ap (start_at bytes) (sym zero-first) ∙ table_start bytes (sizes_at bytes).entries 0 0 (sizes_at bytes).terms said.0.table t (omega arith) ∙ omega arith

  pub last_end : term_start (contents bytes) l.terms ≡ l.levels.entries
  last_end =
      ap (term_start (contents bytes)) (sym lengths_size) ∙ ap sum (take-length (contents bytes).lengths) ∙ lengths_total

  pub start_le : (t : ℕ) → t ≤ l.terms → term_start (contents bytes) t ≤ l.levels.entries
  start_le t m = omega (arith, term_start_mono (contents bytes) t l.terms m, last_end)

-- an archive, and the layout that its header gives
pub archive_opened : (bytes : List ℕ) → IsArchive bytes → Opened bytes (layout_of (sizes_at bytes))
archive_opened bytes e = record { accepted = e; shape = refl }

-- the entries of its tree, as `tree` answers it
pub tree_entries : (bytes : List ℕ) (l : Layout) → Opened bytes l → {others : List ℕ} {t : Levels} → (others ≡ bytes) × (t ≡ l.levels)
    → entries_in others t ≡ (contents bytes).entries
tree_entries bytes l o (e, f) = (λ i. entries_in (e i) (f i)) ∙ entries-are bytes l o

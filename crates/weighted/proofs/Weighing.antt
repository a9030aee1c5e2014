-- The weight of a term by the count of its documents.
use Prim.Native.Nat.{ℕ, suc, ◌+◌, ◌^◌, ◌≤◌}
use native.Mathlib.Omega.{arith}
use mathlib.Core.Path.{◌≡◌, sym, ap, ap₂, ◌∙◌}
use mathlib.Core.List.{List}
use Rattle.model.specs.Lists.{part}
use Rattle.model.specs.Opening.{contents}
use Rattle.model.specs.Queries.{term_start, under}
use Rattle.model.specs.Weighted.{documents_in, weight, weighed_term}
use Rattle.model.proofs.Lists.{within_part}
use Rattle.model.proofs.Weighted.Theorem.{documents_within, documents_le}
use Rattle.wavelet.specs.Levels.{entries_in}
use Rattle.archive.specs.declared.Layout.{Layout}
use Rattle.archive.specs.Layout.{Opened}
use Rattle.archive.proofs.Opened.{entries-are, entries_within, documents_fit, documents-are}
use Rattle.archive_ranges.proofs.TermEnds.{end_is}

module _ (bytes : List ℕ) (l : Layout) (o : Opened bytes l) (term a b : ℕ) (ea : a ≡ term_start (contents bytes) term) (eb : b ≡ term_start (contents bytes) (term + 1)) where
  -- df
  pub df_is : documents_in (2 ^ l.levels.height) (part a b (entries_in bytes l.levels)) ≡ documents_in (contents bytes).documents (under (contents bytes) term)
  df_is =
      (λ i. documents_in (2 ^ l.levels.height) (part (ea i) (end_is (contents bytes) term a b ea eb i) (entries-are bytes l o i)))
      ∙ documents_within l.documents (2 ^ l.levels.height) (under (contents bytes) term) (documents_fit bytes l o)
      (within_part l.documents (term_start (contents bytes) term) (term_start (contents bytes) (suc term)) (contents bytes).entries (entries_within bytes l o))
      ∙ ap (λ (n : ℕ). documents_in n (under (contents bytes) term)) (sym (documents-are bytes l o))

  pub df_le : (df : ℕ) → df ≡ documents_in (2 ^ l.levels.height) (part a b (entries_in bytes l.levels)) → df ≤ l.documents
  df_le df e = omega (arith, df_is, documents_le (contents bytes).documents (under (contents bytes) term), documents-are bytes l o)

  pub weight_is : (df g : ℕ) → df ≡ documents_in (2 ^ l.levels.height) (part a b (entries_in bytes l.levels)) → g ≡ weight l.documents df
      → g ≡ (weighed_term (contents bytes) term).weight
  weight_is df g e f = f ∙ ap₂ weight (sym (documents-are bytes l o)) (e ∙ df_is)

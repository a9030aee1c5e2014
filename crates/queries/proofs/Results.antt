-- What the results of model come to, for bytes that are refused and for an opened archive.
use Prim.Native.Nat.{ℕ, ◌≤◌, ◌<◌}
use native.Mathlib.Omega.{arith}
use mathlib.Core.Path.{◌≡◌, ap}
use mathlib.Core.List.{List}
use mathlib.Core.Bool.{true, false}
use lib.ListN.{length, get_or}
use lib.Dec.{leb, ltb, eqb}
use borrow.Author.Tests.{lt-ltb, le-ltb, le-leb, lt-leb, eq-eqb, ne_eqb}
use Rattle.bits.specs.Sequences.{rank, select}
use Rattle.bits.proofs.Sequences.{select_le}
use Rattle.bits.proofs.Tests.{or_right}
use Rattle.model.specs.Lists.{Within}
use Rattle.model.specs.Outcome.{answered, refused}
use Rattle.model.specs.Opening.{contents}
use Rattle.model.specs.Queries.{Range, bounds_of, quantile, access_result, rank_result, select_result, range_result, quantile_result}
use Rattle.model.proofs.Wavelet.Sorted.{quantile_ranked, tally-below-suc}
use Rattle.answers.proofs.Occurrences.{occurs_lt}
use Rattle.archive.specs.declared.Layout.{Layout}
use Rattle.archive.specs.Layout.{Opened}
use Rattle.archive.proofs.Opened.{entries-size, documents-are}
use Rattle.queries.specs.Ranges.{quantile_of}

-- ---- bounds of what is answered

-- the document of a rank is one of the entries
pub quantile_lt : (N : ℕ) (xs : List ℕ) (r : ℕ) → Within N xs → r < length xs → quantile r xs < N
quantile_lt N xs r w l =
    let p = quantile_ranked xs r l in
    occurs_lt N (quantile r xs) xs w (omega (arith, p.under, p.over, tally-below-suc (quantile r xs) xs))

-- ---- of an opened archive

module _ (bytes : List ℕ) (l : Layout) (o : Opened bytes l) where
  abbrev n : ℕ
  n = l.levels.entries

  abbrev xs : List ℕ
  xs = (contents bytes).entries

  -- documents by the bytes' own N
  no_document : (d : ℕ) → l.documents ≤ d → leb (contents bytes).documents d ≡ true
  no_document d h = le-leb (contents bytes).documents d (rw (documents-are bytes l o) h)

  a_document : (d : ℕ) → d < l.documents → leb (contents bytes).documents d ≡ false
  a_document d h = lt-leb (contents bytes).documents d (rw (documents-are bytes l o) h)

  -- ---- one entry

  pub access_out : (p : ℕ) → n ≤ p → refused 11 ≡ access_result bytes p
  access_out p h = rw (o.accepted, entries-size bytes l o, le-leb n p h)

  pub access_is : (p r : ℕ) → p < n → r ≡ get_or xs p 0 → answered r ≡ access_result bytes p
  access_is p r h e = rw (o.accepted, entries-size bytes l o, lt-leb n p h) (ap answered e)

  pub rank_no_document : (d p : ℕ) → l.documents ≤ d → refused 11 ≡ rank_result bytes d p
  rank_no_document d p h = rw (o.accepted, no_document d h)

  pub rank_out : (d p : ℕ) → n < p → refused 11 ≡ rank_result bytes d p
  rank_out d p h =
      rw (o.accepted, entries-size bytes l o, or_right (leb (contents bytes).documents d) (ltb n p) (lt-ltb n p h))

  pub rank_is : (d p r : ℕ) → d < l.documents → p ≤ n → r ≡ rank d xs p → answered r ≡ rank_result bytes d p
  rank_is d p r h k e =
      rw (o.accepted, a_document d h, entries-size bytes l o, le-ltb n p k) (ap answered e)

  pub select_no_document : (d j : ℕ) → l.documents ≤ d → refused 11 ≡ select_result bytes d j
  select_no_document d j h = rw (o.accepted, no_document d h)

  pub select_zeroth : (d j : ℕ) → j ≡ 0 → refused 11 ≡ select_result bytes d j
  select_zeroth d j h = rw (o.accepted, or_right (leb (contents bytes).documents d) (eqb j 0) (eq-eqb j 0 h))

  pub select_is : (d j r : ℕ) → d < l.documents → (j ≡ 0 → ⊥) → r ≡ select d xs j → answered r ≡ select_result bytes d j
  select_is d j r h k e = rw (o.accepted, a_document d h, ne_eqb j 0 k) (ap answered e)

  -- a place is at most the end
  pub select_fits : (d j : ℕ) → select d xs j ≤ n
  select_fits d j = rw (entries-size bytes l o) at (select_le d xs j)

  -- ---- ranges

  pub range_is : (range : Range) → bounds_of (contents bytes) range ≡ range_result bytes range
  range_is range = rw o.accepted

  pub quantile_is : (range : Range) (r : ℕ) → quantile_of (contents bytes) (bounds_of (contents bytes) range) r ≡ quantile_result bytes range r
  quantile_is range r = rw o.accepted

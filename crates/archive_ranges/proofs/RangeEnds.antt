-- The ends of a range of an opened archive, in either form, by the tests of the code.
use Prim.Native.Nat.{ℕ, suc, ◌≤◌, ◌<◌}
use native.Mathlib.Omega.{arith}
use mathlib.Core.Path.{◌≡◌}
use mathlib.Core.List.{List}
use mathlib.Core.Bool.{true, ◌||◌}
use lib.ListN.{length}
use lib.Dec.{leb, ltb}
use borrow.Author.Tests.{lt-ltb, le-ltb, le-leb, lt-leb}
use Rattle.bits.proofs.Tests.{or_right}
use Rattle.model.specs.Outcome.{answered, refused}
use Rattle.model.specs.Opening.{contents}
use Rattle.model.specs.Queries.{of_entries, of_terms, term_start, bounds_of}
use Rattle.archive.specs.declared.Layout.{Layout}
use Rattle.archive.specs.Layout.{Opened}
use Rattle.archive_ranges.specs.Ranges.{entry_bounds}
use Rattle.archive.proofs.Opened.{entries-size, lengths_size}
use Rattle.archive.proofs.TermTable.{term_start_mono}

module _ (n a b : ℕ) where
  pub entries_crossed : b < a → entry_bounds n a b ≡ refused 11
  entries_crossed l = rw (lt-ltb b a l)

  pub entries-beyond : n < b → entry_bounds n a b ≡ refused 11
  entries-beyond l = rw (or_right (ltb b a) (ltb n b) (lt-ltb n b l))

  pub entries_inside : a ≤ b → b ≤ n → entry_bounds n a b ≡ answered (record { from = a; to = b })
  entries_inside l m = rw (le-ltb b a l, le-ltb n b m)

module _ (bytes : List ℕ) (layout : Layout) (o : Opened bytes layout) where
  -- the entries of the library are as many as those of the layout
  pub entry_bounds_lem : (a b : ℕ) → entry_bounds layout.levels.entries a b ≡ bounds_of (contents bytes) (of_entries a b)
  entry_bounds_lem a b = rw (entries-size bytes layout o)

  module _ (f l : ℕ) where
    pub terms_crossed : l < f → bounds_of (contents bytes) (of_terms f l) ≡ refused 11
    terms_crossed m = rw (lt-ltb l f m)

    pub terms-beyond : layout.terms ≤ l → bounds_of (contents bytes) (of_terms f l) ≡ refused 11
    terms-beyond m =
        let W = length (contents bytes).lengths in
        let last : leb W l ≡ true = le-leb W l (omega (arith, lengths_size bytes layout o)) in
        rw (or_right (ltb l f || leb W f) (leb W l) last)

    pub terms_inside : f ≤ l → l < layout.terms
        → bounds_of (contents bytes) (of_terms f l) ≡ answered (record { from = term_start (contents bytes) f; to = term_start (contents bytes) (suc l) })
    terms_inside m k =
        let W = length (contents bytes).lengths in
        let e = lengths_size bytes layout o in
        rw (le-ltb l f m, lt-leb W f (omega arith), lt-leb W l (omega arith))

    pub terms-ordered : f ≤ l → term_start (contents bytes) f ≤ term_start (contents bytes) (suc l)
    terms-ordered m = term_start_mono (contents bytes) f (suc l) (omega arith)

-- The term table that holds: where terms start, and that their lengths add up to n.
use Prim.Native.Nat.{ℕ, zero, suc, ◌+◌, ◌≤◌, ◌<◌}
use native.Mathlib.Omega.{arith}
use native.Mathlib.Nat.{add-zero, not-suc-le-zero, le_of_suc-le-suc}
use mathlib.Core.Path.{◌≡◌, ap, ◌∙◌}
use mathlib.Core.List.{List, map}
use mathlib.Core.Bool.{true}
use lib.ListN.{take}
use lib.Dec.{eqb}
use borrow.Author.Tests.{eqb-true}
use Rattle.bits.specs.Sequences.{up_from}
use Rattle.bits.specs.Bits.{sum}
use Rattle.bits.proofs.Tests.{and_both}
use Rattle.model.specs.Format.{Library}
use Rattle.model.specs.Opening.{start_at, length_at, table_holds}
use Rattle.model.specs.Queries.{term_start}
use Rattle.model.proofs.Sums.{sum-take_mono}

module _ (bytes : List ℕ) (n : ℕ) where
  -- the terms after the first
  later : (start t m : ℕ) → table_holds bytes n start (up_from t (suc m)) ≡ true
      → (start_at bytes t ≡ start) × (table_holds bytes n (start_at bytes t + length_at bytes t) (up_from (suc t) m) ≡ true)
  later start t m e =
      let b = and_both (eqb (start_at bytes t) start) (table_holds bytes n (start_at bytes t + length_at bytes t) (up_from (suc t) m)) e in
      (eqb-true (start_at bytes t) start b.0, b.1)

  pub table_start : (start t m : ℕ) → table_holds bytes n start (up_from t m) ≡ true → (i : ℕ) → i < m
      → start_at bytes (t + i) ≡ start + sum (take i (map (length_at bytes) (up_from t m)))
  table_start start t zero e i l = absurd (not-suc-le-zero l)
  table_start start t (suc m) e zero l = ap (start_at bytes) (add-zero t) ∙ omega (arith, (later start t m e).0)
  table_start start t (suc m) e (suc i) l =
      let (first, rest) = later start t m e in
      let same : t + suc i ≡ suc t + i = omega arith in
      ap (start_at bytes) same ∙ table_start (start_at bytes t + length_at bytes t) (suc t) m rest i (le_of_suc-le-suc l) ∙ omega arith

  pub table_total : (start t m : ℕ) → table_holds bytes n start (up_from t m) ≡ true → start + sum (map (length_at bytes) (up_from t m)) ≡ n
  table_total start t zero e = omega (arith, eqb-true start n e)
  table_total start t (suc m) e =
      let (first, rest) = later start t m e in
      omega (arith, table_total (start_at bytes t + length_at bytes t) (suc t) m rest)

-- ---- where terms start

pub term_start_mono : (lib : Library) (a b : ℕ) → a ≤ b → term_start lib a ≤ term_start lib b
term_start_mono lib a b l = sum-take_mono lib.lengths a b l

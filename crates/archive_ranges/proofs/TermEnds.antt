-- The start and the end of a term, as `term_start` answers them of the term and of the one after it.
use Prim.Native.Nat.{ℕ, suc, ◌+◌, ◌≤◌}
use native.Mathlib.Numerals.{add-one}
use native.Mathlib.Omega.{arith}
use mathlib.Core.Path.{◌≡◌, ap, ◌∙◌}
use Rattle.model.specs.Format.{Library}
use Rattle.model.specs.Queries.{term_start}
use Rattle.archive.proofs.TermTable.{term_start_mono}

module _ (lib : Library) (term a b : ℕ) (ea : a ≡ term_start lib term) (eb : b ≡ term_start lib (term + 1)) where
  pub end_is : b ≡ term_start lib (suc term)
  end_is = eb ∙ ap (term_start lib) (add-one term)

  pub term_order : a ≤ b
  term_order = let e = end_is in omega (arith, ea, term_start_mono lib term (suc term) (omega arith))

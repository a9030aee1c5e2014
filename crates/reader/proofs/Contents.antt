-- What the reader asks of an opened archive, by the layout that the code holds.
use Prim.Native.Nat.{ℕ, ◌+◌, ◌*◌, ◌≤◌}
use mathlib.Core.Path.{◌≡◌, sym, ap, ◌∙◌}
use mathlib.Core.List.{List, ◌++◌, map}
use native.Mathlib.Omega.{arith}
use lib.ListN.{length, drop}
use Rattle.bits.specs.Sequences.{below}
use Rattle.model.specs.Lists.{overwrite}
use Rattle.model.specs.Format.{Sizes}
use Rattle.model.specs.Opening.{length_at, contents}
use Rattle.archive.specs.declared.Layout.{Layout}
use Rattle.archive.specs.Layout.{Opened}
use Rattle.archive.proofs.Bounds.{bounded}
use Rattle.archive.proofs.Opened.{sizes-are, fitting, stored}

-- a front part that comes back
pub overwritten : (new old part : List ℕ) (n : ℕ) → part ≡ new → length part ≡ n → part ++ drop n old ≡ overwrite new old
overwritten new old part n e size =
    ap (λ (k : ℕ). part ++ drop k old) (sym size) ∙ ap (λ (p : List ℕ). p ++ drop (length p) old) e

module _ (bytes : List ℕ) (l : Layout) (o : Opened bytes l) where
  pub opened_table : 40 + 8 * l.terms ≤ length bytes
  opened_table = omega (arith, (bounded l (fitting bytes l o)).samples_is, (stored bytes l o).samples_fit)

  pub lengths_are : map (length_at bytes) (below l.terms) ≡ (contents bytes).lengths
  lengths_are = ap (λ (z : Sizes). map (length_at bytes) (below z.terms)) (sym (sizes-are bytes l o))

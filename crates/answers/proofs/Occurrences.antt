-- Numbers that occur in a list, and runs of numbers of which none passes a test.
use Prim.Native.Nat.{ℕ, zero, suc, ◌+◌, ◌≤◌, ◌<◌}
use native.Mathlib.Nat.{le_refl, le_of_lt, le_trans}
use native.Mathlib.Omega.{arith}
use native.Mathlib.Decide.{dec_le}
use mathlib.Core.Path.{◌≡◌, refl}
use mathlib.Core.List.{List, []}
use mathlib.Core.Bool.{Bool, false}
use lib.Dec.{ltb}
use borrow.Author.Tests.{lt-ltb}
use Rattle.bits.specs.Sequences.{occurrences, up_from}
use Rattle.bits.proofs.Tally.{tally_le_length}
use Rattle.model.specs.Lists.{keep, Within}
use Rattle.model.proofs.Lists.{tally_within}
use Rattle.model.proofs.Wavelet.Sorted.{tally-below-suc}

pub keep_none : (p : ℕ → Bool) (v n : ℕ) → ((w : ℕ) → v ≤ w → w < v + n → p w ≡ false) → keep p (up_from v n) ≡ []
keep_none p v zero f = refl
keep_none p v (suc n) f = rw (f v (le_refl v) (omega arith)) (keep_none p (suc v) n (λ w l m. f w (le_of_lt l) (omega arith)))

-- what occurs among numbers below n is below n
pub occurs_lt : (n d : ℕ) (xs : List ℕ) → Within n xs → 0 < occurrences d xs → d < n
occurs_lt n d xs w o = go (dec_le n d)
  where
    go : Dec (n ≤ d) → d < n
    go (yes l) =
        absurd (omega (arith, tally-below-suc d xs, tally_within (λ x. ltb x d) n (λ x m. lt-ltb x d (le_trans m l)) xs w, tally_le_length (λ x. ltb x (suc d)) xs))
    go (no l) = omega arith

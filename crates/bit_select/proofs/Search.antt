-- Laws of the answer of a search for a bit: from counts to the place, or to the end.
use mathlib.Core.Path.{◌≡◌, ◌∙◌}
use mathlib.Core.List.{List}
use Prim.Native.Nat.{ℕ, ◌+◌, ◌<◌}
use native.Mathlib.Nat.{le_refl}
use native.Mathlib.Omega.{arith}
use lib.ListN.{length}
use Rattle.bits.specs.Bits.{bit_at, bits_of}
use Rattle.bits.specs.Rows.{count_below}
use Rattle.bits.specs.Sequences.{occurrences, rank, select}
use Rattle.bits.proofs.Bits.{length-bits_of, get_or-bits_of, rank-bits_of}
use Rattle.bits.proofs.Sequences.{select_eq, select_none, select-zero, rank-all}

module _ (v n : ℕ) (row : List ℕ) where
  pub found_at : (p j : ℕ) → p < n → bit_at row p ≡ v → count_below v row p + 1 ≡ j → select v (bits_of n row) j ≡ p
  found_at p j h b e =
      let l : p < length (bits_of n row) = rw (length-bits_of n row) h in
      let r : rank v (bits_of n row) p + 1 ≡ j = omega (arith, rank-bits_of v n row p (omega arith)) in
      select_eq v (bits_of n row) p j l (get_or-bits_of n row p h ∙ b) r

  pub found_none : (j : ℕ) → count_below v row n < j → select v (bits_of n row) j ≡ n
  found_none j h =
      let l = length-bits_of n row in
      let o : occurrences v (bits_of n row) < j = omega (arith, rank-all v (bits_of n row) n (omega arith), rank-bits_of v n row n (le_refl n)) in
      select_none v (bits_of n row) j o ∙ l

  pub found-zero : select v (bits_of n row) 0 ≡ n
  found-zero = select-zero v (bits_of n row) ∙ length-bits_of n row

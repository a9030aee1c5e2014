-- The bits of a kind in a word, from a place on.
use mathlib.Core.Path.{◌≡◌, ap, ◌∙◌}
use mathlib.Core.Bool.{Bool}
use mathlib.Core.List.{List}
use Prim.Native.Nat.{ℕ, ◌+◌, ◌*◌, ◌/◌, ◌%◌, ◌^◌, ◌≤◌, ◌<◌}
use native.Mathlib.Nat.{mod-lt}
use native.Mathlib.Omega.{arith}
use lib.Count.{ones, ones_cat, ones-le}
use lib.Dec.{lit<}
use lib.ListN.{get_or}
use lib.Pow.{pow_pos, mod-pow-add, shl_exact}
use Rattle.bits.specs.Rows.{count_below, of_kind, word_at}
use Rattle.bits.specs.Sequences.{bit}
use Rattle.bits.proofs.Bits.{kind_add, ones_word}

-- a shift of 1 by less than a word's width
pub shl_word : (s : ℕ) → s < 64 → 1 * 2 ^ s % 18446744073709551616 ≡ 2 ^ s
shl_word s h = shl_exact {a = 1} 1 s 64 (lit< tt) (omega arith) ∙ omega arith

module _ (row : List ℕ) (bytes : (i : ℕ) → get_or row i 0 < 256) where
  -- w bits from bit s of the word at byte k on
  pub count_in_word : (v : Bool) (k s w : ℕ) → s + w ≤ 64
      → count_below (bit v) row (8 * k + s + w) ≡ count_below (bit v) row (8 * k + s) + of_kind v w (ones (word_at row k / 2 ^ s % 2 ^ w))
  count_in_word v k s w h =
      let x = word_at row k in
      let p : 8 * k + (w + s) ≡ 8 * k + s + w = omega arith in
      let one : count_below 1 row (8 * k + s + w) ≡ count_below 1 row (8 * k + s) + ones (x / 2 ^ s % 2 ^ w)
      = omega (
        arith,
        ap (count_below 1 row) p,
        ones_word row bytes k (w + s) (omega arith),
        ones_word row bytes k s (omega arith),
        ap ones (mod-pow-add x w s),
        ones_cat s (x / 2 ^ s % 2 ^ w) (x % 2 ^ s) (mod-lt x (pow_pos s)),
      ) in
      kind_add v row (8 * k + s) (8 * k + s + w) w (ones (x / 2 ^ s % 2 ^ w)) (omega arith) (ones-le w (x / 2 ^ s % 2 ^ w) (mod-lt (x / 2 ^ s) (pow_pos w))) one

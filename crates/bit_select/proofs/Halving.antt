-- Laws of a search by halving: of blocks, and inside a word.
use mathlib.Core.Path.{◌≡◌, refl, ap, ◌∙◌}
use mathlib.Core.Bool.{Bool, true, false}
use mathlib.Core.List.{List}
use Prim.Native.Nat.{ℕ, ◌+◌, ◌-◌, ◌*◌, ◌/◌, ◌%◌, ◌^◌, ◌≤◌, ◌<◌}
use native.Mathlib.Nat.{div-one, add-zero, mul-one, mul-zero}
use native.Mathlib.Omega.{arith}
use lib.Count.{ones}
use lib.Dec.{ltb}
use lib.ListN.{get_or}
use lib.Pow.{shr-shr}
use borrow.Author.Tests.{ltb-true}
use Rattle.bits.specs.Rows.{count_below, of_kind, word_at}
use Rattle.bits.specs.Sequences.{bit}
use Rattle.bit_select.specs.Search.{InWord, times_of}
use Rattle.bits.proofs.Words.{count_in_word}
use mir.Val.{bool_byte}

pub times_bool : (b : Bool) (x : ℕ) → x * bool_byte b ≡ times_of b x
times_bool true x = mul-one x
times_bool false x = mul-zero x

pub byte-bit : (b : Bool) → bool_byte b ≡ bit b
byte-bit true = refl
byte-bit false = refl

pub times_le : (b : Bool) (x : ℕ) → times_of b x ≤ x
times_le true x = omega arith
times_le false x = omega arith

-- half of the blocks are passed where fewer than j bits stand before the middle
pub halve_step : (v : ℕ) (row : List ℕ) (j lo half x : ℕ) → x ≡ count_below v row (512 * (lo + half)) → count_below v row (512 * lo) < j
    → (b : Bool) → ltb x j ≡ b → count_below v row (512 * (lo + times_of b half)) < j
halve_step v row j lo half x e h true t = omega (arith, ltb-true x j t)
halve_step v row j lo half x e h false t = rw (add-zero lo) h

module _ (row : List ℕ) (bytes : (i : ℕ) → get_or row i 0 < 256) where
  -- the w lowest of the bits that are left are dropped where the wanted bit lies behind them
  pub narrow_step : (v : Bool) (k j w bits place before here : ℕ) → InWord v row k j (2 * w) bits place before → here ≡ of_kind v w (ones (bits % 2 ^ w))
      → (b : Bool) → ltb (before + here) j ≡ b → InWord v row k j w (bits / 2 ^ times_of b w) (place + times_of b w) (before + times_of b here)
  narrow_step v k j w bits place before here i e true t =
      let s = place - 8 * k in
      let x = word_at row k in
      let p : 8 * k + s ≡ place = omega arith in
      let q : s + w ≡ place + w - 8 * k = omega arith in
      let c = rw p at (count_in_word row bytes v k s w (omega arith)) in
      record {
        small = i.small;
        after = omega arith;
        room = omega arith;
        left = ap (λ (y : ℕ). y / 2 ^ w) i.left ∙ shr-shr x s w ∙ ap (λ (m : ℕ). x / 2 ^ m) q;
        counted = omega (arith, c, ap (λ (y : ℕ). of_kind v w (ones (y % 2 ^ w))) i.left);
        fewer = ltb-true (before + here) j t;
      }
  narrow_step v k j w bits place before here i e false t =
      let q : place - 8 * k ≡ place + 0 - 8 * k = omega arith in
      record {
        small = i.small;
        after = omega arith;
        room = omega arith;
        left = div-one bits ∙ i.left ∙ ap (λ (m : ℕ). word_at row k / 2 ^ m) q;
        counted = ap (count_below (bit v) row) (add-zero place) ∙ omega arith;
        fewer = omega arith;
      }

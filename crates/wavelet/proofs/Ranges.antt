-- The steps of the walk down by rank.
use Prim.Native.Nat.{ℕ, suc, ◌+◌, ◌-◌, ◌*◌, ◌^◌, ◌≤◌, ◌<◌}
use native.Mathlib.Nat.{two-pow-succ, sub-zero}
use native.Mathlib.Numerals.{add-one}
use native.Mathlib.Omega.{arith}
use mathlib.Core.Path.{◌≡◌, refl, sym, ap, ◌∙◌}
use mathlib.Core.List.{List}
use mathlib.Core.Bool.{Bool, true, false, cond}
use lib.Dec.{leb, ltb}
use lib.Pow.{pow_mono}
use borrow.Author.Tests.{lt-ltb, le-ltb, leb-true, leb-false}
use mir.Val.{bool_byte}
use Rattle.model.specs.Lists.{part}
use Rattle.model.specs.Walk.{zeros_in, quantile_from}
use Rattle.model.proofs.Wavelet.Rows.{rows_of}
use Rattle.model.proofs.Wavelet.Quantile.{quantile_walk_lem}
use Rattle.wavelet.specs.declared.Levels.{Levels}
use Rattle.wavelet.specs.declared.Span.{Span}
use Rattle.wavelet.specs.declared.Halves.{Halves}
use Rattle.wavelet.specs.Levels.{entries_in, level_of}
use Rattle.wavelet.specs.Spans.{Ordered, halves_of, half_of}
use Rattle.wavelet.specs.Ranges.{counted, quantile_in, leaf_of}
use Rattle.wavelet.proofs.Stored.{length-entries_in, within_entries_in}
use Rattle.wavelet.proofs.Steps.{level-of, by_ones, halves_by_ones, zero-count}

-- ---- numbers of nodes

pub node_lt : (q j : ℕ) (b : Bool) → q < 2 ^ j → 2 * q + bool_byte b < 2 ^ (j + 1)
node_lt q j true l = rw (add-one j, two-pow-succ j) (omega arith)
node_lt q j false l = rw (add-one j, two-pow-succ j) (omega arith)

pub node_few : (q j h : ℕ) → q < 2 ^ j → j ≤ h → h ≤ 12 → q < 4096
node_few q j h l m n =
    let d : j ≤ 12 = omega arith in
    let p : 2 ^ j ≤ 2 ^ 12 = pow_mono d in
    omega arith

pub byte_le : (b : Bool) → bool_byte b ≤ 1
byte_le true = omega arith
byte_le false = omega arith

-- of x if it is not above r, else of 0
pub byte_mul_le : (x r : ℕ) → (bool_byte (leb x r) * x ≤ r) × (bool_byte (leb x r) * x ≤ x)
byte_mul_le x r = go (leb x r) refl
  where
    go : (b : Bool) → leb x r ≡ b → (bool_byte b * x ≤ r) × (bool_byte b * x ≤ x)
    go true e = let l = leb-true x r e in (omega arith, omega arith)
    go false e = (omega arith, omega arith)

pub ordered_half : (n : ℕ) (two : Halves) → Ordered n two.zero → Ordered n two.one → (b : Bool) → Ordered n (half_of two (bool_byte b))
ordered_half n two zeros ones true = ones
ordered_half n two zeros ones false = zeros

-- ---- the walk

-- at the leaf
pub leaf_end : (bytes : List ℕ) (t : Levels) (j q : ℕ) (s : Span) (r : ℕ) → j ≡ t.height → counted q (s.hi - s.lo) ≡ leaf_of bytes t j q s r
leaf_end bytes t j q s r e =
    let z : 0 ≡ t.height - j = omega arith in
    ap (λ (m : ℕ). quantile_from counted (level_of bytes t) m j q s.start s.lo s.hi s.end r) z

module _ (bytes : List ℕ) (t : Levels) (j q : ℕ) (s : Span) (r : ℕ) (l : j < t.height) (o : Ordered t.entries s) where
  abbrev bits : List ℕ
  bits = level_of bytes t j

  abbrev zeros : ℕ
  zeros = (halves_of bits s).zero.hi - (halves_of bits s).zero.lo

  by_zeros : cond (ltb r zeros) (leaf_of bytes t (suc j) (2 * q) (halves_of bits s).zero r) (leaf_of bytes t (suc j) (2 * q + 1) (halves_of bits s).one (r - zeros))
      ≡ leaf_of bytes t j q s r
  by_zeros =
      let e : suc (t.height - suc j) ≡ t.height - j = omega arith in
      (λ i. cond (ltb r (count i)) (leaf_of bytes t (suc j) (2 * q) (two i).zero r) (leaf_of bytes t (suc j) (2 * q + 1) (two i).one (r - count i)))
      ∙ ap (λ (m : ℕ). quantile_from counted (level_of bytes t) m j q s.start s.lo s.hi s.end r) e
    where
      count : zeros ≡ zeros_in bits s.lo s.hi
      count = zero-count bits t.entries (level-of bytes t j l) s o

      two : halves_of bits s ≡ by_ones bits s
      two = halves_by_ones bits t.entries (level-of bytes t j l) s o

  -- down by one row
  pub leaf_next : leaf_of bytes t (j + 1) (2 * q + bool_byte (leb zeros r)) (half_of (halves_of bits s) (bool_byte (leb zeros r))) (r - bool_byte (leb zeros r) * zeros)
      ≡ leaf_of bytes t j q s r
  leaf_next = rw add-one (go (leb zeros r) refl ∙ by_zeros)
    where
      go : (b : Bool) → leb zeros r ≡ b
          → leaf_of bytes t (suc j) (2 * q + bool_byte b) (half_of (halves_of bits s) (bool_byte b)) (r - bool_byte b * zeros)
          ≡ cond (ltb r zeros) (leaf_of bytes t (suc j) (2 * q) (halves_of bits s).zero r) (leaf_of bytes t (suc j) (2 * q + 1) (halves_of bits s).one (r - zeros))
      go true e =
          let one : 1 * zeros ≡ zeros = omega arith in
          rw (le-ltb r zeros (leb-true zeros r e)) (ap (λ (n : ℕ). leaf_of bytes t (suc j) (2 * q + 1) (halves_of bits s).one (r - n)) one)
      go false e =
          let even : 2 * q + 0 ≡ 2 * q = omega arith in
          let none : r - 0 * zeros ≡ r = omega arith in
          rw (lt-ltb r zeros (leb-false zeros r e)) (λ i. leaf_of bytes t (suc j) (even i) (halves_of bits s).zero (none i))

-- from the root
pub leaf_root : (bytes : List ℕ) (t : Levels) (a b r : ℕ) → a ≤ b → b ≤ t.entries → r < b - a
    → leaf_of bytes t 0 0 (record { start = 0; lo = a; hi = b; end = t.entries }) r ≡ quantile_in (part a b (entries_in bytes t)) r
leaf_root bytes t a b r ab bl lr =
    (λ i. quantile_from counted (level_of bytes t) (sub-zero t.height i) 0 0 0 a b (sym (length-entries_in bytes t) i) r)
    ∙ quantile_walk_lem counted (rows_of t.height (entries_in bytes t) (within_entries_in bytes t)) a b ab r (rw (length-entries_in bytes t) bl) lr

-- Laws of halving: a mapped end by the ranks of a level, the halves of a node by the ones of its level, and that their places are in order.
use Prim.Native.Nat.{ℕ, ◌+◌, ◌-◌, ◌^◌, ◌≤◌, ◌<◌, zero-le}
use native.Mathlib.Nat.{le_refl, le_trans, le_of_lt}
use native.Mathlib.Omega.{arith}
use mathlib.Core.Path.{◌≡◌, sym, ap, ap₂, ◌∙◌, subst}
use mathlib.Core.List.{List}
use mathlib.Core.Bool.{true, false, cond}
use lib.ListN.{length}
use lib.Dec.{eqb}
use Rattle.bits.specs.Sequences.{rank}
use Rattle.model.specs.Lists.{part, Within}
use Rattle.model.specs.Walk.{zeros_in, left, right}
use Rattle.model.proofs.Wavelet.Rows.{row-length, row_below}
use Rattle.model.proofs.Wavelet.Counts.{ones_mono, ones_step, left_mono, left_le, left_le_right, right_mono, right_le}
use Rattle.model.proofs.Wavelet.Halving.{mapped_ones, mapped_zeros}
use Rattle.wavelet.specs.declared.Levels.{Levels}
use Rattle.wavelet.specs.declared.Span.{Span}
use Rattle.wavelet.specs.declared.Mapped.{Mapped}
use Rattle.wavelet.specs.declared.Halves.{Halves}
use Rattle.wavelet.specs.Levels.{entries_in, level_of}
use Rattle.wavelet.specs.Spans.{span, Ordered, Maps, halves_at, halves_of, half_of, ranked_of}
use Rattle.wavelet.proofs.Stored.{length-entries_in, within_entries_in}

-- a level of n bits
pub record Level (n : ℕ) (bits : List ℕ) : Type 0 where
  pub two : Within 2 bits
  pub size : length bits ≡ n

pub level-of : (bytes : List ℕ) (t : Levels) (j : ℕ) → j < t.height → Level t.entries (level_of bytes t j)
level-of bytes t j l = record {
  two = row_below t.height j (entries_in bytes t);
  size = row-length t.height j (entries_in bytes t) (le_of_lt l) (within_entries_in bytes t) ∙ length-entries_in bytes t;
}

pub rank_le : (bits : List ℕ) (p : ℕ) → rank 1 bits p ≤ p
rank_le bits p = omega (arith, ones_step bits 0 p zero-le)

-- ---- a place p of the node from `start` on, mapped

module _ (bits : List ℕ) (n : ℕ) (v : Level n bits) (start p : ℕ) (sp : start ≤ p) where
  -- by the ranks of the node's start and of the place
  pub maps_by_ranks : (a c : ℕ) → a ≡ rank 1 bits start → c ≡ rank 1 bits p → Maps bits start p (record { zeros = p - start - (c - a); ones = c - a })
  maps_by_ranks a c pa pc = record {
    zeros_are = λ end m l. ap₂ (λ (x y : ℕ). p - start - (x - y)) pc pa ∙ sym (mapped_zeros bits v.two start p end sp m l);
    ones_are = λ end m l. ap₂ (λ (x y : ℕ). x - y) pc pa ∙ sym (mapped_ones bits v.two start p end sp m l);
  }

  module _ (pn : p ≤ n) (r : Mapped) (m : Maps bits start p r) where
    here : p ≤ length bits
    here = rw v.size pn

    pub maps_ones : rank 1 bits start + r.ones ≡ rank 1 bits p
    maps_ones = omega (arith, m.ones_are p (le_refl p) here, mapped_ones bits v.two start p p sp (le_refl p) here, ones_mono bits start p sp)

    -- counted on from the ones before the node: no more than places
    pub maps_on : (a : ℕ) → a ≡ rank 1 bits start → (a + r.ones ≡ rank 1 bits p) × (a + r.ones ≤ n)
    maps_on a e = (omega (arith, e, maps_ones), omega (arith, e, maps_ones, rank_le bits p))

    pub maps_zeros : r.zeros + r.ones ≡ p - start
    maps_zeros =
        omega (arith, m.zeros_are p (le_refl p) here, mapped_zeros bits v.two start p p sp (le_refl p) here, maps_ones, ones_step bits start p sp)

-- where the halves of a node meet, by the ones of its level
pub middle_by_ones : (bits : List ℕ) (n : ℕ) → Level n bits → (start end : ℕ) → start ≤ end → end ≤ n → (ranked_of bits start end).middle ≡ left bits start end
middle_by_ones bits n v start end l m = ap (λ (z : ℕ). start + z) (mapped_zeros bits v.two start end end l (le_refl end) (rw v.size m))

-- ---- the halves of any node in order

-- by the ones of the level, as the walks have them
abbrev pub by_ones : List ℕ → Span → Halves
by_ones bits s = record {
  zero = span s.start (left bits s.start s.lo) (left bits s.start s.hi) (left bits s.start s.end);
  one = span (left bits s.start s.end) (right bits s.start s.end s.lo) (right bits s.start s.end s.hi) s.end;
}

module _ (bits : List ℕ) (n : ℕ) (v : Level n bits) (s : Span) (o : Ordered n s) where
  lo_end : s.lo ≤ s.end
  lo_end = le_trans o.range o.to

  start_hi : s.start ≤ s.hi
  start_hi = le_trans o.from o.range

  start-end : s.start ≤ s.end
  start-end = le_trans o.from lo_end

  inside : s.end ≤ length bits
  inside = rw v.size o.inside

  pub halves_by_ones : halves_of bits s ≡ by_ones bits s
  halves_by_ones = λ i. record {
    zero = span s.start (s.start + zeros s.lo o.from lo_end i) (s.start + zeros s.hi start_hi o.to i) (s.start + all i);
    one = span (s.start + all i) (s.start + all i + ones s.lo o.from lo_end i) (s.start + all i + ones s.hi start_hi o.to i) s.end;
  }
    where
      zeros : (p : ℕ) → s.start ≤ p → p ≤ s.end → rank 0 (part s.start s.end bits) (p - s.start) ≡ zeros_in bits s.start p
      zeros p l m = mapped_zeros bits v.two s.start p s.end l m inside

      ones : (p : ℕ) → s.start ≤ p → p ≤ s.end → rank 1 (part s.start s.end bits) (p - s.start) ≡ rank 1 bits p - rank 1 bits s.start
      ones p l m = mapped_ones bits v.two s.start p s.end l m inside

      all : rank 0 (part s.start s.end bits) (s.end - s.start) ≡ zeros_in bits s.start s.end
      all = zeros s.end start-end (le_refl s.end)

  pub ordered-zero : Ordered n (halves_of bits s).zero
  ordered-zero = subst (λ (two : Halves). Ordered n two.zero) (sym halves_by_ones) (record {
    from = omega arith;
    range = left_mono bits s.start s.lo s.hi o.from o.range;
    to = left_mono bits s.start s.hi s.end start_hi o.to;
    inside = le_trans (left_le bits s.start s.end start-end) o.inside;
  })

  pub ordered-one : Ordered n (halves_of bits s).one
  ordered-one = subst (λ (two : Halves). Ordered n two.one) (sym halves_by_ones) (record {
    from = left_le_right bits s.start s.lo s.end;
    range = right_mono bits s.start s.lo s.hi s.end o.range;
    to = right_le bits s.start s.hi s.end start_hi o.to;
    inside = o.inside;
  })

  pub ordered_half_of : (bit : ℕ) → Ordered n (half_of (halves_of bits s) bit)
  ordered_half_of bit = elim (eqb bit 1) as (λ b. Ordered n (cond b (halves_of bits s).one (halves_of bits s).zero)) [ true ↦ ordered-one | false ↦ ordered-zero ]

  -- the range's entries in the zero half are its zeros, those in the one half its ones
  left-add : (p : ℕ) → s.start ≤ p → left bits s.start p + rank 1 bits p ≡ p + rank 1 bits s.start
  left-add p l = omega (arith, ones_mono bits s.start p l, ones_step bits s.start p l)

  zeros-add : s.lo + zeros_in bits s.lo s.hi + rank 1 bits s.hi ≡ s.hi + rank 1 bits s.lo
  zeros-add = omega (arith, ones_mono bits s.lo s.hi o.range, ones_step bits s.lo s.hi o.range)

  pub zero-count : (halves_of bits s).zero.hi - (halves_of bits s).zero.lo ≡ zeros_in bits s.lo s.hi
  zero-count =
      ap (λ (two : Halves). two.zero.hi - two.zero.lo) halves_by_ones
      ∙ go (left bits s.start s.hi) (left bits s.start s.lo) (zeros_in bits s.lo s.hi) (rank 1 bits s.start) (rank 1 bits s.lo)
      (rank 1 bits s.hi) (left-add s.hi start_hi) (left-add s.lo o.from) zeros-add
    where
      go : (x y z a l h : ℕ) → x + h ≡ s.hi + a → y + l ≡ s.lo + a → s.lo + z + h ≡ s.hi + l → x - y ≡ z
      go x y z a l h p q r = omega arith

  pub one-count : (halves_of bits s).one.hi - (halves_of bits s).one.lo ≡ rank 1 bits s.hi - rank 1 bits s.lo
  one-count =
      ap (λ (two : Halves). two.one.hi - two.one.lo) halves_by_ones
      ∙ go (left bits s.start s.end) (rank 1 bits s.start) (rank 1 bits s.lo) (rank 1 bits s.hi) (ones_mono bits s.start s.lo o.from)
      (ones_mono bits s.lo s.hi o.range)
    where
      go : (m a l h : ℕ) → a ≤ l → l ≤ h → (m + (h - a)) - (m + (l - a)) ≡ h - l
      go m a l h p q = omega arith

  -- ---- by the steps of the code

  -- where the halves meet: the node's end, mapped
  pub maps_middle : (r : Mapped) → Maps bits s.start s.end r → s.start + r.zeros ≡ (ranked_of bits s.start s.end).middle
  maps_middle r m = ap (λ (z : ℕ). s.start + z) (m.zeros_are s.end (le_refl s.end) inside)

  module _ (lower upper : Mapped) (l : Maps bits s.start s.lo lower) (u : Maps bits s.start s.hi upper)
      (middle : ℕ) (m : middle ≡ (ranked_of bits s.start s.end).middle) where
    pub halves-at : halves_at s.start middle s.end lower upper ≡ halves_of bits s
    halves-at = λ i. record {
      zero = span s.start (s.start + l.zeros_are s.end lo_end inside i) (s.start + u.zeros_are s.end o.to inside i) (m i);
      one = span (m i) (m i + l.ones_are s.end lo_end inside i) (m i + u.ones_are s.end o.to inside i) s.end;
    }

    -- what the sums of the code ask: places of a level
    pub places_fit : n < 2 ^ 16
        → Ordered 65535 (halves_at s.start middle s.end lower upper).zero × Ordered 65535 (halves_at s.start middle s.end lower upper).one
    places_fit few = (wide (ap (λ (two : Halves). two.zero) halves-at) ordered-zero, wide (ap (λ (two : Halves). two.one) halves-at) ordered-one)
      where
        wide : {x y : Span} → x ≡ y → Ordered n y → Ordered 65535 x
        wide e q = subst (Ordered 65535) (sym e) (record { from = q.from; range = q.range; to = q.to; inside = omega (arith, q.inside) })

    -- what halving promises
    pub halves-made : (two : Halves) → two ≡ halves_at s.start middle s.end lower upper → (two ≡ halves_of bits s) × Ordered n two.zero × Ordered n two.one
    halves-made two e =
        let f = e ∙ halves-at in (
          f,
          subst (λ (r : Halves). Ordered n r.zero) (sym f) ordered-zero,
          subst (λ (r : Halves). Ordered n r.one) (sym f) ordered-one,
        )

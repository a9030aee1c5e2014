-- The ranks probed so far: every g-th rank, and with them every document that occurs g times or more.
use Prim.Native.Nat.{ℕ, suc, ◌+◌, ◌-◌, ◌*◌, ◌/◌, ◌≤◌, ◌<◌}
use native.Mathlib.Omega.{arith}
use native.Mathlib.Nat.{mod-lt, div-add-mod', suc-mul, mul_assoc, mul_left_comm, mul-le-mul_right}
use mathlib.Core.Path.{◌≡◌, sym, ap, ◌∙◌}
use mathlib.Core.Logic.{◌⊎◌, inl, inr}
use mathlib.Core.List.{List}
use mathlib.Core.Bool.{Bool, true, false, true≢false}
use lib.ListN.{length}
use lib.Dec.{ltb}
use borrow.Author.Tests.{lt-ltb}
use Rattle.bits.specs.Sequences.{tally, occurrences}
use Rattle.bits.proofs.Tests.{le_or_lt, Cmp, less, same, more, cmp}
use Rattle.bits.proofs.Tally.{tally_le_length}
use Rattle.model.specs.Lists.{Within}
use Rattle.model.specs.Queries.{quantile}
use Rattle.model.specs.Probing.{Probed}
use Rattle.model.proofs.Lists.{tally_within}
use Rattle.model.proofs.Wavelet.Sorted.{tally-below_mono, tally-below-suc, quantile_ranked, quantile_is}

-- ---- documents at ranks

pub quantile-occurs : (xs : List ℕ) (r : ℕ) → r < length xs → 0 < occurrences (quantile r xs) xs
quantile-occurs xs r l =
    let q = quantile_ranked xs r l in
    omega (arith, q.under, q.over, tally-below-suc (quantile r xs) xs)

pub quantile_within : (N : ℕ) (xs : List ℕ) → Within N xs → (r : ℕ) → r < length xs → quantile r xs < N
quantile_within N xs w r l = go (le_or_lt N (quantile r xs))
  where
    go : (N ≤ quantile r xs) ⊎ (quantile r xs < N) → quantile r xs < N
    go (inl h) =
        absurd (omega (
          arith,
          (quantile_ranked xs r l).under,
          tally-below_mono N (quantile r xs) xs h,
          tally_within (λ v. ltb v N) N (λ v k. lt-ltb v N k) xs w,
        ))
    go (inr h) = h

-- ---- every g-th rank

module _ (xs : List ℕ) (g : ℕ) (pos : 0 < g) (seen : ℕ → Bool) where
  -- the ranks of a document that occurs g times hold one of them
  pub probed_count : Probed xs g (length xs) seen → (d : ℕ) → seen d ≡ false → occurrences d xs < g
  probed_count h d e = go (le_or_lt g (occurrences d xs))
    where
      go : (g ≤ occurrences d xs) ⊎ (occurrences d xs < g) → occurrences d xs < g
      go (inr l) = l
      go (inl y) =
          let lo = tally (λ v. ltb v d) xs in
          let c = lo / g in
          let a = div-add-mod' lo g in
          let b = mod-lt lo pos in
          let up = tally-below-suc d xs in
          let m : c * g + g ≤ length xs = omega (arith, tally_le_length (λ v. ltb v (suc d)) xs) in
          let q = quantile_is xs (c * g + g - 1) d (record { under = omega arith; over = omega arith }) (omega arith) in
          absurd (true≢false (sym (h c m m) ∙ ap seen q ∙ e))

  -- the odd multiple at r, and the even one after it
  pub probed_step : (r turn : ℕ) → suc r ≡ 2 * (turn * g) + g → Probed xs (2 * g) (length xs) seen → Probed xs g r seen → seen (quantile r xs) ≡ true
      → Probed xs g (r + 2 * g) seen
  probed_step r turn e wide front now c l m = go (cmp c (2 * turn)) (cmp c (suc (2 * turn)))
    where
      go : Cmp c (2 * turn) → Cmp c (suc (2 * turn)) → seen (quantile (c * g + g - 1) xs) ≡ true
      go (less a) o = front c (omega (arith, suc-mul c g, mul-le-mul_right g a, mul_assoc 2 turn g)) m
      go (same a) o =
          let p : c * g ≡ 2 * turn * g = ap (λ (n : ℕ). n * g) a in
          let q : c * g + g - 1 ≡ r = omega (arith, mul_assoc 2 turn g) in
          ap (λ (n : ℕ). seen (quantile n xs)) q ∙ now
      go (more a) (less b) = absurd (omega arith)
      go (more a) (same b) =
          let p : c * g ≡ suc (2 * turn) * g = ap (λ (n : ℕ). n * g) b in
          let q : turn * (2 * g) + 2 * g ≡ c * g + g = omega (arith, suc-mul (2 * turn) g, mul_assoc 2 turn g, mul_left_comm turn 2 g) in
          ap (λ (n : ℕ). seen (quantile (n - 1) xs)) (sym q) ∙ wide turn (omega arith) (omega arith)
      go (more a) (more b) = absurd (omega (arith, mul-le-mul_right g b, suc-mul (suc (2 * turn)) g, suc-mul (2 * turn) g, mul_assoc 2 turn g))

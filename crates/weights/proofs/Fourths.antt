-- The weight by how many times df ^ 4 goes into N ^ 4.
use Rattle.std.proofs.Common.{◌≡◌, subst, ℕ, ◌*◌, ◌/◌, ◌^◌, ◌≤◌, ◌<◌, arith}
use Rattle.std.proofs.Math.Nat.{le-div_iff_mul-le, div-lt_iff_lt-mul}
use native.Mathlib.Nat.{one-le-pow, two-pow-succ, pow-le-pow_left}
use Rattle.model.specs.Weighted.{weight}
use Rattle.model.proofs.Weighted.Weights.{weight-largest, largest-of, largest_unique}

pub fourth_fits : (x : ℕ) → x ≤ 4096 → x ^ 4 < 18446744073709551616
fourth_fits x l = omega (arith, pow-le-pow_left l 4)

module _ (N df : ℕ) (least : 1 ≤ df) (few : df ≤ N) where
  pub fourth_some : 0 < df ^ 4
  fourth_some = one-le-pow 4 df least

  pub times_some : 0 < N ^ 4 / df ^ 4
  times_some = (le-div_iff_mul-le {k = df ^ 4} {x = 1} {y = N ^ 4} fourth_some).1 (omega (arith, pow-le-pow_left few 4))

  -- g is the logarithm to base 2 of how many times it goes
  pub by_logarithm : (g : ℕ) → 2 ^ g ≤ N ^ 4 / df ^ 4 → N ^ 4 / df ^ 4 < 2 * 2 ^ g → g ≡ weight N df
  by_logarithm g low high =
      largest_unique N df g (weight N df)
      (largest-of N df g ((le-div_iff_mul-le fourth_some).0 low) (subst (λ (x : ℕ). N ^ 4 < x * df ^ 4) (omega (arith, two-pow-succ)) ((div-lt_iff_lt-mul fourth_some).0 high)))
      (weight-largest N df least few)

-- A list as its low and its high entries, mixed by its top bits: what `interleave` joins and `keep` takes apart.
use Prim.Native.Nat.{ℕ, zero, suc, ◌+◌, ◌-◌, ◌/◌, ◌%◌, ◌≤◌, ◌<◌}
use mathlib.Core.Path.{◌≡◌, refl, ap, ap₂}
use mathlib.Core.List.{List, [], ◌∷◌, map}
use native.Mathlib.Nat.{le-add_right, div-eq_of_lt, div-eq_of_lt-le, add-div_left, add-sub_of_le}
use native.Mathlib.Omega.{arith}
use native.Mathlib.Decide.{dec_le}
use lib.ListN.{length}
use lib.Dec.{leb, ltb, eqb}
use borrow.Author.Tests.{lt-ltb, le-ltb, le-leb, lt-leb}
use Rattle.bits.specs.Sequences.{occurrences}
use Rattle.bits.proofs.Tally.{tally_le_length}
use Rattle.model.specs.Lists.{keep, Within}
use Rattle.model.specs.Rows.{interleave}

pub data Mix (H : ℕ) : List ℕ → List ℕ → List ℕ → List ℕ → Type 0 where
  stop : Mix H [] [] [] []
  zero_bit : {a : ℕ} {c ls hs xs : List ℕ} → a < H → Mix H c ls hs xs → Mix H (0 ∷ c) (a ∷ ls) hs (a ∷ xs)
  one_bit : {b : ℕ} {c ls hs xs : List ℕ} → b < H → Mix H c ls hs xs → Mix H (1 ∷ c) ls (b ∷ hs) ((H + b) ∷ xs)

module _ {H : ℕ} where
  pub mix_lows : {c ls hs xs : List ℕ} → Mix H c ls hs xs → keep (λ v. ltb v H) xs ≡ ls
  mix_lows stop = refl
  mix_lows (zero_bit {a = a} l m) = rw (lt-ltb a H l) (ap (λ (r : List ℕ). a ∷ r) (mix_lows m))
  mix_lows (one_bit {b = b} l m) = rw (le-ltb (H + b) H (le-add_right H b)) (mix_lows m)

  pub mix_highs : {c ls hs xs : List ℕ} → Mix H c ls hs xs → keep (λ v. leb H v) xs ≡ map (λ v. H + v) hs
  mix_highs stop = refl
  mix_highs (zero_bit {a = a} l m) = rw (lt-leb H a l) (mix_highs m)
  mix_highs (one_bit {b = b} l m) = rw (le-leb H (H + b) (le-add_right H b)) (ap (λ (r : List ℕ). (H + b) ∷ r) (mix_highs m))

  pub mix_bits : {c ls hs xs : List ℕ} → Mix H c ls hs xs → map (λ v. v / H % 2) xs ≡ c
  mix_bits stop = refl
  mix_bits (zero_bit {a = a} {c = c} l m) = ap₂ (λ (x : ℕ) (r : List ℕ). x ∷ r) (rw (div-eq_of_lt l)) (mix_bits m)
  mix_bits (one_bit {b = b} l m) = ap₂ (λ (x : ℕ) (r : List ℕ). x ∷ r) (rw (add-div_left b {k = H} (omega arith), div-eq_of_lt l)) (mix_bits m)

  pub mix_within : {c ls hs xs : List ℕ} → Mix H c ls hs xs → Within (H + H) xs
  mix_within stop = tt
  mix_within (zero_bit l m) = (omega arith, mix_within m)
  mix_within (one_bit l m) = (omega arith, mix_within m)

  pub mix_lows_within : {c ls hs xs : List ℕ} → Mix H c ls hs xs → Within H ls
  mix_lows_within stop = tt
  mix_lows_within (zero_bit l m) = (l, mix_lows_within m)
  mix_lows_within (one_bit l m) = mix_lows_within m

  pub mix_highs_within : {c ls hs xs : List ℕ} → Mix H c ls hs xs → Within H hs
  mix_highs_within stop = tt
  mix_highs_within (zero_bit l m) = mix_highs_within m
  mix_highs_within (one_bit l m) = (l, mix_highs_within m)

  pub mix_zeros : {c ls hs xs : List ℕ} → Mix H c ls hs xs → occurrences 0 c ≡ length ls
  mix_zeros stop = refl
  mix_zeros (zero_bit l m) = omega (arith, mix_zeros m)
  mix_zeros (one_bit l m) = omega (arith, mix_zeros m)

  pub mix_length : {c ls hs xs : List ℕ} → Mix H c ls hs xs → length xs ≡ length ls + length hs
  mix_length stop = refl
  mix_length (zero_bit l m) = omega (arith, mix_length m)
  mix_length (one_bit l m) = omega (arith, mix_length m)

  pub mix_is : {c ls hs xs : List ℕ} → Mix H c ls hs xs → interleave H c ls hs ≡ xs
  mix_is stop = refl
  mix_is (zero_bit {a = a} l m) = ap (λ (r : List ℕ). a ∷ r) (mix_is m)
  mix_is (one_bit {b = b} l m) = ap (λ (r : List ℕ). (H + b) ∷ r) (mix_is m)

-- a list below H + H is such a mix
pub mix_of : (H : ℕ) (xs : List ℕ) → Within (H + H) xs
    → Mix H (map (λ v. v / H % 2) xs) (keep (λ v. ltb v H) xs) (map (λ v. v - H) (keep (λ v. leb H v) xs)) xs
mix_of H [] b = stop
mix_of H (x ∷ xs) b = go (dec_le H x) (mix_of H xs b.1)
  where
    go : Dec (H ≤ x) → Mix H (map (λ v. v / H % 2) xs) (keep (λ v. ltb v H) xs) (map (λ v. v - H) (keep (λ v. leb H v) xs)) xs
        → Mix H (map (λ v. v / H % 2) (x ∷ xs)) (keep (λ v. ltb v H) (x ∷ xs)) (map (λ v. v - H) (keep (λ v. leb H v) (x ∷ xs))) (x ∷ xs)
    go (yes h) m =
        let l : x - H < H = omega (arith, b.0) in
        rw (le-ltb x H h, le-leb H x h, div-eq_of_lt-le {k = 1} H {m = x} (omega arith) (omega (arith, b.0))) (rw (add-sub_of_le h) at (one_bit l m))
    go (no h) m = let l : x < H = omega arith in rw (lt-ltb x H l, lt-leb H x l, div-eq_of_lt l) (zero_bit l m)

-- bits and two lists of the right lengths make one
pub mix_make : (H : ℕ) (c ls hs : List ℕ) → Within 2 c → Within H ls → Within H hs → length ls ≡ occurrences 0 c → length c ≡ length ls + length hs
    → Mix H c ls hs (interleave H c ls hs)
mix_make H [] [] [] bc bl bh el eh = stop
mix_make H [] [] (b ∷ hs) bc bl bh el eh = absurd (omega arith)
mix_make H [] (a ∷ ls) hs bc bl bh el eh = absurd (omega arith)
mix_make H (zero ∷ c) [] hs bc bl bh el eh = absurd (omega arith)
mix_make H (zero ∷ c) (a ∷ ls) hs bc bl bh el eh = zero_bit bl.0 (mix_make H c ls hs bc.1 bl.1 bh (omega arith) (omega arith))
mix_make H (suc zero ∷ c) ls [] bc bl bh el eh = absurd (omega (arith, tally_le_length (eqb 0) c))
mix_make H (suc zero ∷ c) ls (b ∷ hs) bc bl bh el eh = one_bit bh.0 (mix_make H c ls hs bc.1 bl bh.1 (omega arith) (omega arith))
mix_make H (suc (suc n) ∷ c) ls hs bc bl bh el eh = absurd (omega (arith, bc.0))

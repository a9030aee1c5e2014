-- Probing gives the full list, for a range of any size and any k.
use Prim.Native.Nat.{ℕ, zero, suc, ◌+◌, ◌-◌, ◌*◌, ◌^◌, ◌≤◌, ◌<◌}
use native.Mathlib.Omega.{arith}
use native.Mathlib.Nat.{pow-suc}
use mathlib.Core.Path.{◌≡◌, refl}
use mathlib.Core.Logic.{◌⊎◌, inl, inr}
use mathlib.Core.List.{List, []}
use mathlib.Core.Bool.{true, false, cond}
use lib.ListN.{length}
use lib.Dec.{leb, ltb}
use lib.Pow.{pow_pos}
use borrow.Author.Tests.{ltb-true, ltb-false, leb-false}
use Rattle.bits.proofs.Tests.{look}
use Rattle.model.specs.Lists.{Within}
use Rattle.model.specs.TopK.{full_list}
use Rattle.model.specs.Probing.{State, unseen, probe, sweep, round, settled, rounds, exponent_to, probing, Swept}
use Rattle.model.proofs.Probing.Rounds.{Sweeping, swept_start, sweeping_start, sweeping_end, sweeping_probe, swept_last, swept_settled}

-- the first step is more than half the size
exponent_high : (f m : ℕ) → m < 2 ^ suc f → m < 2 ^ suc (exponent_to f m)
exponent_high zero m l = l
exponent_high (suc f) m l = go (look (leb (2 ^ suc f) m)) (exponent_high f m)
  where
    go : (leb (2 ^ suc f) m ≡ true) ⊎ (leb (2 ^ suc f) m ≡ false) → (m < 2 ^ suc f → m < 2 ^ suc (exponent_to f m))
        → m < 2 ^ suc (cond (leb (2 ^ suc f) m) (suc f) (exponent_to f m))
    go (inl y) h = rw y l
    go (inr n) h = rw n (h (leb-false (2 ^ suc f) m n))

lt_power : (m : ℕ) → m < 2 ^ suc m
lt_power zero = omega arith
lt_power (suc m) = omega (arith, pow-suc 2 (suc m), lt_power m)

module _ (N k : ℕ) (xs : List ℕ) (within : Within N xs) where
  -- ---- a round

  module _ (g : ℕ) (pos : 0 < g) where
    abbrev At : ℕ → State → Type 0
    At r s = Sweeping N k xs g r s.seen s.candidates

    abbrev After : ℕ → State → Type 0
    After step s = Swept N k xs step s.seen s.candidates

    sweep_swept : (n r : ℕ) (s : State) → length xs ≤ r + n → At r s → After g (sweep k xs g n r s)
    sweep_swept zero r s l i = sweeping_end pos r (omega arith) i
    sweep_swept (suc n) r s l i = go (look (ltb r (length xs))) (sweep_swept n (r + 2 * g) (probe k xs r s) (omega arith))
      where
        go : (ltb r (length xs) ≡ true) ⊎ (ltb r (length xs) ≡ false)
            → (At (r + 2 * g) (probe k xs r s) → After g (sweep k xs g n (r + 2 * g) (probe k xs r s)))
            → After g (cond (ltb r (length xs)) (sweep k xs g n (r + 2 * g) (probe k xs r s)) s)
        go (inl e) h = rw e (h (sweeping_probe pos within r (ltb-true r (length xs) e) s i))
        go (inr e) h = rw e (sweeping_end pos r (ltb-false r (length xs) e) i)

    round_swept : (s : State) → After (2 * g) s → After g (round k xs g s)
    round_swept s o = sweep_swept (length xs) (g - 1) s (omega arith) (sweeping_start pos o)

  -- ---- all rounds

  rounds-full : (e : ℕ) (s : State) → Swept N k xs (2 ^ suc e) s.seen s.candidates → rounds k xs e s ≡ full_list N k xs
  rounds-full zero s o = let t = round k xs 1 s in swept_last (omega arith) refl (round_swept 1 (omega arith) s o)
  rounds-full (suc e) s o = go (look (settled k g t.candidates)) (rounds-full e t w)
    where
      g : ℕ
      g = 2 ^ suc e

      t : State
      t = round k xs g s

      double : 2 ^ suc (suc e) ≡ 2 * g
      double = omega (arith, pow-suc 2 (suc e))

      w : Swept N k xs g t.seen t.candidates
      w = round_swept g (pow_pos (suc e)) s (rw double at o)

      go : (settled k g t.candidates ≡ true) ⊎ (settled k g t.candidates ≡ false) → rounds k xs e t ≡ full_list N k xs
          → cond (settled k g t.candidates) t.candidates (rounds k xs e t) ≡ full_list N k xs
      go (inl y) h = rw y (swept_settled (pow_pos (suc e)) y w)
      go (inr n) h = rw n h

  -- for every range of documents below N
  pub probing-full : probing k xs ≡ full_list N k xs
  probing-full =
      let m = length xs in
      let e = exponent_to m m in
      rounds-full e (record { seen = unseen; candidates = [] }) (swept_start (exponent_high m m (lt_power m)))

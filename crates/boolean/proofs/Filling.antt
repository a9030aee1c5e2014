-- The bitmaps of the terms, one after the other: a new one leaves the ones before it as they are.
use Prim.Native.Nat.{ℕ, ◌+◌, ◌-◌, ◌*◌, ◌^◌, ◌≤◌, ◌<◌}
use native.Mathlib.Omega.{arith}
use native.Mathlib.Decide.{dec_le}
use mathlib.Core.Path.{◌≡◌, ap, ◌∙◌}
use mathlib.Core.List.{List}
use lib.ListN.{length, get_or, take, length-map}
use lib.Seq.{sets, length-take-le, get_or-take}
use Rattle.bits.specs.Sequences.{below}
use Rattle.bits.proofs.Tally.{length-up_from, get_or-map-below}
use Rattle.model.specs.Format.{Library}
use Rattle.model.proofs.Stores.{sets_before, sets_at}
use Rattle.bitmaps.specs.Words.{block_height}
use Rattle.bitmaps.specs.Bitmaps.{term_word, bitmap}
use Rattle.boolean.specs.Blocks.{Filled, Below}
use Rattle.boolean.proofs.Matched.{blocks_few}

module _ (lib : Library) (h : ℕ) (low : h ≤ 12) (terms : List ℕ) where
  bitmap-length : (t : ℕ) → length (bitmap lib h t) ≡ 2 ^ (h - block_height h)
  bitmap-length t = length-map (below (2 ^ (h - block_height h))) (term_word lib h t) ∙ length-up_from 0 (2 ^ (h - block_height h))

  pub filled_none : (masks : List ℕ) → Filled lib h terms 0 masks
  filled_none masks i b l m = absurd (omega arith)

  pub filled_next : (i : ℕ) (masks after : List ℕ) → length masks ≡ 2048 → i < 32 → Filled lib h terms i masks
      → after ≡ sets masks (64 * i) (bitmap lib h (get_or terms i 0)) → Filled lib h terms (i + 1) after
  filled_next i masks after size few o e k b l m = go (dec_le i k)
    where
      is : get_or after (64 * k + b) 0 ≡ get_or (sets masks (64 * i) (bitmap lib h (get_or terms i 0))) (64 * k + b) 0
      is = ap (λ (xs : List ℕ). get_or xs (64 * k + b) 0) e

      go : Dec (i ≤ k) → get_or after (64 * k + b) 0 ≡ term_word lib h (get_or terms k 0) b
      go (yes s) =
          let same : k ≡ i = omega arith in
          is ∙ ap (λ (n : ℕ). get_or (sets masks (64 * i) (bitmap lib h (get_or terms i 0))) (64 * n + b) 0) same
          ∙ sets_at masks (64 * i) (bitmap lib h (get_or terms i 0)) b (omega (arith, bitmap-length (get_or terms i 0))) (omega (arith, blocks_few h low))
          ∙ get_or-map-below (term_word lib h (get_or terms i 0)) (2 ^ (h - block_height h)) b 0 m
          ∙ ap (λ (n : ℕ). term_word lib h (get_or terms n 0) b) (omega arith)
      go (no s) =
          is ∙ sets_before masks (64 * i) (bitmap lib h (get_or terms i 0)) (64 * k + b) (omega (arith, blocks_few h low))
          ∙ o k b (omega arith) m

  -- the terms of a front part are the first terms
  pub filled_front : (size : ℕ) (masks : List ℕ) → size ≤ length terms → Filled lib h (take size terms) (length (take size terms)) masks → Filled lib h terms size masks
  filled_front size masks few f i b l m =
      f i b (omega (arith, length-take-le size terms few)) m ∙ ap (λ (t : ℕ). term_word lib h t b) (get_or-take size terms i 0 l)

pub below_front : (W size : ℕ) (terms : List ℕ) → size ≤ length terms → Below W terms size → Below W (take size terms) (length (take size terms))
below_front W size terms few below i l =
    let m : i < size = omega (arith, length-take-le size terms few) in
    rw (get_or-take size terms i 0 m) (below i m)

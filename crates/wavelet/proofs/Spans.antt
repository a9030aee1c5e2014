-- Laws of nodes with a range in them: the root, the halves of a node as the nodes of the next depth, counts, and that their places are in order.
use Prim.Native.Nat.{ℕ, suc, ◌+◌, ◌-◌, ◌*◌, ◌^◌, ◌≤◌, ◌<◌, zero-le}
use native.Mathlib.Nat.{le_refl}
use mathlib.Core.Path.{◌≡◌, sym}
use mathlib.Core.List.{List}
use lib.ListN.{length}
use Rattle.model.specs.Lists.{part, Within}
use Rattle.model.specs.Rows.{row}
use Rattle.model.specs.TopK.{node, count_in}
use Rattle.model.specs.Walk.{key}
use Rattle.model.proofs.Wavelet.Rows.{pos-root}
use Rattle.model.proofs.Wavelet.Counts.{node_count, pos_mono, pos_le_length}
use Rattle.model.proofs.Wavelet.Halving.{steps-zero, steps-one}
use Rattle.wavelet.specs.Spans.{Ordered, span_from, halves_of, span_of}

-- ---- the nodes of a list of entries

module _ (h : ℕ) (xs : List ℕ) (a b : ℕ) where
  -- the root
  pub span-root : Within (2 ^ h) xs → a ≤ length xs → b ≤ length xs → span_of h xs a b 0 0 ≡ record { start = 0; lo = a; hi = b; end = length xs }
  span-root w la lb = λ i. record {
    start = pos-root h xs 0 w zero-le i;
    lo = pos-root h xs a w la i;
    hi = pos-root h xs b w lb i;
    end = pos-root h xs (length xs) w (le_refl (length xs)) i;
  }

  -- the halves of a node are its children
  pub span-halves : Within (2 ^ h) xs → a ≤ length xs → b ≤ length xs → (j q : ℕ) → j < h → q < 2 ^ j
      → halves_of (row h j xs) (span_of h xs a b j q) ≡ record { zero = span_of h xs a b (suc j) (2 * q); one = span_of h xs a b (suc j) (2 * q + 1) }
  span-halves w la lb j q l m = λ i. record {
    zero = span_from (steps-zero h xs w j q l m a b la lb i);
    one = span_from (steps-one h xs w j q l m a b la lb i);
  }

  -- the range's entries in a node are counted by its two places
  pub span-count : (j q : ℕ) → a ≤ b → (span_of h xs a b j q).hi - (span_of h xs a b j q).lo ≡ count_in (part a b xs) (node (h - j) q)
  span-count j q l = sym (node_count h xs a b l j q)

  pub span-ordered : (j q : ℕ) → a ≤ b → b ≤ length xs → Ordered (length xs) (span_of h xs a b j q)
  span-ordered j q l m = record {
    from = pos_mono (key h j) xs q 0 a zero-le;
    range = pos_mono (key h j) xs q a b l;
    to = pos_mono (key h j) xs q b (length xs) m;
    inside = pos_le_length (key h j) xs q (length xs);
  }

-- Cursors: an entry takes those of the nodes that hold it one back, and finds its way down by them.
use Prim.Native.Nat.{ℕ, zero, suc, ◌+◌, ◌-◌, ◌*◌, ◌^◌, ◌≤◌, ◌<◌}
use native.Mathlib.Omega.{arith}
use native.Mathlib.Nat.{le_of_lt, le_trans}
use native.Mathlib.Numerals.{add-one}
use native.Mathlib.Decide.{ℕ_discrete}
use mathlib.Core.Path.{◌≡◌, refl, sym, ap, ◌∙◌}
use mathlib.Core.List.{List}
use lib.ListN.{length, get_or, length-set}
use lib.Seq.{get_or-set_same, get_or-set_other}
use lib.Dec.{eqb}
use borrow.Author.Tests.{eq-eqb, ne_eqb}
use Rattle.bits.specs.Sequences.{bit}
use Rattle.model.specs.Lists.{Within}
use Rattle.model.specs.Rows.{row}
use Rattle.model.specs.Walk.{pos, key}
use Rattle.model.proofs.Lists.{within_at}
use Rattle.model.proofs.Wavelet.Placing as placing
use Rattle.model.proofs.Wavelet.Rows.{key_lt, row-length, row-bit, row-pos_lt}
use Rattle.listing.specs.Places.{number_of, holder, Ready, back_to, Cursors}
use Rattle.listing.proofs.Numbers.{number-level, number-place, holder_lt, holder_next}

-- ---- one back along a way

pub length_back : (h v k : ℕ) (table : List ℕ) → length (back_to h v k table) ≡ length table
length_back h v zero table = refl
length_back h v (suc k) table =
    let above = back_to h v k table in
    length-set above (holder h k v) (get_or above (holder h k v) 0 - 1) ∙ length_back h v k table

module _ (h v : ℕ) (b : v < 2 ^ h) (table : List ℕ) where
  -- a number that no node of the way above level k has
  back_other : (k n : ℕ) → ((j : ℕ) → j < k → n ≡ holder h j v → ⊥) → get_or (back_to h v k table) n 0 ≡ get_or table n 0
  back_other zero n f = refl
  back_other (suc k) n f =
      let above = back_to h v k table in
      get_or-set_other above (holder h k v) n (get_or above (holder h k v) 0 - 1) 0 (f k (omega arith))
      ∙ back_other k n (λ j l. f j (omega arith))

  -- the next node of the way is still as it was
  pub back_next : (k : ℕ) → k < h → get_or (back_to h v k table) (holder h k v) 0 ≡ get_or table (holder h k v) 0
  back_next k l = back_other k (holder h k v) (λ j m e. absurd (omega (arith, number-level k (key h k v) j (key h j v) (key_lt h k v (le_of_lt l) b) (key_lt h j v (omega arith) b) e)))

  -- the node q of level j, after the whole way
  pub back_node : (j q : ℕ) → j < h → q < 2 ^ j → 2 ^ h ≤ length table
      → get_or (back_to h v h table) (number_of j q) 0 ≡ get_or table (number_of j q) 0 - bit (eqb (key h j v) q)
  back_node j q l m size = go (ℕ_discrete (key h j v) q)
    where
      down : (k : ℕ) → j < k → k ≤ h → get_or (back_to h v k table) (holder h j v) 0 ≡ get_or table (holder h j v) 0 - 1
      down zero a c = absurd (omega arith)
      down (suc k) a c = at (ℕ_discrete j k) (λ n. down k n (omega arith))
        where
          above : List ℕ
          above = back_to h v k table

          at : Dec (j ≡ k) → (j < k → get_or above (holder h j v) 0 ≡ get_or table (holder h j v) 0 - 1)
              → get_or (back_to h v (suc k) table) (holder h j v) 0 ≡ get_or table (holder h j v) 0 - 1
          at (yes e) ih =
              rw e
              (get_or-set_same above (holder h k v) (get_or above (holder h k v) 0 - 1) 0 (omega (arith, holder_lt h v b k (omega arith), length_back h v k table))
              ∙ ap (λ (n : ℕ). n - 1) (back_next k (omega arith)))
          at (no e) ih =
              get_or-set_other above (holder h k v) (holder h j v) (get_or above (holder h k v) 0 - 1) 0
              (λ d. e (number-level j (key h j v) k (key h k v) (key_lt h j v (le_of_lt l) b) (key_lt h k v (omega arith) b) d))
              ∙ ih (omega arith)

      go : Dec (key h j v ≡ q) → get_or (back_to h v h table) (number_of j q) 0 ≡ get_or table (number_of j q) 0 - bit (eqb (key h j v) q)
      go (yes e) = rw (eq-eqb (key h j v) q e, sym e) (down h l (omega arith))
      go (no e) =
          rw (ne_eqb (key h j v) q e)
          (back_other h (number_of j q) (λ k c d. e (meets k c d)) ∙ omega arith)
        where
          meets : (k : ℕ) → k < h → number_of j q ≡ holder h k v → key h j v ≡ q
          meets k c d =
              ap (λ (n : ℕ). key h n v) (number-level j q k (key h k v) m (key_lt h k v (le_of_lt c) b) d)
              ∙ sym (number-place j q k (key h k v) m (key_lt h k v (le_of_lt c) b) d)

-- ---- one entry of the range

-- of the first entries, one more
pub pos-suc : (h : ℕ) (xs : List ℕ) (j q i : ℕ) → i < length xs → pos h xs j q (suc i) ≡ pos h xs j q i + bit (eqb (key h j (get_or xs i 0)) q)
pos-suc h xs j q i l = rw (add-one i) at (placing.pos-suc h j xs q i l)

module _ (h : ℕ) (xs : List ℕ) (w : Within (2 ^ h) xs) (i : ℕ) (l : i < length xs) where
  abbrev x : ℕ
  x = get_or xs i 0

  x_lt : x < 2 ^ h
  x_lt = within_at (2 ^ h) xs i w l

  -- where it stands in the nodes that hold it
  module _ (table : List ℕ) (ready : Ready h xs i table) (j : ℕ) (m : j < h) where
    q_lt : key h j x < 2 ^ j
    q_lt = key_lt h j x (le_of_lt m) x_lt

    pub cursor_is : get_or (back_to h x j table) (holder h j x) 0 ≡ pos h xs j (key h j x) i + 1
    cursor_is =
        omega (
          arith,
          back_next h x x_lt table j m,
          ready j m,
          pos-suc h xs j (key h j x) i l,
          ap bit (eq-eqb (key h j x) (key h j x) refl),
        )

    pub cursor_lt : pos h xs j (key h j x) i < length xs
    cursor_lt = omega (arith, row-pos_lt h j xs (key h j x) i q_lt l refl, row-length h j xs (le_of_lt m) w)

    -- the bit there leads on
    pub cursor_next : 2 * holder h j x + get_or (row h j xs) (pos h xs j (key h j x) i) 0 ≡ holder h (suc j) x
    cursor_next = omega (arith, row-bit h j xs m (key h j x) q_lt i l refl, holder_next h x x_lt j m)

  -- the cursors of the range, one entry back
  module _ (a b : ℕ) (la : a ≤ i) (lb : i < b) (bn : b ≤ length xs) (table : List ℕ) (cs : Cursors h xs a b (suc i) table) where
    pub cursors_ready : Ready h xs i table
    cursors_ready j m = cs i j la lb m

    pub cursors_back : 2 ^ h ≤ length table → Cursors h xs a b i (back_to h x h table)
    cursors_back size e j ea eb m =
        let q = key h j (get_or xs e 0) in
        let ql : q < 2 ^ j = key_lt h j (get_or xs e 0) (le_of_lt m) (within_at (2 ^ h) xs e w (le_trans eb bn)) in
        omega (arith, back_node h x x_lt table j q m ql size, cs e j ea eb m, pos-suc h xs j q i l)

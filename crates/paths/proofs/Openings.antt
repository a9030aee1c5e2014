-- The step from a node to its halves, term by term.
use Prim.Native.Nat.{ℕ, suc, ◌+◌, ◌-◌, ◌*◌, ◌/◌, ◌≤◌, ◌<◌, min}
use native.Mathlib.Numerals.{add-one}
use native.Mathlib.Omega.{arith}
use mathlib.Core.Path.{◌≡◌, sym, ap, ◌∙◌, subst}
use mathlib.Core.Logic.{◌⊎◌, inl, inr}
use mathlib.Core.List.{List}
use lib.ListN.{length, get_or}
use mathlib.Core.Bool.{true, false, ◌&&◌, ◌||◌}
use lib.Dec.{ltb}
use borrow.Author.Tests.{ltb-true, ltb-false}
use Rattle.bits.proofs.Tests.{le_or_lt, and_both, and_cases, or_neither}
use Rattle.wavelet.specs.declared.Span.{Span}
use Rattle.wavelet.specs.declared.Halves.{Halves}
use Rattle.paths.specs.Paths.{frame_of, range_in, put_halves, Whole, Right, Held, HeldWhole}
use Rattle.paths.proofs.Frames.{length-put, put_low, put-high, put-below, put-between, Front, whole-kept, right_kept, held_kept, held_by}

-- one of the first k terms has no entry in a node
pub record Dead (span : ℕ → ℕ → ℕ → Span) (j q k : ℕ) : Type 0 where
  pub which : ℕ
  pub lt : which < k
  pub none : (span j q which).hi ≤ (span j q which).lo

-- the ranges of k terms are in the frames of both halves
pub record Filling (span : ℕ → ℕ → ℕ → Span) (size j q : ℕ) (path : List ℕ) (k : ℕ) : Type 0 where
  pub room : length path ≡ 468
  pub whole : Whole span size path j q
  pub inside : k ≤ size
  pub low_bounds : (i : ℕ) → (get_or path (2 * (18 * (j + 1))) 0 ≡ (span (suc j) (2 * q) i).start) × (get_or path (2 * (18 * (j + 1)) + 1) 0 ≡ (span (suc j) (2 * q) i).end)
  pub high_bounds : (i : ℕ)
      → (get_or path (2 * (18 * (j + 1) + 9)) 0 ≡ (span (suc j) (2 * q + 1) i).start) × (get_or path (2 * (18 * (j + 1) + 9) + 1) 0 ≡ (span (suc j) (2 * q + 1) i).end)
  pub low_filled : (i : ℕ) → i < k → range_in path (18 * (j + 1)) i ≡ span (suc j) (2 * q) i
  pub high_filled : (i : ℕ) → i < k → range_in path (18 * (j + 1) + 9) i ≡ span (suc j) (2 * q + 1) i

-- a half of least count 0 is dead
pub record Opening (span : ℕ → ℕ → ℕ → Span) (size j q : ℕ) (path : List ℕ) (low high k : ℕ) : Type 0 where
  pub filling : Filling span size j q path k
  pub held : Held span size path j q
  pub low_dead : low ≡ 0 → Dead span (suc j) (2 * q) k
  pub high_dead : high ≡ 0 → Dead span (suc j) (2 * q + 1) k

-- the loop goes on while a term is left that may have entries in a half that is not dead
pub goes_more : (k size low high : ℕ) → (ltb k size && (ltb 0 low || ltb 0 high)) ≡ true → k < size
goes_more k size low high e = ltb-true k size (and_both (ltb k size) (ltb 0 low || ltb 0 high) e).0

pub goes_stop : (k size low high : ℕ) → (ltb k size && (ltb 0 low || ltb 0 high)) ≡ false → (size ≤ k) ⊎ ((low ≡ 0) × (high ≡ 0))
goes_stop k size low high e = go (and_cases (ltb k size) (ltb 0 low || ltb 0 high) e)
  where
    go : (ltb k size ≡ false) ⊎ ((ltb 0 low || ltb 0 high) ≡ false) → (size ≤ k) ⊎ ((low ≡ 0) × (high ≡ 0))
    go (inl x) = inl (ltb-false k size x)
    go (inr x) =
        let n = or_neither (ltb 0 low) (ltb 0 high) x in
        let a = ltb-false 0 low n.0 in
        let b = ltb-false 0 high n.1 in
        inr (omega arith, omega arith)

module _ (span : ℕ → ℕ → ℕ → Span) (size j q : ℕ) (few : size ≤ 8) (deep : j < 12) where
  -- the bounds of both halves are written
  module _ (path : List ℕ) (two : Halves) (n : length path ≡ 468) where
    bounds_fit : 2 * (18 * (j + 1) + 9) + 1 < length path
    bounds_fit = omega arith

    pub filling_front : Front j path (put_halves two (18 * (j + 1)) path)
    filling_front = λ i m. put-below two (18 * (j + 1)) path bounds_fit i (omega arith)

    pub filling_start : Whole span size path j q
        → ((i : ℕ) → (two.zero.lo ≡ (span (suc j) (2 * q) i).start) × (two.zero.hi ≡ (span (suc j) (2 * q) i).end))
        → ((i : ℕ) → (two.one.lo ≡ (span (suc j) (2 * q + 1) i).start) × (two.one.hi ≡ (span (suc j) (2 * q + 1) i).end))
        → Filling span size j q (put_halves two (18 * (j + 1)) path) 0
    filling_start w lb hb =
        let low = put_low two (18 * (j + 1)) path bounds_fit in
        let high = put-high two (18 * (j + 1)) path bounds_fit in
        record {
          room = length-put two (18 * (j + 1)) path bounds_fit ∙ n;
          whole = whole-kept span size few path (put_halves two (18 * (j + 1)) path) j q filling_front w;
          inside = omega arith;
          low_bounds = λ i. (low.0 ∙ (lb i).0, low.1 ∙ (lb i).1);
          high_bounds = λ i. (high.0 ∙ (hb i).0, high.1 ∙ (hb i).1);
          low_filled = λ i m. absurd (omega arith);
          high_filled = λ i m. absurd (omega arith);
        }

  module _ {path : List ℕ} {k : ℕ} (o : Filling span size j q path k) where
    -- one term more
    module _ (l : k < size) (two : Halves) (e : two ≡ record { zero = span (suc j) (2 * q) k; one = span (suc j) (2 * q + 1) k }) where
      abbrev after : List ℕ
      after = put_halves two (18 * (j + 1) + 1 + k) path

      fits : 2 * (18 * (j + 1) + 1 + k + 9) + 1 < length path
      fits = omega (arith, o.room)

      -- what stands before the new pairs, and between them
      before : (i : ℕ) → i < 2 * (18 * (j + 1) + 1 + k) → get_or after i 0 ≡ get_or path i 0
      before i m = put-below two (18 * (j + 1) + 1 + k) path fits i m

      between : (i : ℕ) → 2 * (18 * (j + 1) + 1 + k) + 1 < i → i < 2 * (18 * (j + 1) + 1 + k + 9) → get_or after i 0 ≡ get_or path i 0
      between i m n = put-between two (18 * (j + 1) + 1 + k) path fits i m n

      low_next : (i : ℕ) → i < suc k → range_in after (18 * (j + 1)) i ≡ span (suc j) (2 * q) i
      low_next i m = go (le_or_lt k i)
        where
          go : (k ≤ i) ⊎ (i < k) → range_in after (18 * (j + 1)) i ≡ span (suc j) (2 * q) i
          go (inl n) =
              let same : k ≡ i = omega arith in
              let put = put_low two (18 * (j + 1) + 1 + k) path fits in
              subst (λ (x : ℕ). range_in after (18 * (j + 1)) x ≡ span (suc j) (2 * q) x) same
              (λ t. record {
                start = (before (2 * (18 * (j + 1))) (omega arith) ∙ (o.low_bounds k).0) t;
                lo = (put.0 ∙ ap (λ (h : Halves). h.zero.lo) e) t;
                hi = (put.1 ∙ ap (λ (h : Halves). h.zero.hi) e) t;
                end = (before (2 * (18 * (j + 1)) + 1) (omega arith) ∙ (o.low_bounds k).1) t;
              })
          go (inr n) =
              (λ t. record {
                start = before (2 * (18 * (j + 1))) (omega arith) t;
                lo = before (2 * (18 * (j + 1) + 1 + i)) (omega arith) t;
                hi = before (2 * (18 * (j + 1) + 1 + i) + 1) (omega arith) t;
                end = before (2 * (18 * (j + 1)) + 1) (omega arith) t;
              }) ∙ o.low_filled i n

      high_next : (i : ℕ) → i < suc k → range_in after (18 * (j + 1) + 9) i ≡ span (suc j) (2 * q + 1) i
      high_next i m = go (le_or_lt k i)
        where
          go : (k ≤ i) ⊎ (i < k) → range_in after (18 * (j + 1) + 9) i ≡ span (suc j) (2 * q + 1) i
          go (inl n) =
              let same : k ≡ i = omega arith in
              let put = put-high two (18 * (j + 1) + 1 + k) path fits in
              let at : 2 * (18 * (j + 1) + 9 + 1 + k) ≡ 2 * (18 * (j + 1) + 1 + k + 9) = omega arith in
              subst (λ (x : ℕ). range_in after (18 * (j + 1) + 9) x ≡ span (suc j) (2 * q + 1) x) same
              (λ t. record {
                start = (between (2 * (18 * (j + 1) + 9)) (omega arith) (omega arith) ∙ (o.high_bounds k).0) t;
                lo = (ap (λ (x : ℕ). get_or after x 0) at ∙ put.0 ∙ ap (λ (h : Halves). h.one.lo) e) t;
                hi = (ap (λ (x : ℕ). get_or after (x + 1) 0) at ∙ put.1 ∙ ap (λ (h : Halves). h.one.hi) e) t;
                end = (between (2 * (18 * (j + 1) + 9) + 1) (omega arith) (omega arith) ∙ (o.high_bounds k).1) t;
              })
          go (inr n) =
              (λ t. record {
                start = between (2 * (18 * (j + 1) + 9)) (omega arith) (omega arith) t;
                lo = between (2 * (18 * (j + 1) + 9 + 1 + i)) (omega arith) (omega arith) t;
                hi = between (2 * (18 * (j + 1) + 9 + 1 + i) + 1) (omega arith) (omega arith) t;
                end = between (2 * (18 * (j + 1) + 9) + 1) (omega arith) (omega arith) t;
              }) ∙ o.high_filled i n

      pub filling_next_front : Front j path after
      filling_next_front = λ i m. before i (omega arith)

      pub filling_next : Filling span size j q after (k + 1)
      filling_next =
          subst (Filling span size j q after) (sym (add-one k)) (record {
            room = length-put two (18 * (j + 1) + 1 + k) path fits ∙ o.room;
            whole = whole-kept span size few path after j q filling_next_front o.whole;
            inside = l;
            low_bounds = λ i. (before (2 * (18 * (j + 1))) (omega arith) ∙ (o.low_bounds i).0, before (2 * (18 * (j + 1)) + 1) (omega arith) ∙ (o.low_bounds i).1);
            high_bounds =
                λ i. (
                  between (2 * (18 * (j + 1) + 9)) (omega arith) (omega arith) ∙ (o.high_bounds i).0,
                  between (2 * (18 * (j + 1) + 9) + 1) (omega arith) (omega arith) ∙ (o.high_bounds i).1,
                );
            low_filled = low_next;
            high_filled = high_next;
          })

    -- no term is left
    pub filling_end : size ≤ k → HeldWhole span size path j q → HeldWhole span size path (j + 1) (2 * q)
    filling_end l h =
        let half : q ≡ 2 * q / 2 = omega arith in
        let low : 18 * (j + 1) ≡ frame_of (suc j) (2 * q) = omega arith in
        let high : 18 * (j + 1) + 9 ≡ frame_of (suc j) (2 * q + 1) = omega arith in
        rw add-one
        (held_by (Whole span size) path j q (2 * q) half
        (λ i m. ap (λ (x : ℕ). range_in path x i) (sym low) ∙ o.low_filled i (omega arith))
        (λ i m. ap (λ (x : ℕ). range_in path x i) (sym high) ∙ o.high_filled i (omega arith)) h)

  -- ---- where dead halves are left alone

  pub opening-start : (path : List ℕ) (two : Halves) → length path ≡ 468 → Held span size path j q → Whole span size path j q
      → ((i : ℕ) → (two.zero.lo ≡ (span (suc j) (2 * q) i).start) × (two.zero.hi ≡ (span (suc j) (2 * q) i).end))
      → ((i : ℕ) → (two.one.lo ≡ (span (suc j) (2 * q + 1) i).start) × (two.one.hi ≡ (span (suc j) (2 * q + 1) i).end))
      → Opening span size j q (put_halves two (18 * (j + 1)) path) 1 1 0
  opening-start path two n h w lb hb = record {
    filling = filling_start path two n w lb hb;
    held = held_kept (Right span size) path (put_halves two (18 * (j + 1)) path) (right_kept span size few path (put_halves two (18 * (j + 1)) path)) j q (filling_front path two n) h;
    low_dead = λ e. absurd (omega arith);
    high_dead = λ e. absurd (omega arith);
  }

  module _ {path : List ℕ} {low high k : ℕ} (o : Opening span size j q path low high k) where
    module _ (l : k < size) (two : Halves) (e : two ≡ record { zero = span (suc j) (2 * q) k; one = span (suc j) (2 * q + 1) k }) where
      abbrev put : List ℕ
      put = put_halves two (18 * (j + 1) + 1 + k) path

      -- where the least count is 0, it was before or is now
      dead_next : (n c number : ℕ) → (n ≡ 0 → Dead span (suc j) number k) → c ≡ (span (suc j) number k).hi - (span (suc j) number k).lo → min n c ≡ 0 → Dead span (suc j) number (suc k)
      dead_next n c number f e z = go (le_or_lt 1 n)
        where
          go : (1 ≤ n) ⊎ (n < 1) → Dead span (suc j) number (suc k)
          go (inl m) = record { which = k; lt = omega arith; none = omega arith }
          go (inr m) = let d = f (omega arith) in record { which = d.which; lt = let b = d.lt in omega arith; none = d.none }

      pub opening_next : (a b : ℕ) → a ≡ two.zero.hi - two.zero.lo → b ≡ two.one.hi - two.one.lo → Opening span size j q put (min low a) (min high b) (k + 1)
      opening_next a b ea eb =
          let n : suc k ≡ k + 1 = sym (add-one k) in
          record {
            filling = filling_next o.filling l two e;
            held = held_kept (Right span size) path put (right_kept span size few path put) j q (filling_next_front o.filling l two e) o.held;
            low_dead = λ z. subst (Dead span (suc j) (2 * q)) n (dead_next low a (2 * q) o.low_dead (ea ∙ ap (λ (h : Halves). h.zero.hi - h.zero.lo) e) z);
            high_dead = λ z. subst (Dead span (suc j) (2 * q + 1)) n (dead_next high b (2 * q + 1) o.high_dead (eb ∙ ap (λ (h : Halves). h.one.hi - h.one.lo) e) z);
          }

    -- no term is left, or one has no entry in the zero half and one has none in the one half
    module _ (t : (size ≤ k) ⊎ ((low ≡ 0) × (high ≡ 0))) where
      half_right : (frame number n : ℕ) → frame ≡ frame_of (suc j) number → (n ≡ 0 → Dead span (suc j) number k) → ((size ≤ k) ⊎ (n ≡ 0))
          → ((i : ℕ) → i < k → range_in path frame i ≡ span (suc j) number i) → Right span size path (suc j) number
      half_right frame number n f dead t filled = λ i m alive. go i m alive (le_or_lt k i) t
        where
          go : (i : ℕ) → i < size → ((x : ℕ) → x < i → (span (suc j) number x).lo < (span (suc j) number x).hi) → (k ≤ i) ⊎ (i < k) → (size ≤ k) ⊎ (n ≡ 0)
              → range_in path (frame_of (suc j) number) i ≡ span (suc j) number i
          go i m alive (inr a) t = ap (λ (x : ℕ). range_in path x i) (sym f) ∙ filled i a
          go i m alive (inl a) (inl b) = absurd (omega arith)
          go i m alive (inl a) (inr b) = let d = dead b in absurd (omega (arith, alive d.which (let x = d.lt in omega arith), d.none))

      pub opening-end : Held span size path (j + 1) (2 * q)
      opening-end =
          let half : q ≡ 2 * q / 2 = omega arith in
          rw add-one
          (held_by (Right span size) path j q (2 * q) half
          (half_right (18 * (j + 1)) (2 * q) low (omega arith) o.low_dead (elim t [ inl a ↦ inl a | inr a ↦ inr a.0 ]) o.filling.low_filled)
          (half_right (18 * (j + 1) + 9) (2 * q + 1) high (omega arith) o.high_dead (elim t [ inl a ↦ inl a | inr a ↦ inr a.1 ]) o.filling.high_filled)
          o.held)

-- From a place in a half to its place in the node, counted from the range's first place in each: bounds, and halves that have all of the range's entries.
use Prim.Native.Nat.{ℕ, suc, ◌+◌, ◌-◌, ◌≤◌, ◌<◌}
use native.Mathlib.Nat.{le_trans}
use native.Mathlib.Omega.{arith}
use mathlib.Core.Path.{◌≡◌, sym, ap, ◌∙◌, subst}
use mathlib.Core.List.{List}
use mathlib.Core.Bool.{Bool, true, false, cond}
use lib.Dec.{eqb}
use Rattle.bits.specs.Sequences.{rank, select}
use Rattle.bits.proofs.Sequences.{select_ge, select_lt}
use Rattle.model.specs.Walk.{zeros_in}
use Rattle.model.proofs.Wavelet.Counts.{ones_mono, ones_step, zeros-front}
use Rattle.wavelet.specs.declared.Span.{Span}
use Rattle.wavelet.specs.declared.Ranked.{Ranked}
use Rattle.wavelet.specs.Spans.{span, Ordered, halves_of, half_of, ranked_of, span_in}
use Rattle.wavelet.proofs.Steps.{Level, rank_le, zero-count, one-count}
use Rattle.wavelet_select.specs.Places.{up_from_half}

-- ---- numbers

-- where all places from lo to hi count, as many count up to x as there are
all-between : (lo x hi l m h : ℕ) → lo ≤ x → x ≤ hi → l ≤ m → m ≤ h → m - l ≤ x - lo → h - m ≤ hi - x → h - l ≡ hi - lo → m ≡ l + (x - lo)
all-between lo x hi l m h a b c d e f g = omega arith

-- where none does, none up to x
none_between : (lo x hi l m h : ℕ) → lo ≤ hi → l ≤ m → m ≤ h → (hi - lo) - (h - l) ≡ hi - lo → h - l ≤ hi - lo → m ≡ l
none_between lo x hi l m h a c d e f = omega arith

pub le_antisym : {x y : ℕ} → x ≤ y → y ≤ x → x ≡ y
le_antisym a b = omega arith

pub sums : (m a b : ℕ) → a ≤ b → a + ((m + (b - a)) - m) ≡ b
sums m a b l = omega arith

pub same_place : {p q lo s : ℕ} → p ≡ q → lo ≤ p → s ≤ lo → lo + (p - lo) ≡ s + (q - s)
same_place e a b = omega arith

at_once : (p lo k : ℕ) → lo + k ≤ p → p < suc (lo + k) → k ≡ p - lo
at_once p lo k a b = omega arith

-- ---- one row: a level of n bits, and a node with a range in it

module _ (bits : List ℕ) (n : ℕ) (v : Level n bits) (s : Span) (o : Ordered n s) where
  abbrev l : ℕ
  l = rank 1 bits s.lo

  abbrev h : ℕ
  h = rank 1 bits s.hi

  zeros : (p : ℕ) → p ≤ n → rank 0 bits p + rank 1 bits p ≡ p
  zeros p m = zeros-front bits p v.two (rw v.size m)

  hi_n : s.hi ≤ n
  hi_n = le_trans o.to o.inside

  lo_n : s.lo ≤ n
  lo_n = le_trans o.range hi_n

  -- a half has no more of the range's entries than the node
  pub half_le : (bit : ℕ) → (half_of (halves_of bits s) bit).hi - (half_of (halves_of bits s) bit).lo ≤ s.hi - s.lo
  half_le bit = go (eqb bit 1)
    where
      go : (b : Bool) → (cond b (halves_of bits s).one (halves_of bits s).zero).hi - (cond b (halves_of bits s).one (halves_of bits s).zero).lo ≤ s.hi - s.lo
      go true = subst (λ (x : ℕ). x ≤ s.hi - s.lo) (sym (one-count bits n v s o)) (ones_step bits s.lo s.hi o.range)
      go false = subst (λ (x : ℕ). x ≤ s.hi - s.lo) (sym (zero-count bits n v s o)) (omega arith)

  -- what is k behind the first place of the range in a half stands behind that of the node ..
  pub up_after : (bit k : ℕ) → s.lo ≤ cond (eqb bit 1) (select 1 bits (l + k + 1)) (select 0 bits ((s.lo - l) + k + 1))
  up_after bit k = go (eqb bit 1)
    where
      go : (b : Bool) → s.lo ≤ cond b (select 1 bits (l + k + 1)) (select 0 bits ((s.lo - l) + k + 1))
      go true = select_ge 1 bits s.lo (l + k + 1) (rw v.size lo_n) (omega arith)
      go false = select_ge 0 bits s.lo ((s.lo - l) + k + 1) (rw v.size lo_n) (omega (arith, zeros s.lo lo_n))

  -- .. and inside its range
  pub up_inside : (bit k : ℕ) → k < (half_of (halves_of bits s) bit).hi - (half_of (halves_of bits s) bit).lo → up_from_half bits s.lo bit k < s.hi - s.lo
  up_inside bit k m = go (eqb bit 1) m
    where
      go : (b : Bool) → k < (cond b (halves_of bits s).one (halves_of bits s).zero).hi - (cond b (halves_of bits s).one (halves_of bits s).zero).lo
          → cond b (select 1 bits (l + k + 1) - s.lo) (select 0 bits ((s.lo - l) + k + 1) - s.lo) < s.hi - s.lo
      go true m =
          let many : k < h - l = subst (λ (x : ℕ). k < x) (one-count bits n v s o) m in
          omega (arith, select_lt 1 bits s.hi (l + k + 1) (omega arith) (omega arith), select_ge 1 bits s.lo (l + k + 1) (rw v.size lo_n) (omega arith))
      go false m =
          let many : k < zeros_in bits s.lo s.hi = subst (λ (x : ℕ). k < x) (zero-count bits n v s o) m in
          let up = select_lt 0 bits s.hi ((s.lo - l) + k + 1) (omega arith) (omega (arith, zeros s.hi hi_n, ones_mono bits s.lo s.hi o.range, rank_le bits s.lo)) in
          omega (arith, up, select_ge 0 bits s.lo ((s.lo - l) + k + 1) (rw v.size lo_n) (omega (arith, zeros s.lo lo_n)))

  -- the ones before a place of the range, where it has no others, and where it has none
  ones-at : h - l ≡ s.hi - s.lo → (x : ℕ) → s.lo ≤ x → x ≤ s.hi → rank 1 bits x ≡ l + (x - s.lo)
  ones-at e x a b =
      all-between s.lo x s.hi l (rank 1 bits x) h a b (ones_mono bits s.lo x a) (ones_mono bits x s.hi b) (ones_step bits s.lo x a)
      (ones_step bits x s.hi b) e

  zeros-at : zeros_in bits s.lo s.hi ≡ s.hi - s.lo → (x : ℕ) → s.lo ≤ x → x ≤ s.hi → rank 1 bits x ≡ l
  zeros-at e x a b =
      none_between s.lo x s.hi l (rank 1 bits x) h o.range (ones_mono bits s.lo x a) (ones_mono bits x s.hi b) e
      (ones_step bits s.lo s.hi o.range)

  -- where the other half has none of the range's entries, it stands as far behind
  pub up_alone : (bit k : ℕ) → k < s.hi - s.lo → (half_of (halves_of bits s) bit).hi - (half_of (halves_of bits s) bit).lo ≡ s.hi - s.lo
      → k ≡ up_from_half bits s.lo bit k
  up_alone bit k m e = go (eqb bit 1) e
    where
      go : (b : Bool) → (cond b (halves_of bits s).one (halves_of bits s).zero).hi - (cond b (halves_of bits s).one (halves_of bits s).zero).lo ≡ s.hi - s.lo
          → k ≡ cond b (select 1 bits (l + k + 1) - s.lo) (select 0 bits ((s.lo - l) + k + 1) - s.lo)
      go true e =
          let at = ones-at (sym (one-count bits n v s o) ∙ e) in
          let here = at (s.lo + k) (omega arith) (omega arith) in
          let next = at (suc (s.lo + k)) (omega arith) (omega arith) in
          at_once (select 1 bits (l + k + 1)) s.lo k
          (select_ge 1 bits (s.lo + k) (l + k + 1) (rw v.size (omega (arith, hi_n))) (omega (arith, here)))
          (select_lt 1 bits (suc (s.lo + k)) (l + k + 1) (omega arith) (omega (arith, next)))
      go false e =
          let at = zeros-at (sym (zero-count bits n v s o) ∙ e) in
          let here = at (s.lo + k) (omega arith) (omega arith) in
          let next = at (suc (s.lo + k)) (omega arith) (omega arith) in
          let least = rank_le bits s.lo in
          at_once (select 0 bits ((s.lo - l) + k + 1)) s.lo k
          (select_ge 0 bits (s.lo + k) ((s.lo - l) + k + 1) (rw v.size (omega (arith, hi_n))) (omega (arith, here, zeros (s.lo + k) (omega (arith, hi_n)))))
          (select_lt 0 bits (suc (s.lo + k)) ((s.lo - l) + k + 1) (omega arith) (omega (arith, next, zeros (suc (s.lo + k)) (omega (arith, hi_n)))))

-- ---- a node that was ranked

module _ (bits : List ℕ) (a b lo hi : ℕ) (node : Ranked) (r : node ≡ ranked_of bits a b) where
  pub ranked_self : node ≡ ranked_of bits node.start node.end
  ranked_self = r ∙ (λ i. ranked_of bits (sym (ap (λ (x : Ranked). x.start) r) i) (sym (ap (λ (x : Ranked). x.end) r) i))

  pub ranked_span : span_in node lo hi ≡ span a lo hi b
  ranked_span = ap (λ (x : Ranked). span_in x lo hi) r

-- A range of one entry: its word at each step down by the entry's bits.
use Prim.Native.Nat.{ℕ, zero, suc, ◌+◌, ◌-◌, ◌*◌, ◌^◌, ◌≤◌, ◌<◌}
use native.Mathlib.Nat.{mul-zero, mul-one, zero-mul, one-mul, mul_assoc, pow-suc, le_refl}
use native.Mathlib.Numerals.{add-one}
use native.Mathlib.Omega.{arith}
use mathlib.Core.Path.{◌≡◌, refl, sym, ap, ap₂, ◌∙◌, subst}
use mathlib.Core.List.{List}
use lib.ListN.{length, get_or}
use lib.Dec.{eqb}
use lib.Pow.{pow-add, pow_mono}
use Rattle.bits.specs.Sequences.{bit, rank}
use Rattle.bits.proofs.Tally.{tally-take-suc}
use Rattle.wavelet.specs.declared.Levels.{Levels}
use Rattle.wavelet.specs.declared.Span.{Span}
use Rattle.wavelet.specs.declared.Place.{Place}
use Rattle.wavelet.specs.Levels.{level_of}
use Rattle.wavelet.specs.Spans.{Ordered, span, span_at, halves_of, half_of}
use Rattle.wavelet.proofs.Steps.{Level, level-of, zero-count, one-count, ordered-zero, ordered-one}
use Rattle.bitmaps.specs.Words.{span_word}
use Rattle.bitmaps.proofs.Words.{word_empty, word_leaf}

-- the entry at a place, as a range
abbrev pub entry_at : Place → Span
entry_at p = span p.start p.at (p.at + 1) p.end

-- ---- one step

module _ (rows : ℕ → List ℕ) (n k i : ℕ) (v : Level n (rows i)) (p r : Place) (o : Ordered n (entry_at p)) where
  abbrev bits : List ℕ
  bits = rows i

  abbrev s : Span
  s = entry_at p

  inside : p.at < length bits
  inside = rw v.size (omega (arith, o.to, o.inside))

  -- its ones are its bit
  ones_bit : (b : ℕ) → b ≡ get_or bits p.at 0 → rank 1 bits (p.at + 1) ≡ rank 1 bits p.at + bit (eqb 1 b)
  ones_bit b e = ap (rank 1 bits) (add-one p.at) ∙ tally-take-suc (eqb 1) bits p.at 0 inside ∙ ap (λ d. rank 1 bits p.at + bit (eqb 1 d)) (sym e)

  -- what is known after the step by a bit
  abbrev After : ℕ → Type 0
  After b = Ordered n (entry_at r) × (span_word rows (suc k) i s ≡ 2 ^ (b * 2 ^ k) * span_word rows k (suc i) (entry_at r))

  step-zero : 0 ≡ get_or bits p.at 0 → span_at r ≡ (halves_of bits (span_at p)).zero → After 0
  step-zero e f =
      let counted = ones_bit 0 e in
      let z = ordered-zero bits n v s o in
      let u = ordered-one bits n v s o in
      let zeros : (halves_of bits s).zero.hi ≡ r.at + 1 = omega (arith, zero-count bits n v s o, z.range, ap (λ x. x.lo) f) in
      let ones : (halves_of bits s).one.lo ≡ (halves_of bits s).one.hi = omega (arith, one-count bits n v s o, u.range) in
      let half : (halves_of bits s).zero ≡ entry_at r = λ x. span (sym f x).start (sym f x).lo (zeros x) (sym f x).end in (
        subst (Ordered n) half z,
        ap₂ (λ a b. a + 2 ^ (2 ^ k) * b) (ap (span_word rows k (suc i)) half) (word_empty rows k (suc i) (halves_of bits s).one ones)
            ∙ omega (arith, mul-zero (2 ^ (2 ^ k)), one-mul (span_word rows k (suc i) (entry_at r))) ∙ ap (λ x. 2 ^ x * span_word rows k (suc i) (entry_at r)) (sym (zero-mul (2 ^ k))),
      )

  step-one : 1 ≡ get_or bits p.at 0 → span_at r ≡ (halves_of bits (span_at p)).one → After 1
  step-one e f =
      let counted = ones_bit 1 e in
      let z = ordered-zero bits n v s o in
      let u = ordered-one bits n v s o in
      let ones : (halves_of bits s).one.hi ≡ r.at + 1 = omega (arith, one-count bits n v s o, u.range, ap (λ x. x.lo) f) in
      let zeros : (halves_of bits s).zero.lo ≡ (halves_of bits s).zero.hi = omega (arith, zero-count bits n v s o, z.range) in
      let half : (halves_of bits s).one ≡ entry_at r = λ x. span (sym f x).start (sym f x).lo (ones x) (sym f x).end in (
        subst (Ordered n) half u,
        ap₂ (λ a b. a + 2 ^ (2 ^ k) * b) (word_empty rows k (suc i) (halves_of bits s).zero zeros) (ap (span_word rows k (suc i)) half)
            ∙ omega arith ∙ ap (λ x. 2 ^ x * span_word rows k (suc i) (entry_at r)) (sym (one-mul (2 ^ k))),
      )

  pub step-bit : (b : ℕ) → b < 2 → b ≡ get_or bits p.at 0 → span_at r ≡ half_of (halves_of bits (span_at p)) b → After b
  step-bit zero l e f = step-zero e f
  step-bit (suc zero) l e f = step-one e f
  step-bit (suc (suc b)) l e f = absurd (omega arith)

-- where the step leads
abbrev place_in : List ℕ → Place → ℕ → Place
place_in bits p b =
    let half = half_of (halves_of bits (span_at p)) b in
    record { start = half.start; at = half.lo; end = half.end }

place_in_lem : (bits : List ℕ) (p : Place) (b : ℕ) → b < 2 → span_at (place_in bits p b) ≡ half_of (halves_of bits (span_at p)) b
place_in_lem bits p zero l = refl
place_in_lem bits p (suc zero) l = refl
place_in_lem bits p (suc (suc b)) l = absurd (omega arith)

-- ---- the way down, from the entry at place p of a node of level j

pub record Followed (bytes : List ℕ) (t : Levels) (j start p end : ℕ) (place : Place) (document i : ℕ) : Type 0 where
  pub from : j ≤ i
  pub deep : i ≤ t.height
  pub ordered : Ordered t.entries (entry_at place)
  pub few : document < 2 ^ (i - j)
  pub word : span_word (level_of bytes t) (t.height - j) j (span start p (p + 1) end)
      ≡ 2 ^ (document * 2 ^ (t.height - i)) * span_word (level_of bytes t) (t.height - i) i (entry_at place)

module _ (bytes : List ℕ) (t : Levels) (j start p end : ℕ) where
  pub followed_none : j ≤ t.height → Ordered t.entries (span start p (p + 1) end) → Followed bytes t j start p end (record { start = start; at = p; end = end }) 0 j
  followed_none l o = record {
    from = le_refl j;
    deep = l;
    ordered = o;
    few = let same : j - j ≡ 0 = omega arith in rw same (omega arith);
    word =
        let w = span_word (level_of bytes t) (t.height - j) j (span start p (p + 1) end) in
        sym (ap (λ n. 2 ^ n * w) (zero-mul (2 ^ (t.height - j))) ∙ one-mul w);
  }

  module _ {place : Place} {document i : ℕ} (f : Followed bytes t j start p end place document i) where
    -- no more than there are documents
    pub followed_few : t.height ≤ 12 → document < 4096
    followed_few low =
        let most : 2 ^ (i - j) ≤ 2 ^ 12 = pow_mono {i = i - j} {j = 12} (omega (arith, f.from, f.deep)) in
        omega (arith, f.few)

    pub followed_next : i < t.height → (r : Place) (b : ℕ) → b < 2 → b ≡ get_or (level_of bytes t i) place.at 0
        → span_at r ≡ half_of (halves_of (level_of bytes t i) (span_at place)) b → Followed bytes t j start p end r (2 * document + b) (i + 1)
    followed_next l r b lb e g =
        let k = t.height - (i + 1) in
        let after = step-bit (level_of bytes t) t.entries k i (level-of bytes t i l) place r f.ordered b lb e g in
        let down : t.height - i ≡ suc k = omega arith in
        let w = span_word (level_of bytes t) k (suc i) (entry_at r) in
        let power : document * 2 ^ suc k + b * 2 ^ k ≡ (2 * document + b) * 2 ^ k = simp (pow-suc 2) (omega arith) in
        record {
          from = omega (arith, f.from);
          deep = omega arith;
          ordered = after.0;
          few =
              let more : i + 1 - j ≡ suc (i - j) = omega (arith, f.from) in
              rw more (omega (arith, f.few, pow-suc 2 (i - j)));
          word =
              f.word ∙ ap (λ m. 2 ^ (document * 2 ^ m) * span_word (level_of bytes t) m i (entry_at place)) down
              ∙ ap (λ x. 2 ^ (document * 2 ^ suc k) * x) after.1 ∙ sym (mul_assoc (2 ^ (document * 2 ^ suc k)) (2 ^ (b * 2 ^ k)) w)
              ∙ ap (λ x. x * w) (sym (pow-add 2 (document * 2 ^ suc k) (b * 2 ^ k)) ∙ ap (λ n. 2 ^ n) power)
              ∙ ap (λ m. 2 ^ ((2 * document + b) * 2 ^ k) * span_word (level_of bytes t) k m (entry_at r)) (sym (add-one i));
        }

    -- at the leaf
    followed_leaf : i ≡ t.height → (document < 2 ^ (t.height - j)) × (span_word (level_of bytes t) (t.height - j) j (span start p (p + 1) end) ≡ 2 ^ document)
    followed_leaf e =
        let z : t.height - i ≡ 0 = omega arith in (
          subst (λ n. document < 2 ^ (n - j)) e f.few,
          f.word ∙ ap₂ (λ m x. 2 ^ (document * 2 ^ m) * x) z (word_leaf (level_of bytes t) (t.height - i) i (entry_at place) z (omega arith))
              ∙ mul-one (2 ^ (document * 1)) ∙ ap (λ n. 2 ^ n) (mul-one document),
        )

  -- in the last row, by the entry's bit
  pub followed_last : {place : Place} {document i : ℕ} → Followed bytes t j start p end place document i → i < t.height → t.height ≤ i + 1
      → (b : ℕ) → b < 2 → b ≡ get_or (level_of bytes t i) place.at 0
      → (2 * document + b < 2 ^ (t.height - j)) × (span_word (level_of bytes t) (t.height - j) j (span start p (p + 1) end) ≡ 2 ^ (2 * document + b))
  followed_last {place} {document} {i} f l m b lb e =
      followed_leaf (followed_next f l (place_in (level_of bytes t i) place b) b lb e (place_in_lem (level_of bytes t i) place b lb)) (omega arith)

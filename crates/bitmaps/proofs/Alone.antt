-- A range of one entry over several blocks of 64 documents: the block of its document has one bit, and the others are empty.
use Prim.Native.Nat.{ℕ, zero, suc, ◌+◌, ◌-◌, ◌*◌, ◌/◌, ◌%◌, ◌^◌, ◌≤◌, ◌<◌}
use native.Mathlib.Nat.{pow-suc, mul_comm, mul-suc}
use native.Mathlib.Numerals.{add-one}
use native.Mathlib.Omega.{arith}
use native.Mathlib.Decide.{dec_le}
use mathlib.Core.Path.{◌≡◌, refl, sym, ap, ◌∙◌}
use mathlib.Core.List.{List, [], ◌∷◌, ◌++◌, append_assoc}
use lib.ListN.{length, set, length-replicate, replicate, replicate-append-replicate}
use lib.Pow.{pow-add, pow_pos, pow-lt}
use lib.Seq.{sets}
use Rattle.model.proofs.Stores.{sets_append}
use Rattle.wavelet.specs.declared.Span.{Span}
use Rattle.wavelet.specs.Spans.{halves_of}
use Rattle.bitmaps.specs.Words.{span_word, words_from}
use Rattle.bits.proofs.Bits.{shl_one_word}
use Rattle.bitmaps.proofs.Words.{word_fits}
use Rattle.bitmaps.proofs.Masks.{twice}

-- ---- two digits of base m

none_high : (m a b x : ℕ) → a + m * b ≡ x → x < m → b ≡ 0
none_high m a zero x e l = refl
none_high m a (suc b) x e l = absurd (omega (arith, mul-suc m b))

none_low : (m a b y : ℕ) → a < m → a + m * b ≡ m * y → (a ≡ 0) × (b ≡ y)
none_low m a zero zero l e = (omega arith, refl)
none_low m a zero (suc y) l e = absurd (omega (arith, mul-suc m y))
none_low m a (suc b) zero l e = absurd (omega (arith, mul-suc m b))
none_low m a (suc b) (suc y) l e =
    let rest = none_low m a b y l (omega (arith, mul-suc m b, mul-suc m y)) in
    (rest.0, ap suc rest.1)

-- ---- words, of which one at most has a bit

abbrev zeros : ℕ → List ℕ
zeros n = replicate n 0

zeros-append : (a b n : ℕ) → a + b ≡ n → zeros a ++ zeros b ≡ zeros n
zeros-append a b n e = replicate-append-replicate {A = ℕ} a b 0 ∙ ap zeros e

-- 64 documents a block
blocks-of : (m n : ℕ) → n ≡ m + 6 → 2 ^ n ≡ 64 * 2 ^ m
blocks-of m n e = ap (λ n. 2 ^ n) e ∙ pow-add 2 m 6 ∙ mul_comm (2 ^ m) 64

module _ (rows : ℕ → List ℕ) where
  words_none : (m n j : ℕ) (s : Span) → n ≡ m + 6 → span_word rows n j s ≡ 0 → words_from rows 6 m j s ≡ zeros (2 ^ m)
  words_none zero n j s h e =
      let six : 6 ≡ n = omega arith in
      ap (λ w. w ∷ []) (ap (λ n. span_word rows n j s) six ∙ e)
  words_none (suc m) zero j s h e = absurd (omega arith)
  words_none (suc m) (suc n) j s h e =
      let two = halves_of (rows j) s in
      let a : ℕ = span_word rows n (suc j) two.zero in
      let b : ℕ = span_word rows n (suc j) two.one in
      let high : b ≡ 0 = none_high (2 ^ (2 ^ n)) a b 0 e (pow_pos (2 ^ n)) in
      (λ i. words_none m n (suc j) two.zero (omega arith) (omega arith) i ++ words_none m n (suc j) two.one (omega arith) high i)
      ∙ zeros-append (2 ^ m) (2 ^ m) (2 ^ suc m) (twice m)

  -- the law of words_alone, for one node
  abbrev Alone : ℕ → ℕ → ℕ → Span → Type 0
  Alone m n j s = (d q r : ℕ) → d < 2 ^ n → span_word rows n j s ≡ 2 ^ d → d / 64 ≡ q → q + 1 + r ≡ 2 ^ m → words_from rows 6 m j s ≡ zeros q ++ 2 ^ (d % 64) ∷ zeros r

  -- for a node, from its halves
  module _ (m n j : ℕ) (s : Span) (h : n ≡ m + 6) (zero_half_size : Alone m n (suc j) (halves_of (rows j) s).zero) (one_half_size : Alone m n (suc j) (halves_of (rows j) s).one) where
    abbrev a : ℕ
    a = span_word rows n (suc j) (halves_of (rows j) s).zero

    abbrev b : ℕ
    b = span_word rows n (suc j) (halves_of (rows j) s).one

    lower : (d q r : ℕ) → d < 2 ^ n → a + 2 ^ (2 ^ n) * b ≡ 2 ^ d → d / 64 ≡ q → q + 1 + r ≡ 2 ^ suc m
        → words_from rows 6 (suc m) j s ≡ zeros q ++ 2 ^ (d % 64) ∷ zeros r
    lower d q r l e f g =
        let high : b ≡ 0 = none_high (2 ^ (2 ^ n)) a b (2 ^ d) e (pow-lt l) in
        let low : a ≡ 2 ^ d = omega (arith, e, ap (λ x. 2 ^ (2 ^ n) * x) high) in
        let some : q < 2 ^ m = omega (arith, blocks-of m n h) in
        let rest : ℕ = 2 ^ m - q - 1 in
        (λ i. zero_half_size d q rest l low f (omega arith) i ++ words_none m n (suc j) (halves_of (rows j) s).one h high i)
        ∙ append_assoc (zeros q) (2 ^ (d % 64) ∷ zeros rest) (zeros (2 ^ m))
        ∙ ap (λ z. zeros q ++ 2 ^ (d % 64) ∷ z) (zeros-append rest (2 ^ m) r (omega (arith, twice m)))

    upper : (c d q r : ℕ) → d ≡ 2 ^ n + c → c < 2 ^ n → a + 2 ^ (2 ^ n) * b ≡ 2 ^ d → d / 64 ≡ q → q + 1 + r ≡ 2 ^ suc m
        → words_from rows 6 (suc m) j s ≡ zeros q ++ 2 ^ (d % 64) ∷ zeros r
    upper c d q r k l e f g =
        let digits = none_low (2 ^ (2 ^ n)) a b (2 ^ c) (word_fits rows n (suc j) (halves_of (rows j) s).zero) (e ∙ ap (λ d. 2 ^ d) k ∙ pow-add 2 (2 ^ n) c) in
        let first : ℕ = c / 64 in
        let place : 2 ^ m + first ≡ q = omega (arith, blocks-of m n h) in
        let bit : c % 64 ≡ d % 64 = omega (arith, blocks-of m n h) in
        (λ i. words_none m n (suc j) (halves_of (rows j) s).zero h digits.0 i ++ one_half_size c first r l digits.1 refl (omega (arith, twice m)) i)
        ∙ sym (append_assoc (zeros (2 ^ m)) (zeros first) (2 ^ (c % 64) ∷ zeros r))
        ∙ (λ i. zeros-append (2 ^ m) first q place i ++ 2 ^ bit i ∷ zeros r)

    alone_halves : Alone (suc m) (suc n) j s
    alone_halves d q r l e f g = by (dec_le (2 ^ n) d)
      where
        by : Dec (2 ^ n ≤ d) → words_from rows 6 (suc m) j s ≡ zeros q ++ 2 ^ (d % 64) ∷ zeros r
        by (yes k) = upper (d - 2 ^ n) d q r (omega arith) (omega (arith, pow-suc 2 n)) e f g
        by (no k) = lower d q r (omega arith) e f g

  words_alone : (m n j : ℕ) (s : Span) → n ≡ m + 6 → Alone m n j s
  words_alone zero n j s h d q r l e f g =
      let six : 6 ≡ n = omega arith in
      let small : d < 64 = omega (arith, blocks-of 0 n h) in
      let place : 0 ≡ q = omega arith in
      let rest : 0 ≡ r = omega arith in
      let bit : d ≡ d % 64 = omega arith in
      ap (λ w. w ∷ []) (ap (λ n. span_word rows n j s) six ∙ e ∙ ap (λ d. 2 ^ d) bit) ∙ (λ i. zeros (place i) ++ 2 ^ (d % 64) ∷ zeros (rest i))
  words_alone (suc m) zero j s h d q r l e f g = absurd (omega arith)
  words_alone (suc m) (suc n) j s h d q r l e f g =
      let below : n ≡ m + 6 = omega arith in
      alone_halves m n j s below (words_alone m n (suc j) (halves_of (rows j) s).zero below) (words_alone m n (suc j) (halves_of (rows j) s).one below) d q r l e f g

-- ---- stored, in a tree of height h

module _ (h j blocks d : ℕ) (l : j + 6 ≤ h) (size : blocks ≡ 2 ^ (h - 6 - j)) (f : d < 2 ^ (h - j)) where
  deep : h - j ≡ h - 6 - j + 6
  deep = omega arith

  -- the document's block
  pub block_inside : d / 64 < blocks
  block_inside = omega (arith, f, size, blocks-of (h - 6 - j) (h - j) deep)

  -- zeros, the word, zeros
  pub stored_alone : (rows : ℕ → List ℕ) (s : Span) → span_word rows (h - j) j s ≡ 2 ^ d → (place : ℕ) (old first new : List ℕ)
      → first ≡ sets old place (replicate (d / 64) 0)
      → new ≡ sets (set first (place + d / 64) (1 * 2 ^ (d % 64) % 2 ^ 64)) (place + d / 64 + 1) (replicate (blocks - d / 64 - 1) 0)
      → new ≡ sets old place (words_from rows 6 (h - 6 - j) j s)
  stored_alone rows s e place old first new p q =
      let b : ℕ = d / 64 in
      let rest : ℕ = blocks - b - 1 in
      let at : place + b ≡ place + length (zeros b) = ap (λ n. place + n) (sym (length-replicate {A = ℕ} b 0)) in
      let all : b + 1 + rest ≡ 2 ^ (h - 6 - j) = omega (arith, block_inside, size) in
      q ∙ (λ i. sets (set (p i) (place + b) (shl_one_word (d % 64) (omega arith) i)) (add-one (place + b) i) (zeros rest))
      ∙ ap (λ n. sets (sets old place (zeros b)) n (2 ^ (d % 64) ∷ zeros rest)) at
      ∙ sym (sets_append old place (zeros b) (2 ^ (d % 64) ∷ zeros rest))
      ∙ ap (sets old place) (sym (words_alone rows (h - 6 - j) (h - j) j s deep d b rest f e refl all))

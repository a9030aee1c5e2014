-- Descents by the bits of a value: what holds of the node that is reached at each depth.
use Prim.Native.Nat.{ℕ, suc, ◌+◌, ◌-◌, ◌*◌, ◌/◌, ◌%◌, ◌^◌, ◌≤◌, ◌<◌}
use native.Mathlib.Nat.{le_of_lt, le_refl, div-le_self, le_trans, mod-lt, zero-lt-suc, one-mul, mul-le-mul_right, div-eq_of_lt, div-lt_iff_lt-mul}
use native.Mathlib.Numerals.{add-one}
use native.Mathlib.Omega.{arith}
use native.Mathlib.Decide.{ℕ_discrete, dec_le}
use mathlib.Core.Path.{◌≡◌, refl, sym, ap, ◌∙◌, subst}
use mathlib.Core.List.{List}
use mathlib.Core.Bool.{Bool, cond}
use lib.ListN.{length, get_or, take}
use lib.Pow.{pow_pos, pow_mono}
use lib.Dec.{ltb, eqb}
use borrow.Author.Tests.{eq-eqb, ne_eqb, lt-ltb}
use Rattle.bits.specs.Sequences.{tally, rank}
use Rattle.bits.proofs.Tally.{tally_le_length}
use Rattle.model.specs.Lists.{part, Within}
use Rattle.model.specs.Rows.{row}
use Rattle.model.specs.Walk.{key}
use Rattle.model.proofs.Lists.{within_at, length_part, tally_within, within_part}
use Rattle.model.proofs.Wavelet.Rows.{row-length, row-pos_lt, row-bit, key_half, key_lt, key-root, key_leaf, tally-before-root, row-ones, count-halves, count-start, count_middle}
use Rattle.model.proofs.Wavelet.Rank.{tally_leaf}
use Rattle.wavelet.specs.declared.Span.{Span}
use Rattle.wavelet.specs.declared.Halves.{Halves}
use Rattle.wavelet.specs.Spans.{Ordered, halves_of, half_of, span_of, span_at}
use Rattle.wavelet.specs.declared.Levels.{Levels}
use Rattle.wavelet.specs.declared.Place.{Place}
use Rattle.wavelet.specs.Levels.{entries_in, level_of}
use Rattle.wavelet.specs.Descents.{Toward, Leads, CountsUnder}
use Rattle.wavelet.proofs.Stored.{length-entries_in, within_entries_in}
use Rattle.wavelet.proofs.Spans.{span-root, span-halves, span-count, span-ordered}

-- a number by its half and its last bit
by_bit : {A : Type 0} (f : ℕ → A) (w : ℕ) → cond (eqb (w % 2) 1) (f (2 * (w / 2) + 1)) (f (2 * (w / 2))) ≡ f w
by_bit f w = go (ℕ_discrete (w % 2) 1)
  where
    go : Dec (w % 2 ≡ 1) → cond (eqb (w % 2) 1) (f (2 * (w / 2) + 1)) (f (2 * (w / 2))) ≡ f w
    go (yes o) = rw (eq-eqb (w % 2) 1 o) (ap f (omega arith))
    go (no o) = rw (ne_eqb (w % 2) 1 o) (ap f (omega arith))

-- ---- numbers of h bits

pub bits_lt : (h v : ℕ) → v / 2 ^ h ≡ 0 → v < 2 ^ h
bits_lt h v e =
    let l : v / 2 ^ h < 1 = omega arith in
    rw one-mul at ((div-lt_iff_lt-mul (pow_pos h)).0 l)

pub bits_le : (h v : ℕ) → (v / 2 ^ h ≡ 0 → ⊥) → 2 ^ h ≤ v
bits_le h v n = go (dec_le (2 ^ h) v)
  where
    go : Dec (2 ^ h ≤ v) → 2 ^ h ≤ v
    go (yes l) = l
    go (no l) = absurd (n (div-eq_of_lt (omega arith)))

-- the next bit of the code, as a bit of the next node
pub next_bit : (h j v : ℕ) → j < h → v / 2 ^ (h - 1 - j) % 2 ≡ key h (suc j) v % 2
next_bit h j v l =
    let e : h - 1 - j ≡ h - suc j = omega arith in
    ap (λ (n : ℕ). v / 2 ^ n % 2) e

-- .. and as the bit of the node below the row above
pub bit_above : (h k v : ℕ) → 0 < k → v / 2 ^ (h - 1 - (k - 1)) % 2 ≡ key h k v % 2
bit_above h k v some =
    let e : h - 1 - (k - 1) ≡ h - k = omega arith in
    ap (λ (n : ℕ). v / 2 ^ n % 2) e

pub bit-mul_le : (w x : ℕ) → w % 2 * x ≤ x
bit-mul_le w x =
    let l : w % 2 ≤ 1 = omega (arith, mod-lt w {m = 2} (zero-lt-suc 1)) in
    omega (arith, mul-le-mul_right x l)

-- ---- the node that holds v

module _ (h : ℕ) (xs : List ℕ) (w : Within (2 ^ h) xs) (a b v : ℕ) (an : a ≤ length xs) (bn : b ≤ length xs) (lv : v < 2 ^ h) (j : ℕ) (l : j < h) where
  -- the halves of the node that holds v are those of its next bit
  toward_halves : halves_of (row h j xs) (span_of h xs a b j (key h j v))
      ≡ record { zero = span_of h xs a b (suc j) (2 * key h j v); one = span_of h xs a b (suc j) (2 * key h j v + 1) }
  toward_halves = span-halves h xs a b w an bn j (key h j v) l (key_lt h j v (le_of_lt l) lv)

  toward : half_of (halves_of (row h j xs) (span_of h xs a b j (key h j v))) (key h (suc j) v % 2) ≡ span_of h xs a b (suc j) (key h (suc j) v)
  toward =
      ap (λ (two : Halves). half_of two (key h (suc j) v % 2)) toward_halves
      ∙ (λ i. cond (eqb (key h (suc j) v % 2) 1) (span_of h xs a b (suc j) (2 * key_half h j v l i + 1)) (span_of h xs a b (suc j) (2 * key_half h j v l i)))
      ∙ by_bit (span_of h xs a b (suc j)) (key h (suc j) v)

-- ---- what is known on the way

-- `Toward`, with the range's entries in the nodes before it
pub record Below (bytes : List ℕ) (t : Levels) (a b v j : ℕ) (s : Span) (below : ℕ) : Type 0 where
  pub toward : Toward bytes t a b v j s
  pub counted : below ≡ tally (λ x. ltb (key t.height j x) (key t.height j v)) (part a b (entries_in bytes t))

module _ (bytes : List ℕ) (t : Levels) (a b v : ℕ) (ab : a ≤ b) (bl : b ≤ t.entries) where
  abbrev h : ℕ
  h = t.height

  abbrev xs : List ℕ
  xs = entries_in bytes t

  size : length xs ≡ t.entries
  size = length-entries_in bytes t

  inside : b ≤ length xs
  inside = rw size bl

  pub toward_root : v < 2 ^ h → Toward bytes t a b v 0 (record { start = 0; lo = a; hi = b; end = t.entries })
  toward_root lv = record {
    deep = omega arith;
    reached =
        (λ i. record { start = 0; lo = a; hi = b; end = sym size i }) ∙ sym (span-root h xs a b (within_entries_in bytes t) (le_trans ab inside) inside)
        ∙ ap (span_of h xs a b 0) (sym (key-root h v lv));
  }

  pub below_root : v < 2 ^ h → Below bytes t a b v 0 (record { start = 0; lo = a; hi = b; end = t.entries }) 0
  below_root lv = record {
    toward = toward_root lv;
    counted = sym (ap (λ (q : ℕ). tally (λ x. ltb (key h 0 x) q) (part a b xs)) (key-root h v lv) ∙ tally-before-root h (part a b xs));
  }

  -- all entries are below a number of more bits
  pub below_all : 2 ^ h ≤ v → b - a ≡ tally (λ x. ltb x v) (part a b xs)
  below_all l =
      sym (tally_within (λ x. ltb x v) (2 ^ h) (λ x m. lt-ltb x v (le_trans m l)) (part a b xs) (within_part (2 ^ h) a b xs (within_entries_in bytes t))
      ∙ length_part a b xs inside)

  module _ {j : ℕ} {s : Span} where
    pub toward_ordered : Toward bytes t a b v j s → Ordered t.entries s
    toward_ordered o = rw size at (subst (Ordered (length xs)) (sym o.reached) (span-ordered h xs a b j (key h j v) ab inside))

    pub toward_next : v < 2 ^ h → j < h → Toward bytes t a b v j s → (bit : ℕ) → bit ≡ key h (suc j) v % 2
        → Toward bytes t a b v (j + 1) (half_of (halves_of (level_of bytes t j) s) bit)
    toward_next lv l o bit e =
        rw add-one
        (record { deep = l; reached = (λ i. half_of (halves_of (row h j xs) (o.reached i)) (e i)) ∙ toward h xs (within_entries_in bytes t) a b v (le_trans ab inside) inside lv j l })

    pub below_le : {below : ℕ} → Below bytes t a b v j s below → below ≤ b - a
    below_le o = omega (arith, o.counted, tally_le_length (λ x. ltb (key h j x) (key h j v)) (part a b xs), length_part a b xs inside)

    pub below_next : {below : ℕ} → v < 2 ^ h → j < h → Below bytes t a b v j s below
        → Below bytes t a b v (j + 1) (half_of (halves_of (level_of bytes t j) s) (v / 2 ^ (h - 1 - j) % 2))
        (below + v / 2 ^ (h - 1 - j) % 2 * ((halves_of (level_of bytes t j) s).zero.hi - (halves_of (level_of bytes t j) s).zero.lo))
    below_next lv l o = record {
      toward = toward_next lv l o.toward (v / 2 ^ (h - 1 - j) % 2) e;
      counted = rw add-one ((λ i. o.counted i + e i * zeros i) ∙ go (ℕ_discrete (key h (suc j) v % 2) 1));
    }
      where
        p : List ℕ
        p = part a b xs

        e : v / 2 ^ (h - 1 - j) % 2 ≡ key h (suc j) v % 2
        e = next_bit h j v l

        zeros : (halves_of (row h j xs) s).zero.hi - (halves_of (row h j xs) s).zero.lo ≡ tally (λ x. eqb (key h (suc j) x) (2 * key h j v)) p
        zeros =
            ap (λ (s : Span). (halves_of (row h j xs) s).zero.hi - (halves_of (row h j xs) s).zero.lo) o.toward.reached
            ∙ ap (λ (two : Halves). two.zero.hi - two.zero.lo) (toward_halves h xs (within_entries_in bytes t) a b v (le_trans ab inside) inside lv j l)
            ∙ span-count h xs a b (suc j) (2 * key h j v) ab

        go : Dec (key h (suc j) v % 2 ≡ 1)
            → tally (λ x. ltb (key h j x) (key h j v)) p + key h (suc j) v % 2 * tally (λ x. eqb (key h (suc j) x) (2 * key h j v)) p
            ≡ tally (λ x. ltb (key h (suc j) x) (key h (suc j) v)) p
        go (yes d) =
            let w : 2 * key h j v + 1 ≡ key h (suc j) v = omega (arith, key_half h j v l) in
            rw d (omega (arith, count_middle h j l (key h j v) p, ap (λ (q : ℕ). tally (λ x. ltb (key h (suc j) x) q) p) w))
        go (no d) =
            let z : key h (suc j) v % 2 ≡ 0 = omega (arith, mod-lt (key h (suc j) v) {m = 2} (zero-lt-suc 1)) in
            let w : 2 * key h j v ≡ key h (suc j) v = omega (arith, key_half h j v l) in
            rw z (omega (arith, count-start h j l (key h j v) p, ap (λ (q : ℕ). tally (λ x. ltb (key h (suc j) x) q) p) w))

    -- at the leaf
    pub below_leaf : {below : ℕ} → j ≡ h → Below bytes t a b v j s below → below ≡ tally (λ x. ltb x v) (part a b xs)
    below_leaf e o = o.counted ∙ (λ i. tally (λ x. ltb (key h (e i) x) (key h (e i) v)) (part a b xs)) ∙ (λ i. tally (λ x. ltb (key_leaf h x i) (key_leaf h v i)) (part a b xs))

-- ---- from a place of a node down

-- one row further
pub leads_next : (bytes : List ℕ) (t : Levels) (v j : ℕ) (p : Place) (k : ℕ) (r : Place) → v < 2 ^ t.height → k < t.height → Leads bytes t v j p k r
    → (bit : ℕ) → bit ≡ key t.height (suc k) v % 2 → (s : Place) → span_at s ≡ half_of (halves_of (level_of bytes t k) (span_at r)) bit
    → Leads bytes t v j p (k + 1) s
leads_next bytes t v j p k r lv l leads bit e s is i inside from =
    rw is (toward_next bytes t i i v (le_refl i) inside lv l (leads i inside from) bit e)

-- ---- one entry

-- at depth j: the place of entry i in the node that holds it, and the bits that led there
pub record Entry (bytes : List ℕ) (t : Levels) (i j : ℕ) (p : Place) (entry : ℕ) : Type 0 where
  pub toward : Toward bytes t i i (get_or (entries_in bytes t) i 0) j (span_at p)
  pub bits : entry ≡ key t.height j (get_or (entries_in bytes t) i 0)

module _ (bytes : List ℕ) (t : Levels) (i : ℕ) (l : i < t.entries) where
  abbrev v : ℕ
  v = get_or (entries_in bytes t) i 0

  within : i < length (entries_in bytes t)
  within = rw (length-entries_in bytes t) l

  pub entry_lt : v < 2 ^ t.height
  entry_lt = within_at (2 ^ t.height) (entries_in bytes t) i (within_entries_in bytes t) within

  pub entry_root : Entry bytes t i 0 (record { start = 0; at = i; end = t.entries }) 0
  entry_root = record { toward = toward_root bytes t i i v (le_refl i) (le_of_lt l) entry_lt; bits = sym (key-root t.height v entry_lt) }

  module _ {j : ℕ} {p : Place} {entry : ℕ} (o : Entry bytes t i j p entry) where
    pub entry_le : t.height ≤ 12 → entry < 4096
    entry_le low =
        let m : 2 ^ t.height ≤ 2 ^ 12 = pow_mono low in
        omega (arith, o.bits, div-le_self v (2 ^ (t.height - j)), entry_lt)

    pub entry_inside : j < t.height → p.at < t.entries
    entry_inside lj =
        let n = row-pos_lt t.height j (entries_in bytes t) (key t.height j v) i (key_lt t.height j v (le_of_lt lj) entry_lt) within refl in
        omega (
          arith,
          ap (λ (s : Span). s.lo) o.toward.reached,
          row-length t.height j (entries_in bytes t) (le_of_lt lj) (within_entries_in bytes t),
          length-entries_in bytes t,
        )

    pub entry_next : (lj : j < t.height) (r : Place) (bit : ℕ) → bit ≡ get_or (level_of bytes t j) p.at 0
        → span_at r ≡ half_of (halves_of (level_of bytes t j) (span_at p)) bit → Entry bytes t i (j + 1) r (2 * entry + bit)
    entry_next lj r bit e f = record {
      toward = rw f (toward_next bytes t i i v (le_refl i) (le_of_lt l) entry_lt lj o.toward bit g);
      bits = rw add-one (omega (arith, g, o.bits, key_half t.height j v lj));
    }
      where
        g : bit ≡ key t.height (suc j) v % 2
        g =
            e ∙ ap (λ (s : Span). get_or (level_of bytes t j) s.lo 0) o.toward.reached
            ∙ row-bit t.height j (entries_in bytes t) lj (key t.height j v) (key_lt t.height j v (le_of_lt lj) entry_lt) i within refl

  pub entry_leaf : {p : Place} {entry : ℕ} {j : ℕ} → j ≡ t.height → Entry bytes t i j p entry → entry ≡ v
  entry_leaf e o = o.bits ∙ ap (λ (n : ℕ). key t.height n v) e ∙ key_leaf t.height v

-- ---- entries of a node before a place

-- as many as the place is behind the node's start
pub node_entries : (bytes : List ℕ) (t : Levels) (i v j : ℕ) (p : Place) → Toward bytes t i i v j (span_at p)
    → p.at - p.start ≡ tally (λ x. eqb (key t.height j x) (key t.height j v)) (take i (entries_in bytes t))
node_entries bytes t i v j p w = ap (λ (s : Span). s.lo - s.start) w.reached ∙ omega arith

-- those of the half that a bit leads to, by the bits of the node's row: its ones, or the rest
pub half_entries : (bytes : List ℕ) (t : Levels) (i v k : ℕ) (p : Place) → k < t.height → v < 2 ^ t.height → i ≤ t.entries → Toward bytes t i i v k (span_at p)
    → (bit : ℕ) → bit ≡ key t.height (suc k) v % 2
    → cond (eqb bit 1) (rank 1 (level_of bytes t k) p.at - rank 1 (level_of bytes t k) p.start)
    ((p.at - p.start) - (rank 1 (level_of bytes t k) p.at - rank 1 (level_of bytes t k) p.start))
    ≡ tally (λ x. eqb (key t.height (suc k) x) (key t.height (suc k) v)) (take i (entries_in bytes t))
half_entries bytes t i v k p l lv inside w bit e = ap (λ (b : ℕ). cond (eqb b 1) ones (p.at - p.start - ones)) e ∙ go (ℕ_discrete (key h (suc k) v % 2) 1)
  where
    h : ℕ
    h = t.height

    xs : List ℕ
    xs = entries_in bytes t

    q : ℕ
    q = key h k v

    ones : ℕ
    ones = rank 1 (level_of bytes t k) p.at - rank 1 (level_of bytes t k) p.start

    in_one : ones ≡ tally (λ x. eqb (key h (suc k) x) (2 * q + 1)) (take i xs)
    in_one =
        ap (λ (s : Span). rank 1 (level_of bytes t k) s.lo - rank 1 (level_of bytes t k) s.start) w.reached
        ∙ omega (arith, row-ones h k xs l q (key_lt h k v (le_of_lt l) lv) i)

    in_zero : p.at - p.start - ones ≡ tally (λ x. eqb (key h (suc k) x) (2 * q)) (take i xs)
    in_zero = omega (arith, node_entries bytes t i v k p w, in_one, count-halves h k l q (take i xs))

    go : Dec (key h (suc k) v % 2 ≡ 1) → cond (eqb (key h (suc k) v % 2) 1) ones (p.at - p.start - ones) ≡ tally (λ x. eqb (key h (suc k) x) (key h (suc k) v)) (take i xs)
    go (yes b) =
        let odd : 2 * q + 1 ≡ key h (suc k) v = omega (arith, key_half h k v l) in
        rw (eq-eqb (key h (suc k) v % 2) 1 b) (in_one ∙ ap (λ (n : ℕ). tally (λ x. eqb (key h (suc k) x) n) (take i xs)) odd)
    go (no b) =
        let even : 2 * q ≡ key h (suc k) v = omega (arith, key_half h k v l, mod-lt (key h (suc k) v) {m = 2} (zero-lt-suc 1)) in
        rw (ne_eqb (key h (suc k) v % 2) 1 b) (in_zero ∙ ap (λ (n : ℕ). tally (λ x. eqb (key h (suc k) x) n) (take i xs)) even)

-- by the row above: the bit there is 1, or it is 0
module _ (bytes : List ℕ) (t : Levels) (v j : ℕ) (p : Place) (k : ℕ) (node : Place) (some : 0 < k) (l : k ≤ t.height) (lv : v < 2 ^ t.height)
    (leads : Leads bytes t v j p (k - 1) node) where
  abbrev ones_before : ℕ
  ones_before = rank 1 (level_of bytes t (k - 1)) node.at - rank 1 (level_of bytes t (k - 1)) node.start

  by_bit_above : (i : ℕ) → i ≤ t.entries → Toward bytes t i i v j (span_at p)
      → cond (eqb (key t.height k v % 2) 1) ones_before (node.at - node.start - ones_before) ≡ tally (λ x. eqb (key t.height k x) (key t.height k v)) (take i (entries_in bytes t))
  by_bit_above i inside from =
      let e : suc (k - 1) ≡ k = omega arith in
      half_entries bytes t i v (k - 1) node (omega arith) lv inside (leads i inside from) (key t.height k v % 2) (ap (λ (n : ℕ). key t.height n v % 2) (sym e))
      ∙ ap (λ (n : ℕ). tally (λ x. eqb (key t.height n x) (key t.height n v)) (take i (entries_in bytes t))) e

  pub count_ones : key t.height k v % 2 ≡ 1 → CountsUnder bytes t v j p k ones_before
  count_ones b i inside from =
      ap (λ (c : Bool). cond c ones_before (node.at - node.start - ones_before)) (sym (eq-eqb (key t.height k v % 2) 1 b)) ∙ by_bit_above i inside from

  pub count_zeros : (key t.height k v % 2 ≡ 1 → ⊥) → CountsUnder bytes t v j p k (node.at - node.start - ones_before)
  count_zeros b i inside from =
      ap (λ (c : Bool). cond c ones_before (node.at - node.start - ones_before)) (sym (ne_eqb (key t.height k v % 2) 1 b)) ∙ by_bit_above i inside from

-- ---- occurrences before a place

-- of a value: its leaf
pub rank_leaf : (bytes : List ℕ) (t : Levels) (v i : ℕ)
    → tally (λ x. eqb (key t.height t.height x) (key t.height t.height v)) (take i (entries_in bytes t)) ≡ rank v (entries_in bytes t) i
rank_leaf bytes t v i =
    ap (λ (q : ℕ). tally (λ x. eqb (key t.height t.height x) q) (take i (entries_in bytes t))) (key_leaf t.height v)
    ∙ tally_leaf t.height v (take i (entries_in bytes t))

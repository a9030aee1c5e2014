-- Laws of the samples of a row: what it says that all are right, and the list that `fill_samples` writes one by one.
use mathlib.Core.Path.{◌≡◌, refl, sym, ap, ◌∙◌}
use mathlib.Core.Bool.{Bool, true, false}
use mathlib.Core.List.{List, [], ◌∷◌, ◌++◌, map, append_assoc, append-nil}
use Prim.Native.Nat.{ℕ, zero, suc, ◌+◌, ◌*◌, ◌<◌}
use native.Mathlib.Nat.{zero-add, not-suc-le-zero}
use native.Mathlib.Numerals.{add-one}
use native.Mathlib.Omega.{arith}
use lib.Dec.{eqb}
use lib.ListN.{length, drop, length-append}
use lib.Seq.{take_at, drop-append-add, drop-drop}
use borrow.Author.Count.{below_more}
use borrow.Author.Tests.{eqb-true, eq-eqb}
use Rattle.bits.specs.Bits.{bits_of, sample_count, concat, little_endian, number_at, sample, samples_of, samples_right}
use Rattle.bits.specs.Rows.{count_below, with_number}
use Rattle.bits.specs.Sequences.{below}
use Rattle.bits.proofs.Bits.{rank-bits_of, length-bits_of}
use Rattle.bits.proofs.Tally.{map-append, up_from_snoc, all-up_from, all-up_from-at}

-- the first t samples are right
abbrev pub RightTo : List ℕ → List ℕ → ℕ → Type 0
RightTo samples row t = (k : ℕ) → k < t → number_at samples (4 * k) ≡ count_below 1 row (512 * k)

pub right_none : (samples row : List ℕ) → RightTo samples row 0
right_none samples row k h = absurd (not-suc-le-zero h)

pub right_more : (samples row : List ℕ) (t : ℕ) → RightTo samples row t → number_at samples (4 * t) ≡ count_below 1 row (512 * t)
    → RightTo samples row (t + 1)
right_more samples row t h e = below_more (λ (k : ℕ). number_at samples (4 * k) ≡ count_below 1 row (512 * k)) t h e

-- the sample that the definition compares, as a count
sample-count : (n : ℕ) (row : List ℕ) (t : ℕ) → t < sample_count n → sample (bits_of n row) t ≡ count_below 1 row (512 * t)
sample-count n row t h = rank-bits_of 1 n row (512 * t) (omega arith)

module _ (n : ℕ) (samples row : List ℕ) where
  pub samples_at_lem : samples_right n samples row ≡ true → RightTo samples row (sample_count n)
  unfolding samples_right
  samples_at_lem e t h =
      eqb-true (number_at samples (4 * t)) (sample (bits_of n row) t)
      (all-up_from-at (λ k. eqb (number_at samples (4 * k)) (sample (bits_of n row) k)) 0 (sample_count n) e t (omega arith) (omega arith))
      ∙ sample-count n row t h

  pub samples_all : RightTo samples row (sample_count n) → samples_right n samples row ≡ true
  unfolding samples_right
  samples_all h =
      all-up_from (λ k. eqb (number_at samples (4 * k)) (sample (bits_of n row) k)) 0 (sample_count n)
      (λ t l m. eq-eqb (number_at samples (4 * t)) (sample (bits_of n row) t) (h t (omega arith) ∙ sym (sample-count n row t (omega arith))))

  pub samples_not : (t : ℕ) → t < sample_count n → (number_at samples (4 * t) ≡ count_below 1 row (512 * t) → ⊥) → samples_right n samples row ≡ false
  samples_not t h ne = go (samples_right n samples row) refl
    where
      go : (b : Bool) → samples_right n samples row ≡ b → b ≡ false
      go true e = absurd (ne (samples_at_lem e t h))
      go false e = refl

-- ---- the samples as bytes

-- the first t samples of a row of bits
pub samples_to : List ℕ → ℕ → List ℕ
samples_to bits t = concat (map (λ k. little_endian (sample bits k)) (below t))

pub samples_to_all : (n : ℕ) (row : List ℕ) → samples_to (bits_of n row) (sample_count n) ≡ samples_of (bits_of n row)
unfolding samples_to samples_of
samples_to_all n row = ap (λ (m : ℕ). samples_to (bits_of n row) (sample_count m)) (sym (length-bits_of n row))

pub samples_to_none : (bits : List ℕ) → samples_to bits 0 ≡ []
unfolding samples_to
samples_to_none bits = refl

concat_snoc : (ls : List (List ℕ)) (l : List ℕ) → concat (ls ++ (l ∷ [])) ≡ concat ls ++ l
concat_snoc [] l = append-nil l
concat_snoc (k ∷ ls) l = ap (λ (r : List ℕ). k ++ r) (concat_snoc ls l) ∙ sym (append_assoc k (concat ls) l)

pub samples_to_suc : (bits : List ℕ) (t : ℕ) → samples_to bits (t + 1) ≡ samples_to bits t ++ little_endian (sample bits t)
unfolding samples_to
samples_to_suc bits t =
    ap (samples_to bits) (add-one t)
    ∙ ap (λ (l : List ℕ). concat (map (λ k. little_endian (sample bits k)) l)) (up_from_snoc 0 t)
    ∙ ap concat (map-append (λ k. little_endian (sample bits k)) (below t) ((0 + t) ∷ []))
    ∙ concat_snoc (map (λ k. little_endian (sample bits k)) (below t)) (little_endian (sample bits (0 + t)))
    ∙ ap (λ (k : ℕ). samples_to bits t ++ little_endian (sample bits k)) (zero-add t)

pub length_samples_to : (bits : List ℕ) (t : ℕ) → length (samples_to bits t) ≡ 4 * t
length_samples_to bits zero = ap length (samples_to_none bits)
length_samples_to bits (suc t) =
    omega (
      arith,
      ap (λ (k : ℕ). length (samples_to bits k)) (add-one t),
      ap length (samples_to_suc bits t),
      length-append (samples_to bits t) (little_endian (sample bits t)),
      length_samples_to bits t,
    )

-- the next sample is stored behind those before it
pub samples_to_store : (bits old : List ℕ) (t x : ℕ) → x ≡ sample bits t
    → with_number (samples_to bits t ++ drop (4 * t) old) (4 * t) x ≡ samples_to bits (t + 1) ++ drop (4 * (t + 1)) old
samples_to_store bits old t x e =
    let ts = samples_to bits t in
    let ls = length_samples_to bits t in
    let k : 4 * t + 4 ≡ 4 * (t + 1) = omega arith in
    let rest : drop (4 * t + 4) (ts ++ drop (4 * t) old) ≡ drop (4 * (t + 1)) old
    = rw ls at (drop-append-add ts (drop (4 * t) old) 4) ∙ drop-drop 4 (4 * t) old ∙ ap (λ (m : ℕ). drop m old) k in
    rw (samples_to_suc bits t) (λ i. (take_at ts (drop (4 * t) old) (4 * t) ls i ++ little_endian (e i)) ++ rest i)

-- The parts that the check on opening looks at, one at a time, and where they lie.
use Rattle.std.specs.List.{list_all, range_with_len}
use Prim.Native.Nat.{ℕ, zero, suc, ◌+◌, ◌-◌, ◌*◌, ◌≤◌, ◌<◌}
use native.Mathlib.Omega.{arith}
use native.Mathlib.Nat.{add-sub_cancel_left}
use native.Mathlib.Numerals.{add-one}
use mathlib.Core.Path.{◌≡◌, refl, sym, ap, ◌∙◌}
use mathlib.Core.Logic.{◌⊎◌, inl, inr}
use mathlib.Core.List.{List}
use mathlib.Core.Bool.{Bool, true, false, not, ◌&&◌}
use lib.ListN.{length}
use lib.Seq.{take_all}
use lib.Dec.{leb, ltb, eqb}
use borrow.Author.Tests.{eq-eqb, ne_eqb, ltb-true, ltb-false}
use Rattle.bits.specs.Sequences.{tally, all, up_from, below}
use Rattle.bits.specs.Bits.{number_at, row_bytes}
use Rattle.bits.proofs.Tests.{look}
use Rattle.bits.proofs.Tally.{tally_le_length, all-up_from-at}
use Rattle.model.specs.Lists.{any, part}
use Rattle.model.proofs.Lists.{any_leb}
use Rattle.model.specs.Opening.{start_at, length_at, pairs_hold, table_holds}
use Rattle.wavelet.specs.declared.Levels.{Levels}
use Rattle.wavelet.specs.Levels.{entries_in, Stored}
use Rattle.wavelet.proofs.Stored.{length-entries_in}
use Rattle.archive.specs.declared.Layout.{Layout}
use Rattle.archive.specs.Layout.{sizes_in, Fitting}
use Rattle.archive.specs.Opening.{Laid, Placed, sampled_at}
use Rattle.archive.proofs.Bounds.{bounded}

-- ---- the pairs

by_pairs : (a b c d e f : Bool) → (a && (b && (c && (d && (e && (f && true)))))) ≡ ((a && b) && ((c && d) && (e && f)))
by_pairs false b c d e f = refl
by_pairs true false c d e f = refl
by_pairs true true false d e f = refl
by_pairs true true true false e f = refl
by_pairs true true true true false f = refl
by_pairs true true true true true false = refl
by_pairs true true true true true true = refl

-- whether a pair of offset and length stands at byte k
abbrev pub pair_at : List ℕ → ℕ → ℕ → ℕ → Bool
pair_at bytes k offset size = eqb (number_at bytes k) offset && eqb (number_at bytes (k + 4)) size

pub pairs-apart : (bytes : List ℕ) (l : Layout) → Fitting l
    → pairs_hold bytes (sizes_in l)
    ≡ (pair_at bytes 16 40 (8 * l.terms)
    && (pair_at bytes 24 l.levels.samples (l.levels.rows - l.levels.samples)
    && pair_at bytes 32 l.levels.rows (l.levels.height * row_bytes l.levels.entries)))
pairs-apart bytes l f =
    let b = bounded l f in
    rw (b.rows_is, add-sub_cancel_left, b.height_is, b.samples_is, ← by_pairs)

-- ---- the term table from term t on, and the rows

pub table_next : (bytes : List ℕ) (n start t w : ℕ) → t < w
    → table_holds bytes n start (up_from t (w - t))
    ≡ (eqb (start_at bytes t) start && table_holds bytes n (start_at bytes t + length_at bytes t) (up_from (t + 1) (w - (t + 1))))
table_next bytes n start t w l =
    let e : w - t ≡ suc (w - suc t) = omega arith in
    rw (add-one t, e)

-- a chain over a range of numbers asks each of them
pub all-range : (p : ℕ → Bool) (a n : ℕ) → list_all p (range_with_len a n) ≡ all p (up_from a n)
all-range p a zero = refl
all-range p a (suc n) = rw (add-one a) (ap (λ (b : Bool). p a && b) (all-range p (suc a) n))

-- ---- where the rows lie

pub laid_placed : (bytes : List ℕ) (l : Layout) → Laid bytes l → Placed bytes l.levels
laid_placed bytes l laid =
    let f = laid.fitting in
    let b = bounded l f in
    let size : length bytes ≡ l.levels.rows + l.levels.height * row_bytes l.levels.entries = rw (b.rows_is, b.height_is, b.samples_is) laid.size in
    record {
      few = let few = f.entries in omega arith;
      low = b.low;
      near = let terms = f.terms in omega arith;
      samples_fit = omega arith;
      rows_fit = omega arith;
    }

pub placed_stored : (bytes : List ℕ) (t : Levels) → Placed bytes t → all (sampled_at bytes t) (below t.height) ≡ true → Stored bytes t
placed_stored bytes t p e = record {
  few = p.few;
  low = p.low;
  near = p.near;
  samples_fit = p.samples_fit;
  rows_fit = p.rows_fit;
  right = λ j l. all-up_from-at (sampled_at bytes t) 0 t.height e j (omega arith) (omega arith);
}

-- ---- the entries

eqb_not_ltb : (a n : ℕ) → a ≤ n → eqb a n ≡ not (ltb a n)
eqb_not_ltb a n l = go (look (ltb a n))
  where
    go : (ltb a n ≡ true) ⊎ (ltb a n ≡ false) → eqb a n ≡ not (ltb a n)
    go (inl e) = let m = ltb-true a n e in rw (e, ne_eqb a n (omega arith))
    go (inr e) = let m = ltb-false a n e in rw (e, eq-eqb a n (omega arith))

-- all of them are counted below N exactly where none is N or more
pub entries_below : (bytes : List ℕ) (t : Levels) (N : ℕ)
    → eqb (tally (λ x. ltb x N) (part 0 t.entries (entries_in bytes t))) t.entries ≡ not (any (leb N) (entries_in bytes t))
entries_below bytes t N =
    let xs = entries_in bytes t in
    let size = length-entries_in bytes t in
    let m = tally (λ x. ltb x N) xs in
    ap (λ (ys : List ℕ). eqb (tally (λ x. ltb x N) ys) t.entries) (take_all (t.entries - 0) xs (omega arith))
    ∙ eqb_not_ltb m t.entries (omega (arith, tally_le_length (λ x. ltb x N) xs))
    ∙ ap (λ (n : ℕ). not (ltb m n)) (sym size)
    ∙ ap not (sym (any_leb N xs))

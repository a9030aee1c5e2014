-- The walk of a conjunction: what is written when the walk stands at a document.
use Prim.Native.Nat.{ℕ, suc, ◌+◌, ◌-◌, ◌*◌, ◌^◌, ◌≤◌, ◌<◌}
use native.Mathlib.Omega.{arith}
use native.Mathlib.Nat.{suc-mul, zero-add}
use mathlib.Core.Path.{◌≡◌, refl, sym, ap, ◌∙◌, subst}
use mathlib.Core.List.{List, [], ◌∷◌, ◌++◌, map, append-nil}
use mathlib.Core.Bool.{true}
use lib.ListN.{length, drop, length-map, length-take, length-drop}
use lib.Seq.{sets, length-sets}
use lib.Dec.{ltb, eqb}
use borrow.Author.Tests.{ltb-true}
use Rattle.bits.specs.Sequences.{occurrences, up_from, below}
use Rattle.bits.specs.Bits.{sum}
use Rattle.bits.proofs.Tests.{and_both}
use Rattle.bits.proofs.Tally.{tally_le_length, up_from-append, length-up_from, map-append}
use Rattle.model.specs.Lists.{keep, part, overwrite, Within}
use Rattle.model.specs.Format.{Library}
use Rattle.model.specs.Queries.{Pair, flat, term_start, under, counts_under, conjunction}
use Rattle.model.specs.Opening.{contents}
use Rattle.model.proofs.Lists.{keep_append, length-keep, within_part}
use Rattle.archive.specs.declared.Layout.{Layout}
use Rattle.archive.specs.Layout.{Opened}
use Rattle.archive.proofs.Opened.{fitting, entries-size, entries_within}
use Rattle.answers.specs.Written.{Written}
use Rattle.answers.proofs.Occurrences.{keep_none, occurs_lt}
use Rattle.answers.proofs.Stores.{written_none, written-pair, written_both, written-front}
use Rattle.paths.specs.declared.query.Query.{Query}
use Rattle.conjunction.specs.Conjunction.{next_common, next_is, no_further}
use Rattle.conjunction.proofs.Commons.{matches, Passed, next_first, next_none}
use mir.Val.{Fits}
use mir.Syntax.{w64}

module _ (lib : Library) (ts : List ℕ) where
  -- a document with the sum of its counts
  abbrev summed : ℕ → Pair
  summed d = record { document = d; count = sum (counts_under lib ts d) }

  -- the matches below m
  abbrev pub found_below : ℕ → List Pair
  found_below m = map summed (keep (matches (counts_under lib ts)) (below m))

  found_add : (v n : ℕ) → found_below (v + n) ≡ found_below v ++ map summed (keep (matches (counts_under lib ts)) (up_from v n))
  found_add v n =
      ap (λ (l : List ℕ). map summed (keep (matches (counts_under lib ts)) l)) (up_from-append 0 v n ∙ ap (λ (s : ℕ). below v ++ up_from s n) (zero-add v))
      ∙ ap (map summed) (keep_append (matches (counts_under lib ts)) (below v) (up_from v n)) ∙ map-append summed (keep (matches (counts_under lib ts)) (below v)) (keep (matches (counts_under lib ts)) (up_from v n))

  -- over documents that do not match
  found_pass : (v d : ℕ) → v ≤ d → Passed (counts_under lib ts) v d → found_below d ≡ found_below v
  found_pass v d l f =
      let s : v + (d - v) ≡ d = omega arith in
      ap found_below (sym s) ∙ found_add v (d - v)
      ∙ ap (λ (r : List ℕ). found_below v ++ map summed r) (keep_none (matches (counts_under lib ts)) v (d - v) (λ e a b. f e a (omega arith))) ∙ append-nil (found_below v)

  -- and over one that does
  found-one : (v : ℕ) → matches (counts_under lib ts) v ≡ true → found_below v ++ (summed v ∷ []) ≡ found_below (v + 1)
  found-one v e = sym (found_add v 1 ∙ rw e)

  pub found_le : (m : ℕ) → length (found_below m) ≤ m
  found_le m =
      omega (
        arith,
        length-map (keep (matches (counts_under lib ts)) (below m)) summed,
        length-keep (matches (counts_under lib ts)) (below m),
        tally_le_length (matches (counts_under lib ts)) (below m),
        length-up_from 0 m,
      )

-- the matches below `at` are written, `found` of them
pub record Walking (lib : Library) (ts : List ℕ) (before : List ℕ) (at found : ℕ) (after : List ℕ) : Type 0 where
  pub low : at ≤ lib.documents
  pub written : Written (found_below lib ts at) 0 before after found

module _ (lib : Library) (h : ℕ) (ts : List ℕ) (before : List ℕ) where
  pub walking_start : Walking lib ts before 0 0 before
  walking_start = record { low = omega arith; written = written_none 0 before refl }

  module _ {at found : ℕ} {after : List ℕ} (o : Walking lib ts before at found after) where
    pub walking_size : length after ≡ length before
    walking_size = ap length o.written.stored ∙ length-sets before 0 (flat (found_below lib ts at))

    pub walking_few : found ≤ at
    walking_few = omega (arith, o.written.next, found_le lib ts at)

    -- the next document is written, and the walk stands behind it
    pub walking_next : {m : List ℕ} (d c : ℕ) → next_common (counts_under lib ts) h at ≡ next_is d c → d < lib.documents
        → m ≡ sets after (2 * found) (d ∷ c ∷ []) → Walking lib ts before (d + 1) (found + 1) m
    walking_next {m} d c e l s =
        let r = next_first (counts_under lib ts) h at d c e in
        let p = found_pass lib ts at d r.from r.passed in
        record {
          low = omega arith;
          written =
              written_both 0 before (found-one lib ts d r.matched)
              (subst (λ (ps : List Pair). Written ps 0 before after found) (sym p) o.written)
              (written-pair found after d c m (λ i. record { document = d; count = sym r.count i } ∷ []) s);
        }

    -- there is none
    pub walking_end : next_common (counts_under lib ts) h at ≡ no_further → lib.documents ≤ 2 ^ h → 2 * lib.documents ≤ length before
        → (found ≡ length (conjunction lib ts)) × (after ≡ overwrite (flat (conjunction lib ts)) before)
    walking_end e fit room =
        let p = found_pass lib ts at lib.documents o.low (λ x a b. next_none (counts_under lib ts) h at e x a (omega arith)) in
        written-front (omega (arith, found_le lib ts lib.documents))
        (subst (λ (ps : List Pair). Written ps 0 before after found) (sym p) o.written)

-- ---- of an opened archive

-- a document with the sum of its counts, from `at` upward
pub record Turn (l : Layout) (at d c : ℕ) : Type 0 where
  pub on : at ≤ d
  pub lt : d < l.documents
  pub few : c ≤ 524280

-- what a turn of the walk asks for, where there are few documents
module _ {l : Layout} {at d c : ℕ} (t : Turn l at d c) where
  pub walk_less : l.documents - (d + 1) < l.documents - at
  walk_less = let a = t.on in let b = t.lt in omega arith

  pub at_fits : l.documents ≤ 4096 → Fits w64 (d + 1)
  at_fits few = record { fits = let b = t.lt in omega arith }

  module _ {found : ℕ} (so_far : found ≤ at) (few : l.documents ≤ 4096) where
    pub found_fits : Fits w64 (found + 1)
    found_fits = record { fits = let a = t.on in let b = t.lt in omega arith }

    pub pair_room : (before after : List ℕ) → 2 * l.documents ≤ length before → length after ≡ length before
        → (2 * (found + 1) ≤ length after) × (d < 2 ^ 32) × (c < 2 ^ 32)
    pair_room before after room same = let a = t.on in let b = t.lt in let m = t.few in (omega arith, omega arith, omega arith)

length-part_le : (a b : ℕ) (xs : List ℕ) → length (part a b xs) ≤ length xs
length-part_le a b xs = omega (arith, length-take (b - a) (drop a xs), length-drop a xs)

-- one count is not above the number of entries
sum_few : (lib : Library) (ts : List ℕ) (d n : ℕ) → length lib.entries ≤ n → sum (counts_under lib ts d) ≤ length ts * n
sum_few lib [] d n l = omega arith
sum_few lib (t ∷ ts) d n l =
    omega (
      arith,
      sum_few lib ts d n l,
      tally_le_length (eqb d) (under lib t),
      length-part_le (term_start lib t) (term_start lib (suc t)) lib.entries,
      suc-mul (length ts) n,
    )

-- a document under a term is a document
matched_lt : (lib : Library) (N : ℕ) (ts : List ℕ) (d : ℕ) → Within N lib.entries → 1 ≤ length ts → matches (counts_under lib ts) d ≡ true → d < N
matched_lt lib N [] d w l e = absurd (omega arith)
matched_lt lib N (t ∷ ts) d w l e =
    occurs_lt N d (under lib t) (within_part N (term_start lib t) (term_start lib (suc t)) lib.entries w)
    (ltb-true 0 (occurrences d (under lib t)) (and_both (ltb 0 (occurrences d (under lib t))) (matches (counts_under lib ts) d) e).0)

module _ (q : Query) where
  abbrev bytes : List ℕ
  bytes = q.archive.bytes.now

  abbrev l : Layout
  l = q.archive.layout

  abbrev o : Opened bytes l
  o = q.archive.opened

  pub turn : (at d c : ℕ) → next_common (counts_under (contents bytes) q.terms.now) l.levels.height at ≡ next_is d c → Turn l at d c
  turn at d c e =
      let ts : List ℕ = q.terms.now in
      let r = next_first (counts_under (contents bytes) ts) l.levels.height at d c e in
      let few : length ts ≤ 8 = q.chosen.few in
      let small : length (contents bytes).entries ≤ 65535 = omega (arith, entries-size bytes l o, (fitting bytes l o).entries) in
      record {
        on = r.from;
        lt = matched_lt (contents bytes) l.documents ts d (entries_within bytes l o) q.chosen.some r.matched;
        few = omega (arith, r.count, sum_few (contents bytes) ts d 65535 small);
      }

-- What code of the two loops asks for, over the lent slices: a probe, whether another round is to come, and the steps, powers of two.
use Prim.Native.Nat.{ℕ, zero, suc, ◌+◌, ◌-◌, ◌*◌, ◌/◌, ◌^◌, ◌≤◌, ◌<◌}
use native.Mathlib.Omega.{arith}
use native.Mathlib.Nat.{pow-suc}
use mathlib.Core.Path.{◌≡◌, refl, sym, ap, ◌∙◌, subst⁻¹}
use mathlib.Core.Logic.{◌⊎◌, inl, inr}
use mathlib.Core.List.{List}
use mathlib.Core.Bool.{Bool, true, false, not}
use lib.ListN.{length, get_or, drop, set, length-take}
use lib.Seq.{drop-set-lt}
use lib.Dec.{leb, ltb}
use borrow.Author.Tests.{ltb-true, eq-eqb, ne_eqb, lt-ltb, le-ltb, lt-leb, le-leb}
use Rattle.bits.specs.Sequences.{occurrences}
use Rattle.bits.proofs.Tests.{and_both, le_or_lt}
use Rattle.model.specs.Lists.{overwrite, Within}
use Rattle.model.specs.Queries.{quantile, Pair, flat, pair_of, pair, pair_at, pairs_in}
use Rattle.model.specs.TopK.{insert_pair, full_list}
use Rattle.model.specs.Probing.{State, enter, mark, probe, settled, Held, Swept, goes_on}
use Rattle.model.proofs.Probing.Insertion.{length-insert}
use Rattle.model.proofs.Probing.Held.{held_new, held-sorted, held_few}
use Rattle.model.proofs.Probing.Probed.{quantile-occurs, quantile_within}
use Rattle.model.proofs.Probing.Rounds.{Sweeping, sweeping_probe, swept_stop, probe_again, probe_new}
use Rattle.model.proofs.Pairs.{length_pairs, get_or-pairs, overwrite-pairs, drop_more}
use Rattle.probing.specs.Slices.{marked, Room, Entered, Kept, Lent, Power, state_in}
use Rattle.probing.proofs.Laws.Slices.{marked-at, marked-set}

pub kept_refl : (N n : ℕ) (work out : List ℕ) → Kept N n n work out work out
kept_refl N n work out = record { more = omega arith; marks = refl; rest = refl }

pub kept_trans : {N n m l : ℕ} {a b c d e f : List ℕ} → Kept N n m a b c d → Kept N m l c d e f → Kept N n l a b e f
kept_trans {N} {n} {m} {l} {a} {b} {c} {d} {e} {f} p q =
    let x = p.more in
    let y = q.more in
    record {
      more = omega arith;
      marks = q.marks ∙ p.marks;
      rest = q.rest ∙ drop_more (2 * m) (2 * l) d b (omega arith) p.rest;
    }

module _ {N k : ℕ} {xs work out : List ℕ} (lent : Lent N k xs work out) where
  pub lent_same : {work' out' : List ℕ} → length work' ≡ length work → length out' ≡ length out → Lent N k xs work' out'
  lent_same a b = record {
    some = lent.some;
    within = lent.within;
    few = lent.few;
    places = omega (arith, lent.places);
    room = omega (arith, lent.room);
  }

  -- what is held fits
  pub held_room : (held : ℕ) (seen : ℕ → Bool) → Held N k xs seen (pairs_in out held) → (held ≤ k) × (held ≤ 4096) × (2 * held ≤ length out)
  held_room held seen h =
      let a = held_few N k xs seen (pairs_in out held) h in
      let n = length_pairs out held in
      let f = lent.few in
      omega (arith, lent.room)

  -- where no round follows, the full list stands in the answer slice
  pub swept_written : {g : ℕ} → 0 < g → (held : ℕ) {seen : ℕ → Bool} → Swept N k xs g seen (pairs_in out held) → goes_on k g (pairs_in out held) ≡ false
      → (old : List ℕ) → drop (2 * held) out ≡ drop (2 * held) old → (held ≡ length (full_list N k xs)) × (out ≡ overwrite (flat (full_list N k xs)) old)
  swept_written pos held {seen} s e old rest =
      let full = swept_stop pos e s in (
        sym (length_pairs out held) ∙ ap length full,
        overwrite-pairs out old held (held_room held seen s.held).2 rest ∙ ap (λ (ps : List Pair). overwrite (flat ps) old) full,
      )

  -- ---- one probe, at rank r, where document d stands

  module _ (r : ℕ) (l : r < length xs) {d : ℕ} (is : d ≡ quantile r xs) where
    pub rank_within : d < N
    rank_within = rw is (quantile_within N xs lent.within r l)

    pub step_again : (held : ℕ) → get_or work d 0 ≡ 1 → state_in N work out held ≡ probe k xs r (state_in N work out held)
    step_again held e =
        sym (probe_again k xs r (state_in N work out held) (ap (marked N work) (sym is) ∙ marked-at N work d rank_within ∙ eq-eqb (get_or work d 0) 1 e))

    module _ (held : ℕ) (new : get_or work d 0 ≡ 1 → ⊥) where
      unmarked : marked N work (quantile r xs) ≡ false
      unmarked = ap (marked N work) (sym is) ∙ marked-at N work d rank_within ∙ ne_eqb (get_or work d 0) 1 new

      pub step_room : Held N k xs (marked N work) (pairs_in out held) → Room k held out
      step_room h =
          let q = quantile r xs in
          let a = held_room held (marked N work) h in
          let after = held_new N xs q (quantile_within N xs lent.within r l) (quantile-occurs xs r l) (marked N work) unmarked k (pairs_in out held) h in
          let b = (held_few N k xs (mark q (marked N work)) (enter k (pair_of xs q) (pairs_in out held)) after).1 in
          let c = length-take k (insert_pair (pair_of xs q) (pairs_in out held)) in
          let e = length-insert (pair_of xs q) (pairs_in out held) in
          let n = length_pairs out held in
          let room = lent.room in
          record {
            some = lent.some;
            few = omega arith;
            short = omega arith;
            inside = omega arith;
            next = λ h. omega arith;
            order = held-sorted N k xs (marked N work) (pairs_in out held) h;
          }

      -- once it is marked and entered with its count
      module _ {c : ℕ} (count : c ≡ occurrences d xs) {out' : List ℕ} {more : ℕ} (e : Entered k (pair d c) held out out' more) where
        pub step_new : state_in N (set work d 1) out' more ≡ probe k xs r (state_in N work out held)
        step_new =
            rw (e.pairs, marked-set N work d rank_within (omega (arith, rank_within, lent.places)), count, is)
            (sym (probe_new k xs r (state_in N work out held) unmarked))

        pub step_kept : Kept N held more work out (set work d 1) out'
        step_kept = record { more = e.more; marks = drop-set-lt N work d 1 rank_within; rest = e.rest }

-- a probe of a round, at rank r
pub swept_on : {N k : ℕ} {xs : List ℕ} {g : ℕ} → 0 < g → Within N xs → (r : ℕ) → r < length xs → (work out : List ℕ) (held : ℕ)
    → Sweeping N k xs g r (marked N work) (pairs_in out held) → (work' out' : List ℕ) (more : ℕ) → state_in N work' out' more ≡ probe k xs r (state_in N work out held)
    → Sweeping N k xs g (r + 2 * g) (marked N work') (pairs_in out' more)
swept_on {N} {k} {xs} {g} pos within r l work out held i work' out' more e =
    subst⁻¹ (λ (t : State). Sweeping N k xs g (r + 2 * g) t.seen t.candidates) e (sweeping_probe pos within r l (state_in N work out held) i)

-- ---- whether another round is to come

pub goes_on_more : (k g : ℕ) (candidates : List Pair) → goes_on k g candidates ≡ true → 1 < g
goes_on_more k g candidates e = ltb-true 1 g (and_both (ltb 1 g) (not (settled k g candidates)) e).0

module _ (out : List ℕ) (held k g : ℕ) where
  pub goes_on_short : 1 < g → (held ≡ k → ⊥) → true ≡ goes_on k g (pairs_in out held)
  goes_on_short l h = rw (lt-ltb 1 g l, length_pairs out held, ne_eqb held k h)

  -- g - 1 is the most that an unseen document may have
  pub goes_on_full : 1 < g → 0 < k → held ≡ k → ltb (pair_at out (k - 1)).count g ≡ goes_on k g (pairs_in out held)
  goes_on_full l some full =
      rw (lt-ltb 1 g l, length_pairs out held, eq-eqb held k full, get_or-pairs out held (k - 1) (omega arith)) (go (pair_at out (k - 1)).count (le_or_lt g (pair_at out (k - 1)).count))
    where
      go : (c : ℕ) → (g ≤ c) ⊎ (c < g) → ltb c g ≡ not (leb g c)
      go c (inl h) = rw (le-ltb c g h, le-leb g c h)
      go c (inr h) = rw (lt-ltb c g h, lt-leb g c h)

-- ---- steps

pub power_one : Power 1
power_one = record { exponent = 0; is = refl }

pub power_double : (g : ℕ) → Power g → Power (2 * g)
power_double g w = record { exponent = suc w.exponent; is = omega (arith, pow-suc 2 w.exponent, w.is) }

pub power_half : (g : ℕ) → 1 < g → Power g → (g ≡ 2 * (g / 2)) × Power (g / 2)
power_half g l w = go w.exponent w.is
  where
    go : (e : ℕ) → g ≡ 2 ^ e → (g ≡ 2 * (g / 2)) × Power (g / 2)
    go zero i = absurd (omega arith)
    go (suc e) i = let p = pow-suc 2 e in (omega arith, record { exponent = e; is = omega arith })

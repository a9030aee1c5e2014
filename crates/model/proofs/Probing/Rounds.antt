-- What holds after a round and within one, and how a probe, the end of a round and the stop move it.
use Prim.Native.Nat.{ℕ, suc, ◌+◌, ◌-◌, ◌*◌, ◌≤◌, ◌<◌}
use native.Mathlib.Omega.{arith}
use native.Mathlib.Nat.{zero-mul, suc-mul}
use mathlib.Core.Path.{◌≡◌, refl}
use mathlib.Core.Logic.{◌⊎◌, inl, inr}
use mathlib.Core.List.{List, [], ◌∷◌}
use mathlib.Core.Bool.{Bool, true, false, not}
use lib.ListN.{length, get_or}
use lib.Dec.{leb, ltb, eqb}
use borrow.Author.Tests.{ltb-false, leb-true, eqb-true, eq-eqb, not-false}
use Rattle.bits.proofs.Tests.{look, or_left, or_right, and_both, and_cases}
use Rattle.model.specs.Lists.{Within}
use Rattle.model.specs.Queries.{quantile, Pair, pair_of}
use Rattle.model.specs.TopK.{full_list}
use Rattle.model.specs.Probing.{enter, unseen, mark, State, probe, nobody, settled, Probed, Swept, goes_on}
use Rattle.model.proofs.Probing.Held.{held_start, held_new, held_all, held_stop}
use Rattle.model.proofs.Probing.Probed.{quantile-occurs, quantile_within, probed_count, probed_step}

-- ---- one probe

module _ (k : ℕ) (xs : List ℕ) (r : ℕ) (s : State) where
  pub probe_again : s.seen (quantile r xs) ≡ true → probe k xs r s ≡ s
  probe_again e = rw e

  pub probe_new : s.seen (quantile r xs) ≡ false
      → probe k xs r s ≡ record { seen = mark (quantile r xs) s.seen; candidates = enter k (pair_of xs (quantile r xs)) s.candidates }
  probe_new e = rw e

-- ---- rounds

-- in the round with step g, before rank r
pub record Sweeping (N k : ℕ) (xs : List ℕ) (g r : ℕ) (seen : ℕ → Bool) (candidates : List Pair) : Type 0 where
  pub before : Swept N k xs (2 * g) seen candidates
  pub turn : ℕ
  pub rank : suc r ≡ 2 * (turn * g) + g
  pub probed : Probed xs g r seen

-- nothing is probed, and the step is more than the size
pub swept_start : {N k : ℕ} {xs : List ℕ} {g : ℕ} → length xs < g → Swept N k xs g unseen []
swept_start {N} {k} {xs} {g} l = record { held = held_start N k xs; probed = λ c a m. absurd (omega arith) }

probed_mark : (xs : List ℕ) (g r : ℕ) (seen : ℕ → Bool) (d : ℕ) → Probed xs g r seen → Probed xs g r (mark d seen)
probed_mark xs g r seen d h c l m = or_right (eqb d (quantile (c * g + g - 1) xs)) (seen (quantile (c * g + g - 1) xs)) (h c l m)

-- at a rank of a document that is seen
sweeping_again : {N k : ℕ} {xs : List ℕ} {g : ℕ} → 0 < g → {seen : ℕ → Bool} {candidates : List Pair} (r : ℕ) → seen (quantile r xs) ≡ true
    → Sweeping N k xs g r seen candidates → Sweeping N k xs g (r + 2 * g) seen candidates
sweeping_again {N} {k} {xs} {g} pos {seen} r e i = record {
  before = i.before;
  turn = suc i.turn;
  rank = omega (arith, i.rank, suc-mul i.turn g);
  probed = probed_step xs g pos seen r i.turn i.rank i.before.probed i.probed e;
}

module _ {N k : ℕ} {xs : List ℕ} {g : ℕ} (pos : 0 < g) {seen : ℕ → Bool} {candidates : List Pair} where
  -- ---- a round

  pub sweeping_start : Swept N k xs (2 * g) seen candidates → Sweeping N k xs g (g - 1) seen candidates
  sweeping_start s = record { before = s; turn = 0; rank = omega (arith, zero-mul g); probed = λ c a m. absurd (omega arith) }

  -- at a rank of a new one
  sweeping_new : Within N xs → (r : ℕ) → r < length xs → seen (quantile r xs) ≡ false → Sweeping N k xs g r seen candidates
      → Sweeping N k xs g (r + 2 * g) (mark (quantile r xs) seen) (enter k (pair_of xs (quantile r xs)) candidates)
  sweeping_new w r l e i =
      let d = quantile r xs in
      sweeping_again pos r (or_left (eqb d d) (seen d) (eq-eqb d d refl)) (record {
        before = record {
          held = held_new N xs d (quantile_within N xs w r l) (quantile-occurs xs r l) seen e k candidates i.before.held;
          probed = probed_mark xs (2 * g) (length xs) seen d i.before.probed;
        };
        turn = i.turn;
        rank = i.rank;
        probed = probed_mark xs g r seen d i.probed;
      })

  -- past the last rank
  pub sweeping_end : (r : ℕ) → length xs ≤ r → Sweeping N k xs g r seen candidates → Swept N k xs g seen candidates
  sweeping_end r l i = record { held = i.before.held; probed = λ c a m. i.probed c (omega arith) m }

  -- ---- the stop

  pub swept_last : g ≡ 1 → Swept N k xs g seen candidates → candidates ≡ full_list N k xs
  swept_last e s = held_all N k xs seen candidates s.held (rw e at (probed_count xs g pos seen s.probed))

  pub swept_settled : settled k g candidates ≡ true → Swept N k xs g seen candidates → candidates ≡ full_list N k xs
  swept_settled t s =
      let b = and_both (eqb (length candidates) k) (leb g (get_or candidates (k - 1) nobody).count) t in
      let full = eqb-true (length candidates) k b.0 in
      let low = leb-true g (get_or candidates (k - 1) nobody).count b.1 in
      held_stop N k xs seen candidates s.held g (k - 1) (probed_count xs g pos seen s.probed) (some candidates full low) full low
    where
      some : (cs : List Pair) → length cs ≡ k → g ≤ (get_or cs (k - 1) nobody).count → k ≡ suc (k - 1)
      some [] f l = absurd (omega arith)
      some (c ∷ cs) f l = omega arith

  pub swept_stop : goes_on k g candidates ≡ false → Swept N k xs g seen candidates → candidates ≡ full_list N k xs
  swept_stop e s = go (and_cases (ltb 1 g) (not (settled k g candidates)) e)
    where
      go : (ltb 1 g ≡ false) ⊎ (not (settled k g candidates) ≡ false) → candidates ≡ full_list N k xs
      go (inl a) = swept_last (omega (arith, ltb-false 1 g a)) s
      go (inr b) = swept_settled (not-false (settled k g candidates) b) s

-- a probe
pub sweeping_probe : {N k : ℕ} {xs : List ℕ} {g : ℕ} → 0 < g → Within N xs → (r : ℕ) → r < length xs → (s : State)
    → Sweeping N k xs g r s.seen s.candidates → Sweeping N k xs g (r + 2 * g) (probe k xs r s).seen (probe k xs r s).candidates
sweeping_probe {N} {k} {xs} {g} pos within r l s i = go (look (s.seen (quantile r xs)))
  where
    go : (s.seen (quantile r xs) ≡ true) ⊎ (s.seen (quantile r xs) ≡ false)
        → Sweeping N k xs g (r + 2 * g) (probe k xs r s).seen (probe k xs r s).candidates
    go (inl e) = rw e (sweeping_again pos r e i)
    go (inr e) = rw e (sweeping_new pos within r l e i)

-- The check of all days, document after document.
use Prim.Native.Nat.{ℕ, ◌+◌, ◌*◌, ◌≤◌, ◌<◌}
use native.Mathlib.Omega.{arith}
use mathlib.Core.Path.{◌≡◌, refl, sym, ap, ◌∙◌}
use mathlib.Core.Logic.{◌⊎◌, inl, inr}
use mathlib.Core.List.{List}
use mathlib.Core.Bool.{true, false, true≢false}
use lib.ListN.{length}
use borrow.Author.Tests.{eq-eqb, ne_eqb}
use Rattle.bits.specs.Sequences.{all, below}
use Rattle.bits.proofs.Tests.{look, le_or_lt}
use Rattle.bits.proofs.Tally.{all-up_from, all-up_from-at}
use Rattle.model.specs.Calendar.{is_day}
use Rattle.model.specs.Dated.{pair_holds, days_hold}

-- there are just two days a document, the asked day is one, and the pairs below document d hold
pub record Checked (N : ℕ) (days : List ℕ) (day d : ℕ) : Type 0 where
  pub sized : length days ≡ 2 * N
  pub asked : is_day day ≡ true
  pub inside : d ≤ N
  pub passed : all (pair_holds days) (below d) ≡ true

module _ (N : ℕ) (days : List ℕ) (day : ℕ) where
  pub wrong-length : (length days ≡ 2 * N → ⊥) → false ≡ days_hold N days day
  unfolding days_hold
  wrong-length n = rw (ne_eqb (length days) (2 * N) n)

  pub wrong_day : length days ≡ 2 * N → is_day day ≡ false → false ≡ days_hold N days day
  unfolding days_hold
  wrong_day e f = rw (eq-eqb (length days) (2 * N) e, f)

module _ {N : ℕ} {days : List ℕ} {day : ℕ} where
  pub checked_first : length days ≡ 2 * N → is_day day ≡ true → Checked N days day 0
  checked_first e f = record { sized = e; asked = f; inside = omega arith; passed = refl }

  pub checked_next : {d : ℕ} → Checked N days day d → d < N → pair_holds days d ≡ true → Checked N days day (d + 1)
  checked_next {d} c l e = record {
    sized = c.sized;
    asked = c.asked;
    inside = omega arith;
    passed = all-up_from (pair_holds days) 0 (d + 1) (λ i a b. go i b (le_or_lt d i));
  }
    where
      go : (i : ℕ) → i < 0 + (d + 1) → (d ≤ i) ⊎ (i < d) → pair_holds days i ≡ true
      go i b (inl k) = let same : i ≡ d = omega arith in ap (pair_holds days) same ∙ e
      go i b (inr k) = all-up_from-at (pair_holds days) 0 d c.passed i (omega arith) (omega arith)

  pub wrong-pair : {d : ℕ} → Checked N days day d → d < N → pair_holds days d ≡ false → false ≡ days_hold N days day
  unfolding days_hold
  wrong-pair {d} c l e = rw (eq-eqb (length days) (2 * N) c.sized, c.asked) (go (look (all (pair_holds days) (below N))))
    where
      go : (all (pair_holds days) (below N) ≡ true) ⊎ (all (pair_holds days) (below N) ≡ false) → false ≡ all (pair_holds days) (below N)
      go (inl f) = absurd (true≢false (sym (all-up_from-at (pair_holds days) 0 N f d (omega arith) (omega arith)) ∙ e))
      go (inr f) = sym f

  pub checked_all : {d : ℕ} → Checked N days day d → N ≤ d → true ≡ days_hold N days day
  unfolding days_hold
  checked_all {d} c l =
      let q = c.inside in
      let same : N ≡ d = omega arith in
      rw (eq-eqb (length days) (2 * N) c.sized, c.asked) (sym (ap (λ (i : ℕ). all (pair_holds days) (below i)) same ∙ c.passed))

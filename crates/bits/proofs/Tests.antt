-- Tests on numbers and truth values: what they answer, and what an answer says.
use Prim.Native.Nat.{ℕ, suc, ◌+◌, ◌≤◌, ◌<◌}
use native.Mathlib.Omega.{arith}
use native.Mathlib.Decide.{dec_le, ℕ_discrete}
use native.Mathlib.Nat.{eq-or-lt_of_le}
use mathlib.Core.Path.{◌≡◌, refl, sym, ap, ◌∙◌}
use mathlib.Core.Logic.{◌⊎◌, inl, inr}
use mathlib.Core.Bool.{Bool, true, false, not, ◌&&◌, ◌||◌, true≢false}
use lib.Dec.{ltb, eqb}
use borrow.Author.Tests.{lt-ltb, le-ltb, eq-eqb, ne_eqb, ltb-true}
use Rattle.bits.specs.Sequences.{bit}

-- a truth value with its equation
pub look : (b : Bool) → (b ≡ true) ⊎ (b ≡ false)
look true = inl refl
look false = inr refl

pub bit_le : (b : Bool) → bit b ≤ 1
bit_le true = omega arith
bit_le false = omega arith

pub bit_not_zero : (b : Bool) → bit (not b) ≡ 0 → b ≡ true
bit_not_zero true e = refl
bit_not_zero false e = absurd (omega arith)

pub not_bit : (b : Bool) → b ≡ true → bit (not b) ≡ 0
not_bit b e = rw e

-- a test that is denied
pub not_true : (b : Bool) → not b ≡ true → b ≡ false
not_true true e = sym e
not_true false e = refl

pub not_false : (b : Bool) → not b ≡ false → b ≡ true
not_false true e = refl
not_false false e = sym e

pub or_cases : (a b : Bool) → (a || b) ≡ true → (a ≡ true) ⊎ (b ≡ true)
or_cases true b e = inl refl
or_cases false b e = inr e

pub or_left : (a b : Bool) → a ≡ true → (a || b) ≡ true
or_left a b e = rw e

pub or_right : (a b : Bool) → b ≡ true → (a || b) ≡ true
or_right true b e = refl
or_right false b e = e

pub or_neither : (a b : Bool) → (a || b) ≡ false → (a ≡ false) × (b ≡ false)
or_neither true b e = absurd (true≢false e)
or_neither false b e = (refl, e)

pub and_both : (a b : Bool) → (a && b) ≡ true → (a ≡ true) × (b ≡ true)
and_both true b e = (refl, e)
and_both false b e = absurd (true≢false (sym e))

pub both_and : (a b : Bool) → a ≡ true → b ≡ true → (a && b) ≡ true
both_and a b e f = rw (e, f)

pub and_cases : (a b : Bool) → (a && b) ≡ false → (a ≡ false) ⊎ (b ≡ false)
and_cases true b e = inr e
and_cases false b e = inl refl

pub bit_eq : (v x : ℕ) → v ≡ x → bit (eqb v x) ≡ 1
bit_eq v x e = ap bit (eq-eqb v x e)

pub bit_ne : (v x : ℕ) → (v ≡ x → ⊥) → bit (eqb v x) ≡ 0
bit_ne v x e = ap bit (ne_eqb v x e)

pub le_or_lt : (a b : ℕ) → (a ≤ b) ⊎ (b < a)
le_or_lt a b = go (dec_le a b)
  where
    go : Dec (a ≤ b) → (a ≤ b) ⊎ (b < a)
    go (yes h) = inl h
    go (no h) = inr (omega arith)

-- which of two numbers is the greater
pub data Cmp (a b : ℕ) : Type 0 where
  less : a < b → Cmp a b
  same : a ≡ b → Cmp a b
  more : b < a → Cmp a b

pub cmp : (a b : ℕ) → Cmp a b
cmp a b = go (dec_le a b)
  where
    pick : (a ≡ b) ⊎ (a < b) → Cmp a b
    pick (inl e) = same e
    pick (inr l) = less l

    go : Dec (a ≤ b) → Cmp a b
    go (yes h) = pick (eq-or-lt_of_le h)
    go (no h) = more (omega arith)

-- two tests that say the same
pub eqb_iff : (a b c d : ℕ) → (a ≡ b → c ≡ d) → (c ≡ d → a ≡ b) → eqb a b ≡ eqb c d
eqb_iff a b c d f g = go (ℕ_discrete a b)
  where
    go : Dec (a ≡ b) → eqb a b ≡ eqb c d
    go (yes e) = eq-eqb a b e ∙ sym (eq-eqb c d (f e))
    go (no h) = ne_eqb a b h ∙ sym (ne_eqb c d (λ e. h (g e)))

pub eqb_swap : (a b : ℕ) → eqb a b ≡ eqb b a
eqb_swap a b = eqb_iff a b b a sym sym

pub ltb_iff : (a b c d : ℕ) → (a < b → c < d) → (c < d → a < b) → ltb a b ≡ ltb c d
ltb_iff a b c d f g = go (look (ltb a b)) (look (ltb c d))
  where
    go : (ltb a b ≡ true) ⊎ (ltb a b ≡ false) → (ltb c d ≡ true) ⊎ (ltb c d ≡ false) → ltb a b ≡ ltb c d
    go (inl e) r = e ∙ sym (lt-ltb c d (f (ltb-true a b e)))
    go (inr e) (inl k) = lt-ltb a b (g (ltb-true c d k)) ∙ sym k
    go (inr e) (inr k) = e ∙ sym k

-- below the next number: below this one, or this one
pub bit_ltb_suc : (k q : ℕ) → bit (ltb k (suc q)) ≡ bit (ltb k q) + bit (eqb k q)
bit_ltb_suc k q = go (cmp k q)
  where
    go : Cmp k q → bit (ltb k (suc q)) ≡ bit (ltb k q) + bit (eqb k q)
    go (less h) = rw (lt-ltb k (suc q) (omega arith), lt-ltb k q h, ne_eqb k q (omega arith))
    go (same h) = rw (lt-ltb k (suc q) (omega arith), le-ltb k q (omega arith), eq-eqb k q h)
    go (more h) = rw (le-ltb k (suc q) (omega arith), le-ltb k q (omega arith), ne_eqb k q (omega arith))

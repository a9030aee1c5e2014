-- Whether an element passes a test: for loops that look for one, as long as none was found the rest has one just where the whole has; and where it stands.
use Prim.Native.Nat.{ℕ, zero, suc, ◌+◌, ◌≤◌, ◌<◌, suc-le-suc}
use native.Mathlib.Omega.{arith}
use native.Mathlib.Nat.{le_of_suc-le-suc, not-suc-le-zero}
use native.Mathlib.Numerals.{add-one}
use mathlib.Core.Path.{◌≡◌, refl, sym, ap, ◌∙◌}
use mathlib.Core.Logic.{◌⊎◌, inl, inr}
use mathlib.Core.List.{List, [], ◌∷◌, map}
use mathlib.Core.Bool.{Bool, true, false, cond, ◌&&◌, ◌||◌, true≢false}
use lib.ListN.{length, get_or, drop, drop_of_length-le}
use lib.Seq.{drop-cons}
use Rattle.bits.proofs.Tests.{look, or_left, or_right}
use Rattle.model.specs.Lists.{keep, any}

module _ (p : ℕ → Bool) (ts : List ℕ) (i : ℕ) (same : any p (drop i ts) ≡ any p ts) where
  any_step : (b : Bool) → i < length ts → p (get_or ts i 0) ≡ b → (b || any p (drop (suc i) ts)) ≡ any p ts
  any_step b l e = ap (λ (x : Bool). x || any p (drop (suc i) ts)) (sym e) ∙ ap (any p) (sym (drop-cons ts i 0 l)) ∙ same

  pub any_next : i < length ts → p (get_or ts i 0) ≡ false → any p (drop (i + 1) ts) ≡ any p ts
  any_next l e = rw add-one (any_step false l e)

  pub any_found : i < length ts → p (get_or ts i 0) ≡ true → true ≡ any p ts
  any_found l e = any_step true l e

  pub any-end : length ts ≤ i → false ≡ any p ts
  any-end l = ap (any p) (sym (drop_of_length-le ts l)) ∙ same

-- ---- where such an element stands

pub record Witness (p : ℕ → Bool) (xs : List ℕ) : Type 0 where
  pub place : ℕ
  pub inside : place < length xs
  pub passes : p (get_or xs place 0) ≡ true

pub any_place : (p : ℕ → Bool) (xs : List ℕ) → any p xs ≡ true → Witness p xs
any_place p [] e = absurd (true≢false (sym e))
any_place p (x ∷ xs) e = go (look (p x)) (any_place p xs)
  where
    go : (p x ≡ true) ⊎ (p x ≡ false) → (any p xs ≡ true → Witness p xs) → Witness p (x ∷ xs)
    go (inl t) rest = record { place = 0; inside = omega arith; passes = t }
    go (inr t) rest =
        let f = rest (sym (ap (λ (b : Bool). b || any p xs) t) ∙ e) in
        record { place = suc f.place; inside = suc-le-suc f.inside; passes = f.passes }

pub any_at : (p : ℕ → Bool) (xs : List ℕ) (i : ℕ) → i < length xs → p (get_or xs i 0) ≡ true → any p xs ≡ true
any_at p [] i l e = absurd (not-suc-le-zero l)
any_at p (x ∷ xs) zero l e = or_left (p x) (any p xs) e
any_at p (x ∷ xs) (suc i) l e = or_right (p x) (any p xs) (any_at p xs i (le_of_suc-le-suc l) e)

-- among the elements that pass another test
pub any-keep : (p q : ℕ → Bool) (xs : List ℕ) → any p (keep q xs) ≡ any (λ x. q x && p x) xs
any-keep p q [] = refl
any-keep p q (x ∷ xs) = go (q x) (any-keep p q xs)
  where
    go : (b : Bool) → any p (keep q xs) ≡ any (λ y. q y && p y) xs → any p (cond b (x ∷ keep q xs) (keep q xs)) ≡ ((b && p x) || any (λ y. q y && p y) xs)
    go true e = ap (λ (r : Bool). p x || r) e
    go false e = e

pub any-map : {A B : Type 0} (p : B → Bool) (f : A → B) (xs : List A) → any p (map f xs) ≡ any (λ x. p (f x)) xs
any-map p f [] = refl
any-map p f (x ∷ xs) = ap (λ (b : Bool). p (f x) || b) (any-map p f xs)

-- Laws of `tally`, `all`, `up_from` and of the ranks and occurrences that are made of them.
use Prim.Native.Nat.{ℕ, zero, suc, ◌+◌, ◌≤◌, ◌<◌}
use native.Mathlib.Omega.{arith}
use native.Mathlib.Decide.{ℕ_discrete}
use native.Mathlib.Nat.{zero-add, add-zero, suc-add, add-suc, not-suc-le-zero, le_of_suc-le-suc}
use mathlib.Core.Path.{◌≡◌, refl, sym, ap, ◌∙◌, subst, fun_ext}
use mathlib.Core.Logic.{◌⊎◌, inl, inr}
use mathlib.Core.List.{List, [], ◌∷◌, ◌++◌, map}
use mathlib.Core.Bool.{Bool, true, false}
use lib.ListN.{length, get_or, take, drop, take-append-drop}
use lib.Seq.{take-suc, take-add}
use Rattle.bits.specs.Sequences.{bit, tally, all, up_from, below}
use Rattle.bits.proofs.Tests.{look, and_both, both_and}

module _ {A : Type 0} where
  pub tally-append : (p : A → Bool) (xs ys : List A) → tally p (xs ++ ys) ≡ tally p xs + tally p ys
  tally-append p [] ys = omega arith
  tally-append p (x ∷ xs) ys = omega (arith, tally-append p xs ys)

  pub tally_same : (p q : A → Bool) → ((x : A) → p x ≡ q x) → (xs : List A) → tally p xs ≡ tally q xs
  tally_same p q h xs = ap (λ (t : A → Bool). tally t xs) (fun_ext h)

  pub tally-sum : (p q r : A → Bool) → ((x : A) → bit (p x) ≡ bit (q x) + bit (r x)) → (xs : List A) → tally p xs ≡ tally q xs + tally r xs
  tally-sum p q r h [] = refl
  tally-sum p q r h (x ∷ xs) = omega (arith, h x, tally-sum p q r h xs)

  pub tally_le : (p q : A → Bool) → ((x : A) → p x ≡ true → q x ≡ true) → (xs : List A) → tally p xs ≤ tally q xs
  tally_le p q h [] = omega arith
  tally_le p q h (x ∷ xs) = go (look (p x)) (tally_le p q h xs)
    where
      go : (p x ≡ true) ⊎ (p x ≡ false) → tally p xs ≤ tally q xs → bit (p x) + tally p xs ≤ bit (q x) + tally q xs
      go (inl e) l = rw (e, h x e) (omega arith)
      go (inr e) l = rw e (omega arith)

  pub tally_none : (p : A → Bool) → ((x : A) → p x ≡ false) → (xs : List A) → tally p xs ≡ 0
  tally_none p h [] = refl
  tally_none p h (x ∷ xs) = omega (arith, ap bit (h x), tally_none p h xs)

  pub tally_true : (xs : List A) → tally (λ x. true) xs ≡ length xs
  tally_true [] = refl
  tally_true (x ∷ xs) = omega (arith, tally_true xs)

  pub tally_le_length : (p : A → Bool) (xs : List A) → tally p xs ≤ length xs
  tally_le_length p xs = omega (arith, tally_le p (λ x. true) (λ x e. refl) xs, tally_true xs)

  pub tally-take-drop : (p : A → Bool) (a : ℕ) (xs : List A) → tally p (take a xs) + tally p (drop a xs) ≡ tally p xs
  tally-take-drop p a xs = sym (tally-append p (take a xs) (drop a xs)) ∙ ap (tally p) (take-append-drop a xs)

  pub tally-take_le : (p : A → Bool) (a : ℕ) (xs : List A) → tally p (take a xs) ≤ tally p xs
  tally-take_le p a xs = omega (arith, tally-take-drop p a xs)

  pub tally-take-add : (p : A → Bool) (a b : ℕ) (xs : List A) → tally p (take (a + b) xs) ≡ tally p (take a xs) + tally p (take b (drop a xs))
  tally-take-add p a b xs = ap (tally p) (take-add a b xs) ∙ tally-append p (take a xs) (take b (drop a xs))

  pub tally-take-suc : (p : A → Bool) (xs : List A) (i : ℕ) (d : A) → i < length xs → tally p (take (suc i) xs) ≡ tally p (take i xs) + bit (p (get_or xs i d))
  tally-take-suc p xs i d l =
      ap (tally p) (take-suc xs i d l) ∙ tally-append p (take i xs) (get_or xs i d ∷ []) ∙ omega arith

  pub tally-map : {B : Type 0} (p : B → Bool) (f : A → B) (xs : List A) → tally p (map f xs) ≡ tally (λ x. p (f x)) xs
  tally-map p f [] = refl
  tally-map p f (x ∷ xs) = omega (arith, tally-map p f xs)

  pub map-append : {B : Type 0} (f : A → B) (xs ys : List A) → map f (xs ++ ys) ≡ map f xs ++ map f ys
  map-append f [] ys = refl
  map-append {B} f (x ∷ xs) ys = ap (λ (l : List B). f x ∷ l) (map-append f xs ys)

  pub all_append : (p : A → Bool) (xs ys : List A) → all p xs ≡ true → all p ys ≡ true → all p (xs ++ ys) ≡ true
  all_append p [] ys e f = f
  all_append p (x ∷ xs) ys e f =
      let t = and_both (p x) (all p xs) e in
      both_and (p x) (all p (xs ++ ys)) t.0 (all_append p xs ys t.1 f)

  pub all-at : (p : A → Bool) (xs : List A) (i : ℕ) (d : A) → all p xs ≡ true → i < length xs → p (get_or xs i d) ≡ true
  all-at p [] i d e l = absurd (not-suc-le-zero l)
  all-at p (x ∷ xs) zero d e l = (and_both (p x) (all p xs) e).0
  all-at p (x ∷ xs) (suc i) d e l = all-at p xs i d (and_both (p x) (all p xs) e).1 (le_of_suc-le-suc l)

  pub all_imply : (p q : A → Bool) → ((x : A) → p x ≡ true → q x ≡ true) → (xs : List A) → all p xs ≡ true → all q xs ≡ true
  all_imply p q h [] e = refl
  all_imply p q h (x ∷ xs) e =
      let t = and_both (p x) (all p xs) e in
      both_and (q x) (all q xs) (h x t.0) (all_imply p q h xs t.1)

pub up_from-append : (s a b : ℕ) → up_from s (a + b) ≡ up_from s a ++ up_from (s + a) b
up_from-append s zero b = rw (zero-add b, add-zero s)
up_from-append s (suc a) b = rw (suc-add a b, add-suc s a, ← suc-add s a) (ap (λ r. s ∷ r) (up_from-append (suc s) a b))

pub up_from_snoc : (s n : ℕ) → up_from s (suc n) ≡ up_from s n ++ ((s + n) ∷ [])
up_from_snoc s zero = ap (λ (x : ℕ). x ∷ []) (omega arith)
up_from_snoc s (suc n) =
    let e : suc s + n ≡ s + suc n = omega arith in
    ap (λ (l : List ℕ). s ∷ l) (rw e at (up_from_snoc (suc s) n))

pub length-up_from : (s n : ℕ) → length (up_from s n) ≡ n
length-up_from s zero = refl
length-up_from s (suc n) = ap suc (length-up_from (suc s) n)

pub get_or-up_from : (s n i d : ℕ) → i < n → get_or (up_from s n) i d ≡ s + i
get_or-up_from s zero i d l = absurd (not-suc-le-zero l)
get_or-up_from s (suc n) zero d l = sym (add-zero s)
get_or-up_from s (suc n) (suc i) d l = get_or-up_from (suc s) n i d (le_of_suc-le-suc l) ∙ omega arith

-- all of the numbers from s upward pass exactly where each of them does
pub all-up_from : (p : ℕ → Bool) (s n : ℕ) → ((i : ℕ) → s ≤ i → i < s + n → p i ≡ true) → all p (up_from s n) ≡ true
all-up_from p s zero h = refl
all-up_from p s (suc n) h = both_and (p s) (all p (up_from (suc s) n)) (h s (omega arith) (omega arith)) (all-up_from p (suc s) n (λ i a b. h i (omega arith) (omega arith)))

pub all-up_from-at : (p : ℕ → Bool) (s n : ℕ) → all p (up_from s n) ≡ true → (i : ℕ) → s ≤ i → i < s + n → p i ≡ true
all-up_from-at p s zero e i a b = absurd (omega arith)
all-up_from-at p s (suc n) e i a b = go (and_both (p s) (all p (up_from (suc s) n)) e) (all-up_from-at p (suc s) n) (ℕ_discrete s i)
  where
    go : (p s ≡ true) × (all p (up_from (suc s) n) ≡ true)
        → (all p (up_from (suc s) n) ≡ true → (i : ℕ) → suc s ≤ i → i < suc s + n → p i ≡ true) → Dec (s ≡ i) → p i ≡ true
    go t ih (yes q) = subst (λ (j : ℕ). p j ≡ true) q t.0
    go t ih (no q) = ih t.1 i (omega arith) (omega arith)

-- what a rule yields at the numbers below n
pub get_or-map-below : {A : Type 0} (f : ℕ → A) (n i : ℕ) (d : A) → i < n → get_or (map f (below n)) i d ≡ f i
get_or-map-below {A} f n i d l = go 0 n i l ∙ ap f (zero-add i)
  where
    go : (s n i : ℕ) → i < n → get_or (map f (up_from s n)) i d ≡ f (s + i)
    go s zero i l = absurd (not-suc-le-zero l)
    go s (suc n) zero l = ap f (sym (add-zero s))
    go s (suc n) (suc i) l = go (suc s) n i (le_of_suc-le-suc l) ∙ ap f (omega arith)

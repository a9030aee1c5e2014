-- Laws of `keep`, `part`, `any`, `Within`, and of maps and joins of lists.
use Prim.Native.Nat.{ℕ, zero, suc, ◌+◌, ◌-◌, ◌≤◌, ◌<◌, zero-le, suc-le-suc}
use native.Mathlib.Omega.{arith}
use native.Mathlib.Nat.{le_of_suc-le-suc, not-suc-le-zero, zero-add}
use native.Mathlib.Decide.{dec_le}
use mathlib.Core.Path.{◌≡◌, refl, sym, ap, ◌∙◌}
use mathlib.Core.List.{List, [], ◌∷◌, ◌++◌, map, append_assoc}
use mathlib.Core.Bool.{Bool, true, false, cond, ◌&&◌, ◌||◌}
use lib.ListN.{length, get_or, take, drop, length-append, length-drop, take-append-drop}
use lib.Seq.{length-take-le, take-append_seam, split_at, get_or-append_seam}
use lib.Dec.{leb, ltb}
use borrow.Author.Tests.{lt-ltb, le-ltb, le-leb, lt-leb}
use Rattle.bits.specs.Sequences.{bit, tally}
use Rattle.bits.specs.Bits.{concat}
use Rattle.bits.proofs.Tests.{ltb_iff}
use Rattle.bits.proofs.Tally.{tally-take-add, tally-sum, tally_true}
pub use Rattle.bits.proofs.Tally.{map-append}
use Rattle.model.specs.Lists.{keep, any, part, Within}

-- ---- maps and joins

module _ {A B : Type 0} where
  pub map-take : (f : A → B) (n : ℕ) (xs : List A) → take n (map f xs) ≡ map f (take n xs)
  map-take f zero xs = refl
  map-take f (suc n) [] = refl
  map-take f (suc n) (x ∷ xs) = ap (λ (r : List B). f x ∷ r) (map-take f n xs)

  -- inside the list whatever stands past its end
  pub get_or-map : (f : A → B) (l : List A) (n : ℕ) (d : A) (e : B) → n < length l → get_or (map f l) n e ≡ f (get_or l n d)
  get_or-map f [] n d e h = absurd (not-suc-le-zero h)
  get_or-map f (x ∷ xs) zero d e h = refl
  get_or-map f (x ∷ xs) (suc n) d e h = get_or-map f xs n d e (le_of_suc-le-suc h)

module _ {A : Type 0} where
  pub concat-append : (xs ys : List (List A)) → concat (xs ++ ys) ≡ concat xs ++ concat ys
  concat-append [] ys = refl
  concat-append (x ∷ xs) ys = ap (λ (r : List A). x ++ r) (concat-append xs ys) ∙ sym (append_assoc x (concat xs) (concat ys))

  -- ---- keep

  pub keep_append : (p : A → Bool) (xs ys : List A) → keep p (xs ++ ys) ≡ keep p xs ++ keep p ys
  keep_append p [] ys = refl
  keep_append p (x ∷ xs) ys = go (p x) (keep_append p xs ys)
    where
      go : (b : Bool) → keep p (xs ++ ys) ≡ keep p xs ++ keep p ys
          → cond b (x ∷ keep p (xs ++ ys)) (keep p (xs ++ ys)) ≡ cond b (x ∷ keep p xs) (keep p xs) ++ keep p ys
      go true ih = ap (λ (r : List A). x ∷ r) ih
      go false ih = ih

  pub keep-keep : (p q : A → Bool) (xs : List A) → keep p (keep q xs) ≡ keep (λ x. q x && p x) xs
  keep-keep p q [] = refl
  keep-keep p q (x ∷ xs) = go (q x) (keep-keep p q xs)
    where
      go : (b : Bool) → keep p (keep q xs) ≡ keep (λ y. q y && p y) xs
          → keep p (cond b (x ∷ keep q xs) (keep q xs)) ≡ cond (b && p x) (x ∷ keep (λ y. q y && p y) xs) (keep (λ y. q y && p y) xs)
      go true ih = ap (λ (r : List A). cond (p x) (x ∷ r) r) ih
      go false ih = ih

  pub keep-map : {B : Type 0} (p : B → Bool) (f : A → B) (xs : List A) → keep p (map f xs) ≡ map f (keep (λ x. p (f x)) xs)
  keep-map {B} p f [] = refl
  keep-map {B} p f (x ∷ xs) = go (p (f x)) (keep-map p f xs)
    where
      go : (b : Bool) → keep p (map f xs) ≡ map f (keep (λ y. p (f y)) xs)
          → cond b (f x ∷ keep p (map f xs)) (keep p (map f xs)) ≡ map f (cond b (x ∷ keep (λ y. p (f y)) xs) (keep (λ y. p (f y)) xs))
      go true ih = ap (λ (r : List B). f x ∷ r) ih
      go false ih = ih

  pub length-keep : (p : A → Bool) (xs : List A) → length (keep p xs) ≡ tally p xs
  length-keep p [] = refl
  length-keep p (x ∷ xs) = go (p x) (length-keep p xs)
    where
      go : (b : Bool) → length (keep p xs) ≡ tally p xs → length (cond b (x ∷ keep p xs) (keep p xs)) ≡ bit b + tally p xs
      go true ih = omega arith
      go false ih = omega arith

  pub tally-keep : (p q : A → Bool) (xs : List A) → tally p (keep q xs) ≡ tally (λ x. q x && p x) xs
  tally-keep p q [] = refl
  tally-keep p q (x ∷ xs) = go (q x) (tally-keep p q xs)
    where
      go : (b : Bool) → tally p (keep q xs) ≡ tally (λ y. q y && p y) xs
          → tally p (cond b (x ∷ keep q xs) (keep q xs)) ≡ bit (b && p x) + tally (λ y. q y && p y) xs
      go true ih = omega arith
      go false ih = omega arith

  -- the first entries that pass, by counting them
  pub keep-take : (p : A → Bool) (a : ℕ) (xs : List A) → take (tally p (take a xs)) (keep p xs) ≡ keep p (take a xs)
  keep-take p a xs =
      ap (λ (l : List A). take (tally p (take a xs)) l) (ap (keep p) (sym (take-append-drop a xs)) ∙ keep_append p (take a xs) (drop a xs))
      ∙ ap (λ (n : ℕ). take n (keep p (take a xs) ++ keep p (drop a xs))) (sym (length-keep p (take a xs)))
      ∙ take-append_seam (keep p (take a xs)) (keep p (drop a xs))

  -- the entry i, if it passes, stands among those that pass after those before it
  keep_split_at : (p : A → Bool) (xs : List A) (i : ℕ) (d : A) → i < length xs → p (get_or xs i d) ≡ true
      → keep p xs ≡ keep p (take i xs) ++ (get_or xs i d ∷ keep p (drop (suc i) xs))
  keep_split_at p xs i d h e =
      ap (keep p) (split_at xs i d h) ∙ keep_append p (take i xs) (get_or xs i d ∷ drop (suc i) xs)
      ∙ ap (λ (b : Bool). keep p (take i xs) ++ cond b (get_or xs i d ∷ keep p (drop (suc i) xs)) (keep p (drop (suc i) xs))) e

  pub keep_at : (p : A → Bool) (xs : List A) (i : ℕ) (d : A) → i < length xs → p (get_or xs i d) ≡ true
      → get_or (keep p xs) (tally p (take i xs)) d ≡ get_or xs i d
  keep_at p xs i d h e =
      ap (λ (l : List A). get_or l (tally p (take i xs)) d) (keep_split_at p xs i d h e)
      ∙ ap (λ (n : ℕ). get_or (keep p (take i xs) ++ (get_or xs i d ∷ keep p (drop (suc i) xs))) n d) (sym (length-keep p (take i xs)))
      ∙ get_or-append_seam (keep p (take i xs)) (get_or xs i d) (keep p (drop (suc i) xs)) d

  pub tally-take_lt : (p : A → Bool) (xs : List A) (i : ℕ) (d : A) → i < length xs → p (get_or xs i d) ≡ true → tally p (take i xs) < tally p xs
  tally-take_lt p xs i d h e =
      omega (
        arith,
        ap length (keep_split_at p xs i d h e),
        length-append (keep p (take i xs)) (get_or xs i d ∷ keep p (drop (suc i) xs)),
        length-keep p xs,
        length-keep p (take i xs),
      )

-- ---- part

-- a part, as the difference of two front parts
pub tally-part : (p : ℕ → Bool) (a b : ℕ) (xs : List ℕ) → a ≤ b → tally p (take b xs) ≡ tally p (take a xs) + tally p (part a b xs)
tally-part p a b xs h =
    let e : a + (b - a) ≡ b = omega arith in
    ap (λ (n : ℕ). tally p (take n xs)) (sym e) ∙ tally-take-add p a (b - a) xs

pub length_part : (a b : ℕ) (xs : List ℕ) → b ≤ length xs → length (part a b xs) ≡ b - a
length_part a b xs l = length-take-le (b - a) (drop a xs) (rw length-drop (omega arith))

-- ---- Within

pub within_take : (n a : ℕ) (xs : List ℕ) → Within n xs → Within n (take a xs)
within_take n zero xs w = tt
within_take n (suc a) [] w = tt
within_take n (suc a) (x ∷ xs) w = (w.0, within_take n a xs w.1)

pub within_drop : (n a : ℕ) (xs : List ℕ) → Within n xs → Within n (drop a xs)
within_drop n zero xs w = w
within_drop n (suc a) [] w = tt
within_drop n (suc a) (x ∷ xs) w = within_drop n a xs w.1

pub within_part : (n a b : ℕ) (xs : List ℕ) → Within n xs → Within n (part a b xs)
within_part n a b xs w = within_take n (b - a) (drop a xs) (within_drop n a xs w)

pub within_keep : (p : ℕ → Bool) (n : ℕ) (xs : List ℕ) → Within n xs → Within n (keep p xs)
within_keep p n [] w = tt
within_keep p n (x ∷ xs) w = go (p x) (within_keep p n xs w.1)
  where
    go : (b : Bool) → Within n (keep p xs) → Within n (cond b (x ∷ keep p xs) (keep p xs))
    go true i = (w.0, i)
    go false i = i

pub within_append : (n : ℕ) (xs ys : List ℕ) → Within n xs → Within n ys → Within n (xs ++ ys)
within_append n [] ys w v = v
within_append n (x ∷ xs) ys w v = (w.0, within_append n xs ys w.1 v)

pub within_at : (n : ℕ) (xs : List ℕ) (i : ℕ) → Within n xs → i < length xs → get_or xs i 0 < n
within_at n [] i w h = absurd (not-suc-le-zero h)
within_at n (x ∷ xs) zero w h = w.0
within_at n (x ∷ xs) (suc i) w h = within_at n xs i w.1 (le_of_suc-le-suc h)

pub within_of : (n : ℕ) (xs : List ℕ) → ((i : ℕ) → i < length xs → get_or xs i 0 < n) → Within n xs
within_of n [] f = tt
within_of n (x ∷ xs) f = (f 0 (suc-le-suc zero-le), within_of n xs (λ i h. f (suc i) (suc-le-suc h)))

pub within_le : (m n : ℕ) → m ≤ n → (xs : List ℕ) → Within m xs → Within n xs
within_le m n h [] w = tt
within_le m n h (x ∷ xs) w = (let l = w.0 in omega arith, within_le m n h xs w.1)

-- where all numbers below n pass
pub tally_within : (p : ℕ → Bool) (n : ℕ) → ((x : ℕ) → x < n → p x ≡ true) → (xs : List ℕ) → Within n xs → tally p xs ≡ length xs
tally_within p n h [] w = refl
tally_within p n h (x ∷ xs) w = omega (arith, ap bit (h x w.0), tally_within p n h xs w.1)

pub keep_within : (p : ℕ → Bool) (n : ℕ) → ((x : ℕ) → x < n → p x ≡ true) → (xs : List ℕ) → Within n xs → keep p xs ≡ xs
keep_within p n h [] w = refl
keep_within p n h (x ∷ xs) w = rw (h x w.0) (ap (λ (r : List ℕ). x ∷ r) (keep_within p n h xs w.1))

-- ---- at or above a value

pub any-tally : (p : ℕ → Bool) (xs : List ℕ) → any p xs ≡ ltb 0 (tally p xs)
any-tally p [] = refl
any-tally p (x ∷ xs) = go (p x) (any-tally p xs)
  where
    go : (c : Bool) → any p xs ≡ ltb 0 (tally p xs) → (c || any p xs) ≡ ltb 0 (bit c + tally p xs)
    go true ih = sym (lt-ltb 0 (1 + tally p xs) (omega arith))
    go false ih = rw zero-add ih

pub any_append : (p : ℕ → Bool) (xs ys : List ℕ) → any p (xs ++ ys) ≡ (any p xs || any p ys)
any_append p [] ys = refl
any_append p (x ∷ xs) ys = go (p x) (any_append p xs ys)
  where
    go : (c : Bool) → any p (xs ++ ys) ≡ (any p xs || any p ys) → (c || any p (xs ++ ys)) ≡ ((c || any p xs) || any p ys)
    go true ih = refl
    go false ih = ih

-- those below v and those at or above it are all
pub tally-below_above : (v : ℕ) (xs : List ℕ) → tally (λ x. ltb x v) xs + tally (leb v) xs ≡ length xs
tally-below_above v xs = sym (tally-sum (λ x. true) (λ x. ltb x v) (leb v) (λ x. go x (dec_le v x)) xs) ∙ tally_true xs
  where
    go : (x : ℕ) → Dec (v ≤ x) → 1 ≡ bit (ltb x v) + bit (leb v x)
    go x (yes l) = rw (le-ltb x v l, le-leb v x l)
    go x (no l) = let m : x < v = omega arith in rw (lt-ltb x v m, lt-leb v x m)

-- some entry is v or more exactly where not all are below v
pub any_leb : (v : ℕ) (xs : List ℕ) → any (leb v) xs ≡ ltb (tally (λ x. ltb x v) xs) (length xs)
any_leb v xs =
    any-tally (leb v) xs
    ∙ ltb_iff 0 (tally (leb v) xs) (tally (λ x. ltb x v) xs) (length xs) (λ l. omega (arith, tally-below_above v xs)) (λ l. omega (arith, tally-below_above v xs))

-- The recursion law of the rows: the first row holds the top bits, and each later row is that of the low entries and then that of the high ones.
use Prim.Native.Nat.{ℕ, zero, suc, ◌+◌, ◌-◌, ◌*◌, ◌/◌, ◌%◌, ◌^◌, ◌≤◌, ◌<◌}
use mathlib.Core.Path.{◌≡◌, refl, sym, ap, ap₂, ◌∙◌, fun_ext}
use mathlib.Core.List.{List, ◌++◌, map, map-map, append-nil}
use mathlib.Core.Bool.{Bool, true, false, ◌&&◌}
use native.Mathlib.Nat.{zero-add, add-zero, add-suc, suc-sub-suc, le_of_lt, div-lt_iff_lt-mul, le-div_iff_mul-le, mul-add-div_right, two-pow-succ}
use native.Mathlib.Omega.{arith}
use native.Mathlib.Decide.{ℕ_discrete}
use lib.Pow.{pow_pos, pow-add}
use lib.Dec.{leb, ltb, eqb}
use borrow.Author.Tests.{lt-ltb, le-leb, eq-eqb, ne_eqb}
use Rattle.bits.proofs.Tests.{eqb_iff}
use Rattle.model.specs.Lists.{keep, Within}
use Rattle.model.specs.Rows.{row}
use Rattle.model.specs.Walk.{key}
use Rattle.model.proofs.Lists.{map-append, keep-keep, keep-map, keep_within}
use Rattle.model.proofs.Wavelet.Groups.{groups_from, groups_add}
use Rattle.model.proofs.Wavelet.Rows.{key-root}

-- ---- groups of kept, mapped and shifted entries

-- entries that fail a test may go, if all in these groups pass it
groups_kept : (k : ℕ → ℕ) (t : ℕ → Bool) (xs : List ℕ) (s n : ℕ) → ((v : ℕ) → s ≤ k v → k v < s + n → t v ≡ true)
    → groups_from k xs s n ≡ groups_from k (keep t xs) s n
groups_kept k t xs s zero h = refl
groups_kept k t xs s (suc n) h = ap₂ (λ (a b : List ℕ). a ++ b) (sym (keep-keep (λ v. eqb (k v) s) t xs ∙ ap (λ (p : ℕ → Bool). keep p xs) (fun_ext one))) (groups_kept k t xs (suc s) n (λ v l m. h v (omega arith) (omega arith)))
  where
    one : (v : ℕ) → (t v && eqb (k v) s) ≡ eqb (k v) s
    one v = go (ℕ_discrete (k v) s)
      where
        go : Dec (k v ≡ s) → (t v && eqb (k v) s) ≡ eqb (k v) s
        go (yes e) = rw (h v (omega arith) (omega arith))
        go (no e) = rw (ne_eqb (k v) s e) (elim (t v) as (λ b. (b && false) ≡ false) [ true ↦ refl | false ↦ refl ])

groups_map : (k f : ℕ → ℕ) (xs : List ℕ) (s n : ℕ) → groups_from k (map f xs) s n ≡ map f (groups_from (λ v. k (f v)) xs s n)
groups_map k f xs s zero = refl
groups_map k f xs s (suc n) =
    ap₂ (λ (a b : List ℕ). a ++ b) (keep-map (λ v. eqb (k v) s) f xs) (groups_map k f xs (suc s) n)
    ∙ sym (map-append f (keep (λ v. eqb (k (f v)) s) xs) (groups_from (λ v. k (f v)) xs (suc s) n))

groups_shift : (k : ℕ → ℕ) (d : ℕ) (xs : List ℕ) (s n : ℕ) → groups_from (λ v. d + k v) xs (d + s) n ≡ groups_from k xs s n
groups_shift k d xs s zero = refl
groups_shift k d xs s (suc n) =
    ap₂ (λ (p : ℕ → Bool) (b : List ℕ). keep p xs ++ b) (fun_ext (λ v. eqb_iff (d + k v) (d + s) (k v) s (omega arith) (omega arith)))
    (rw add-suc at (groups_shift k d xs (suc s) n))

-- ---- the law

pub row-top : (h : ℕ) (xs : List ℕ) → Within (2 ^ suc h) xs → row (suc h) 0 xs ≡ map (λ v. v / 2 ^ h % 2) xs
row-top h xs b =
    let e : suc h - 1 - 0 ≡ h = omega arith in
    ap₂ (λ (n : ℕ) (l : List ℕ). map (λ v. v / 2 ^ n % 2) l) e
    (append-nil (keep (λ v. eqb (key (suc h) 0 v) 0) xs)
    ∙ keep_within (λ v. eqb (key (suc h) 0 v) 0) (2 ^ suc h) (λ v l. eq-eqb (key (suc h) 0 v) 0 (key-root (suc h) v l)) xs b)

pow_split : (h j : ℕ) → j ≤ h → 2 ^ h ≡ 2 ^ j * 2 ^ (h - j)
pow_split h j l =
    let e : h ≡ j + (h - j) = omega arith in
    ap (λ (n : ℕ). 2 ^ n) e ∙ pow-add 2 j (h - j)

high-key : (h j v : ℕ) → j ≤ h → (2 ^ h + v) / 2 ^ (h - j) ≡ 2 ^ j + v / 2 ^ (h - j)
high-key h j v l = ap (λ (n : ℕ). (n + v) / 2 ^ (h - j)) (pow_split h j l) ∙ mul-add-div_right (pow_pos (h - j)) (2 ^ j) v

high_bit : (h j v : ℕ) → j < h → (2 ^ h + v) / 2 ^ (h - 1 - j) % 2 ≡ v / 2 ^ (h - 1 - j) % 2
high_bit h j v l =
    let e : h - 1 - j ≡ h - suc j = omega arith in
    rw (e, high-key h (suc j) v l) (omega arith)

pub row-suc : (h j : ℕ) (xs ls hs : List ℕ) → j < h → keep (λ v. ltb v (2 ^ h)) xs ≡ ls → keep (λ v. leb (2 ^ h) v) xs ≡ map (λ v. 2 ^ h + v) hs
    → row (suc h) (suc j) xs ≡ row h j ls ++ row h j hs
row-suc h j xs ls hs l el eh =
    (λ i. map (λ v. v / 2 ^ (e₂ i) % 2) (groups_from (λ v. v / 2 ^ (e₁ i)) xs 0 (two-pow-succ j i)))
    ∙ ap (map B) (groups_add k xs 0 (2 ^ j) (2 ^ j) ∙ ap₂ (λ (a b : List ℕ). a ++ b) lows highs)
    ∙ map-append B (groups_from k ls 0 (2 ^ j)) (map (λ v. 2 ^ h + v) (groups_from k hs 0 (2 ^ j)))
    ∙ ap (λ (r : List ℕ). map B (groups_from k ls 0 (2 ^ j)) ++ r)
    (map-map B (λ v. 2 ^ h + v) (groups_from k hs 0 (2 ^ j)) ∙ ap (λ (f : ℕ → ℕ). map f (groups_from k hs 0 (2 ^ j))) (fun_ext (λ v. high_bit h j v l)))
  where
    k : ℕ → ℕ
    k v = v / 2 ^ (h - j)

    B : ℕ → ℕ
    B v = v / 2 ^ (h - 1 - j) % 2

    e₁ : suc h - suc j ≡ h - j
    e₁ = suc-sub-suc h j

    e₂ : suc h - 1 - suc j ≡ h - 1 - j
    e₂ = omega arith

    lows : groups_from k xs 0 (2 ^ j) ≡ groups_from k ls 0 (2 ^ j)
    lows =
        groups_kept k (λ v. ltb v (2 ^ h)) xs 0 (2 ^ j)
        (λ v z m. lt-ltb v (2 ^ h) (rw (pow_split h j (le_of_lt l)) ((div-lt_iff_lt-mul (pow_pos (h - j))).0 (rw zero-add at m))))
        ∙ ap (λ (r : List ℕ). groups_from k r 0 (2 ^ j)) el

    shifted : ◌≡◌ {A = ℕ → ℕ} (λ v. k (2 ^ h + v)) (λ v. 2 ^ j + k v)
    shifted = fun_ext (λ v. high-key h j v (le_of_lt l))

    highs : groups_from k xs (0 + 2 ^ j) (2 ^ j) ≡ map (λ v. 2 ^ h + v) (groups_from k hs 0 (2 ^ j))
    highs =
        ap (λ (s : ℕ). groups_from k xs s (2 ^ j)) (zero-add (2 ^ j) ∙ sym (add-zero (2 ^ j)))
        ∙ groups_kept k (λ v. leb (2 ^ h) v) xs (2 ^ j + 0) (2 ^ j)
        (λ v z m. le-leb (2 ^ h) v (rw (pow_split h j (le_of_lt l)) ((le-div_iff_mul-le (pow_pos (h - j))).0 (rw add-zero at z))))
        ∙ ap (λ (r : List ℕ). groups_from k r (2 ^ j + 0) (2 ^ j)) eh
        ∙ groups_map k (λ v. 2 ^ h + v) hs (2 ^ j + 0) (2 ^ j)
        ∙ ap (map (λ v. 2 ^ h + v)) (ap (λ (f : ℕ → ℕ). groups_from f hs (2 ^ j + 0) (2 ^ j)) shifted ∙ groups_shift k (2 ^ j) hs 0 (2 ^ j))

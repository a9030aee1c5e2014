-- First places in a range that grows by an entry in front.
use Prim.Native.Nat.{ℕ, suc, ◌+◌, ◌-◌, ◌≤◌, ◌<◌}
use native.Mathlib.Omega.{arith}
use native.Mathlib.Nat.{le_trans}
use native.Mathlib.Decide.{ℕ_discrete}
use mathlib.Core.Path.{◌≡◌, sym, ap, ◌∙◌}
use mathlib.Core.List.{List, ◌∷◌}
use lib.ListN.{length, get_or, set, take, drop}
use lib.Seq.{get_or-set_same, get_or-set_other, drop-cons}
use borrow.Author.Tests.{eq-eqb, ne_eqb}
use Rattle.bits.specs.Sequences.{bit, occurrences, select}
use Rattle.model.specs.Lists.{part}
use Rattle.listing.specs.Places.{FirstPlaces}

-- a part, by its first entry and the rest
part-cons : (i b : ℕ) (xs : List ℕ) → i < b → b ≤ length xs → part i b xs ≡ get_or xs i 0 ∷ part (suc i) b xs
part-cons i b xs l m =
    let e : b - i ≡ suc (b - suc i) = omega arith in
    ap (λ (n : ℕ). take n (drop i xs)) e ∙ ap (take (suc (b - suc i))) (drop-cons xs i 0 (le_trans l m))

-- a range without entries
pub first_none : (xs : List ℕ) (b : ℕ) (first : List ℕ) → FirstPlaces xs b b first
first_none xs b first d l =
    let e : b - b ≡ 0 = omega arith in
    absurd (omega (arith, ap (λ (n : ℕ). occurrences d (take n (drop b xs))) e))

-- one entry more in front: its document's first place is now its own
pub first_more : (xs : List ℕ) (i b : ℕ) (first : List ℕ) → i < b → b ≤ length xs → get_or xs i 0 < length first → FirstPlaces xs (suc i) b first
    → FirstPlaces xs i b (set first (get_or xs i 0) i)
first_more xs i b first l m size ih d has = go (ℕ_discrete d x)
  where
    x : ℕ
    x = get_or xs i 0

    cons : part i b xs ≡ x ∷ part (suc i) b xs
    cons = part-cons i b xs l m

    front : i + select d (part i b xs) 1 ≡ i + select d (x ∷ part (suc i) b xs) 1
    front = ap (λ (zs : List ℕ). i + select d zs 1) cons

    here : d ≡ x → i + select d (x ∷ part (suc i) b xs) 1 ≡ i
    here e = rw (eq-eqb d x e) (omega arith)

    later : (d ≡ x → ⊥) → i + select d (x ∷ part (suc i) b xs) 1 ≡ suc i + select d (part (suc i) b xs) 1
    later e = rw (ne_eqb d x e) (omega arith)

    go : Dec (d ≡ x) → get_or (set first x i) d 0 ≡ i + select d (part i b xs) 1
    go (yes e) = ap (λ (n : ℕ). get_or (set first x i) n 0) e ∙ get_or-set_same first x i 0 size ∙ sym (front ∙ here e)
    go (no e) =
        get_or-set_other first x d i 0 e ∙ ih d (omega (arith, has, ap (occurrences d) cons, ap bit (ne_eqb d x e)))
        ∙ sym (front ∙ later e)

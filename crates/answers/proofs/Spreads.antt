-- Laws of pairs that make room for a place each, from the last pair to the first.
use Prim.Native.Nat.{ℕ, suc, ◌+◌, ◌-◌, ◌*◌, ◌≤◌, ◌<◌}
use native.Mathlib.Omega.{arith}
use mathlib.Core.Path.{◌≡◌, refl, sym, ap, ap₂, ◌∙◌, subst}
use mathlib.Core.List.{List, [], ◌∷◌, ◌++◌, map, append_assoc}
use mathlib.Core.Bool.{Bool, true}
use lib.ListN.{length, get_or, take, drop, length-append, length-drop}
use lib.Seq.{sets, sets-eq, length-sets, length-take-le, get_or-take, take-take, take-append-le, drop-append_seam, drop-append-add, drop-drop, get_or-append-add, drop-cons, drop-length}
use Rattle.bits.specs.Sequences.{up_from}
use Rattle.model.specs.Lists.{Every, overwrite}
use Rattle.model.specs.Queries.{Pair, pair, flat, pair_at, pairs_in, flat_placed}
use Rattle.model.specs.Probing.{nobody}
use Rattle.model.proofs.Pairs.{length-flat, length_pairs, get_or-pairs}
use Rattle.model.proofs.Sorting.{every_at}
use Rattle.model.proofs.FirstPlaces.{length-flat_placed}
use Rattle.answers.specs.Spread.{Spread}

module _ (place : ℕ → ℕ) (n : ℕ) (before : List ℕ) where
  -- before the first step
  pub spread_begin : Spread place n n before before
  spread_begin = record {
    size = refl;
    front = refl;
    back =
        let none : drop n (pairs_in before n) ≡ [] = ap (λ (m : ℕ). drop m (pairs_in before n)) (sym (length_pairs before n)) ∙ drop-length (pairs_in before n) in
        sym (ap (λ (ps : List Pair). flat_placed place ps ++ drop (3 * n) before) none);
  }

  -- after the last
  pub spread_end : {after : List ℕ} → Spread place n 0 before after → after ≡ overwrite (flat_placed place (pairs_in before n)) before
  spread_end s =
      let size : 3 * n ≡ length (flat_placed place (pairs_in before n)) = omega (arith, length-flat_placed place (pairs_in before n), length_pairs before n) in
      s.back ∙ ap (λ (m : ℕ). flat_placed place (pairs_in before n) ++ drop m before) size

  module _ (room : 3 * n ≤ length before) (i : ℕ) (l : i < n) (now : List ℕ) (s : Spread place n (suc i) before now) where
    same_at : (j : ℕ) → j < 2 * suc i → get_or now j 0 ≡ get_or before j 0
    same_at j m = sym (get_or-take (2 * suc i) now j 0 m) ∙ ap (λ (r : List ℕ). get_or r j 0) s.front ∙ get_or-take (2 * suc i) before j 0 m

    -- pair i still stands where it stood
    pub spread_pair : pair_at now i ≡ pair_at before i
    spread_pair = ap₂ pair (same_at (2 * i) (omega arith)) (same_at (2 * i + 1) (omega arith))

    abbrev numbers : List ℕ
    numbers = (pair_at before i).document ∷ (pair_at before i).count ∷ place (pair_at before i).document ∷ []

    -- it becomes three numbers
    pub spread_step : (after : List ℕ) → after ≡ sets now (3 * i) numbers → Spread place n i before after
    spread_step after e = record {
      size = ap length e ∙ length-sets now (3 * i) numbers ∙ s.size;
      front = ap (take (2 * i)) is ∙ take-append-le (2 * i) (take (3 * i) now) (numbers ++ drop (3 * i + 3) now) (rw sized (omega arith)) ∙ take-take (2 * i) (3 * i) now (omega arith) ∙ same_front;
      back =
          ap (λ (m : ℕ). drop m after) (sym sized) ∙ ap (drop (length (take (3 * i) now))) is ∙ drop-append_seam (take (3 * i) now) (numbers ++ drop (3 * i + 3) now)
          ∙ ap (λ (r : List ℕ). numbers ++ r) (ap (λ (m : ℕ). drop m now) next ∙ s.back)
          ∙ ap (λ (ps : List Pair). flat_placed place ps ++ drop (3 * n) before) (sym here);
    }
      where
        fits : 3 * i + 3 ≤ length now
        fits = omega (arith, s.size)

        is : after ≡ take (3 * i) now ++ (numbers ++ drop (3 * i + 3) now)
        is = e ∙ sets-eq numbers now (3 * i) fits ∙ append_assoc (take (3 * i) now) numbers (drop (3 * i + 3) now)

        sized : length (take (3 * i) now) ≡ 3 * i
        sized = length-take-le (3 * i) now (omega (arith, fits))

        same_front : take (2 * i) now ≡ take (2 * i) before
        same_front = sym (take-take (2 * i) (2 * suc i) now (omega arith)) ∙ ap (take (2 * i)) s.front ∙ take-take (2 * i) (2 * suc i) before (omega arith)

        next : 3 * i + 3 ≡ 3 * suc i
        next = omega arith

        here : drop i (pairs_in before n) ≡ pair_at before i ∷ drop (suc i) (pairs_in before n)
        here =
            drop-cons (pairs_in before n) i nobody (omega (arith, length_pairs before n))
            ∙ ap (λ (p : Pair). p ∷ drop (suc i) (pairs_in before n)) (get_or-pairs before n i l)

-- ---- by the number of pairs that are left, one of which is next

module _ (place : ℕ → ℕ) (n : ℕ) (before : List ℕ) (room : 3 * n ≤ length before) (i : ℕ) (some : 0 < i) (most : i ≤ n) (now : List ℕ) (s : Spread place n i before now) where
  here : Spread place n (suc (i - 1)) before now
  here =
      let e : i ≡ suc (i - 1) = omega arith in
      subst (λ (j : ℕ). Spread place n j before now) e s

  -- what holds of all pairs holds of the next
  pub next_pair : (t : Pair → Bool) → Every t (pairs_in before n) → t (pair_at now (i - 1)) ≡ true
  next_pair t every =
      ap t (spread_pair place n before room (i - 1) (omega arith) now here ∙ sym (get_or-pairs before n (i - 1) (omega arith)))
      ∙ every_at t (pairs_in before n) (i - 1) nobody every (omega (arith, length_pairs before n))

  pub next_step : {after : List ℕ} (x : ℕ) → x ≡ place (pair_at now (i - 1)).document
      → after ≡ sets now (3 * (i - 1)) ((pair_at now (i - 1)).document ∷ (pair_at now (i - 1)).count ∷ x ∷ []) → Spread place n (i - 1) before after
  next_step {after} x e f =
      spread_step place n before room (i - 1) (omega arith) now here after
      (f ∙ ap (λ (y : ℕ). sets now (3 * (i - 1)) ((pair_at now (i - 1)).document ∷ (pair_at now (i - 1)).count ∷ y ∷ [])) e
      ∙ ap (λ (p : Pair). sets now (3 * (i - 1)) (p.document ∷ p.count ∷ place p.document ∷ [])) (spread_pair place n before room (i - 1) (omega arith) now here))

-- ---- pairs in the front of a slice into which they went

pairs-from : (ps : List Pair) (front rest : List ℕ) (s : ℕ) → length front ≡ 2 * s
    → map (pair_at (front ++ (flat ps ++ rest))) (up_from s (length ps)) ≡ ps
pairs-from [] front rest s e = refl
pairs-from (p ∷ ps) front rest s e =
    let behind = flat ps ++ rest in
    let here : List ℕ = p.document ∷ p.count ∷ [] in
    let first : 2 * s ≡ length front + 0 = omega arith in
    let second : 2 * s + 1 ≡ length front + 1 = omega arith in
    let d = ap (λ (i : ℕ). get_or (front ++ (here ++ behind)) i 0) first ∙ get_or-append-add front (here ++ behind) 0 0 in
    let c = ap (λ (i : ℕ). get_or (front ++ (here ++ behind)) i 0) second ∙ get_or-append-add front (here ++ behind) 1 0 in
    let longer : length (front ++ here) ≡ 2 * suc s = omega (arith, length-append front here) in
    let later = ap (λ (out : List ℕ). map (pair_at out) (up_from (suc s) (length ps))) (sym (append_assoc front here behind)) ∙ pairs-from ps (front ++ here) rest (suc s) longer in
    λ i. record { document = d i; count = c i } ∷ later i

pub pairs-written : (ps : List Pair) (old : List ℕ) → pairs_in (overwrite (flat ps) old) (length ps) ≡ ps
pairs-written ps old = pairs-from ps [] (drop (length (flat ps)) old) 0 refl

module _ (ps : List Pair) (out : List ℕ) where
  pub length-written : 2 * length ps ≤ length out → length (overwrite (flat ps) out) ≡ length out
  length-written room =
      omega (arith, length-append (flat ps) (drop (length (flat ps)) out), length-drop (length (flat ps)) out, length-flat ps)

  -- spread, they are as if they had been written with their places
  pub placed_written : (place : ℕ → ℕ) → overwrite (flat_placed place (pairs_in (overwrite (flat ps) out) (length ps))) (overwrite (flat ps) out) ≡ overwrite (flat_placed place ps) out
  placed_written place =
      ap (λ (qs : List Pair). overwrite (flat_placed place qs) (overwrite (flat ps) out)) (pairs-written ps out)
      ∙ ap (λ (r : List ℕ). flat_placed place ps ++ r)
      (ap (λ (m : ℕ). drop m (overwrite (flat ps) out)) longer ∙ drop-append-add (flat ps) (drop (length (flat ps)) out) (length ps)
      ∙ drop-drop (length ps) (length (flat ps)) out ∙ ap (λ (m : ℕ). drop m out) (sym longer))
    where
      longer : length (flat_placed place ps) ≡ length (flat ps) + length ps
      longer = omega (arith, length-flat_placed place ps, length-flat ps)

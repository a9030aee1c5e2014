-- Scores add up from the halves of a node; a node lives exactly where a half of it does. At a leaf both are those of its document, at the root those
-- of all entries.
use Prim.Native.Nat.{ℕ, zero, suc, ◌+◌, ◌*◌, ◌/◌, ◌^◌, ◌≤◌}
use native.Mathlib.Omega.{arith}
use native.Mathlib.Nat.{mul-add, mul-le-mul, suc-mul, div-eq_of_lt}
use mathlib.Core.Path.{◌≡◌, refl, ap}
use mathlib.Core.List.{List, [], ◌∷◌}
use mathlib.Core.Bool.{Bool, true, false, ◌||◌}
use lib.ListN.{length}
use lib.Dec.{ltb, eqb}
use borrow.Author.Tests.{eq-eqb}
use Rattle.bits.proofs.Tally.{tally_le_length}
use Rattle.model.specs.Lists.{Within}
use Rattle.model.specs.TopK.{Node, node, count_in}
use Rattle.model.specs.Weighted.{Weighed, score_of, is_found, score_in, lives_in, root_score, root_lives}
use Rattle.model.proofs.Lists.{tally_within}
use Rattle.model.proofs.Greedy.Abstract.{Counted, counted-of-sum}
use Rattle.model.proofs.Greedy.Counts.{count-halves, count_leaf, occupied-halves, outside}

-- the entries of all terms are below n
abbrev pub AllWithin : ℕ → List Weighed → Type 0
AllWithin n [] = Unit {0}
AllWithin n (w ∷ ws) = Within n w.entries × AllWithin n ws

-- ---- halves

pub score-halves : (ws : List Weighed) (l q : ℕ)
    → score_in ws (node (suc l) q) ≡ score_in ws (node l (2 * q)) + score_in ws (node l (2 * q + 1))
score-halves [] l q = refl
score-halves (w ∷ ws) l q =
    omega (
      arith,
      ap (λ (c : ℕ). w.weight * c) (count-halves w.entries l q),
      mul-add w.weight (count_in w.entries (node l (2 * q))) (count_in w.entries (node l (2 * q + 1))),
      score-halves ws l q,
    )

pub lives_halves : (ws : List Weighed) (l q : ℕ)
    → lives_in ws (node (suc l) q) ≡ (lives_in ws (node l (2 * q)) || lives_in ws (node l (2 * q + 1)))
lives_halves [] l q = refl
lives_halves (w ∷ ws) l q =
    rw (occupied-halves w.entries l q, lives_halves ws l q)
    (mix (ltb 0 (count_in w.entries (node l (2 * q)))) (ltb 0 (count_in w.entries (node l (2 * q + 1)))) (lives_in ws (node l (2 * q))) (lives_in ws (node l (2 * q + 1))))
  where
    mix : (a b c d : Bool) → ((a || b) || (c || d)) ≡ ((a || c) || (b || d))
    mix true b c d = refl
    mix false true true d = refl
    mix false true false d = refl
    mix false false c d = refl

pub scored : (ws : List Weighed) → Counted (score_in ws) (lives_in ws)
scored ws = counted-of-sum (score_in ws) (lives_in ws) (score-halves ws) (lives_halves ws)

-- ---- leaves

pub score_leaf : (ws : List Weighed) (d : ℕ) → score_in ws (node zero d) ≡ score_of ws d
score_leaf [] d = refl
score_leaf (w ∷ ws) d = rw (count_leaf w.entries d, score_leaf ws d)

pub lives_leaf : (ws : List Weighed) (d : ℕ) → lives_in ws (node zero d) ≡ is_found ws d
lives_leaf [] d = refl
lives_leaf (w ∷ ws) d = rw (count_leaf w.entries d, lives_leaf ws d)

-- numbers from N up do not live
pub not_living : (N : ℕ) (ws : List Weighed) → AllWithin N ws → (d : ℕ) → N ≤ d → lives_in ws (node zero d) ≡ false
not_living N [] a d l = refl
not_living N (w ∷ ws) a d l = rw (outside N w.entries a.0 d l, not_living N ws a.1 d l)

-- ---- the root

root-count : (h : ℕ) (xs : List ℕ) → Within (2 ^ h) xs → count_in xs (node h 0) ≡ length xs
root-count h xs w = tally_within (λ v. eqb (v / 2 ^ h) 0) (2 ^ h) (λ v l. eq-eqb (v / 2 ^ h) 0 (div-eq_of_lt l)) xs w

pub score-root : (h : ℕ) (ws : List Weighed) → AllWithin (2 ^ h) ws → score_in ws (node h 0) ≡ root_score ws
score-root h [] a = refl
score-root h (w ∷ ws) a = rw (root-count h w.entries a.0, score-root h ws a.1)

pub lives_root : (h : ℕ) (ws : List Weighed) → AllWithin (2 ^ h) ws → lives_in ws (node h 0) ≡ root_lives ws
lives_root h [] a = refl
lives_root h (w ∷ ws) a = rw (root-count h w.entries a.0, lives_root h ws a.1)

-- ---- bounds

-- no weight is above g, and no term has more than n entries
abbrev pub AllFew : ℕ → ℕ → List Weighed → Type 0
AllFew g n [] = Unit {0}
AllFew g n (w ∷ ws) = (w.weight ≤ g) × (length w.entries ≤ n) × AllFew g n ws

pub score_few : (g n : ℕ) (ws : List Weighed) → AllFew g n ws → (b : Node) → score_in ws b ≤ length ws * (g * n)
score_few g n [] a b = omega arith
score_few g n (w ∷ ws) a b =
    let few : count_in w.entries b ≤ n = go b a.1 in
    omega (arith, mul-le-mul a.0 few, score_few g n ws a.2 b, suc-mul (length ws) (g * n))
  where
    go : (b : Node) → length w.entries ≤ n → count_in w.entries b ≤ n
    go (node l q) k = omega (arith, tally_le_length (λ v. eqb (v / 2 ^ l) q) w.entries)

-- eight terms of the largest weight, with all of the entries
pub score_lt : (ws : List Weighed) → length ws ≤ 8 → AllFew 48 65535 ws → (b : Node) → score_in ws b ≤ 25165440
score_lt ws l a b = omega (arith, score_few 48 65535 ws a b)

-- No score is above 48 * 65,535 = 3,145,680 (document 02, M-100 and M-101): different terms share the entries.
use Prim.Native.Nat.{ℕ, zero, suc, ◌+◌, ◌-◌, ◌*◌, ◌/◌, ◌^◌, ◌≤◌}
use native.Mathlib.Omega.{arith}
use native.Mathlib.Nat.{mul-le-mul}
use mathlib.Core.Path.{◌≡◌, refl, ap}
use mathlib.Core.List.{List, [], ◌∷◌, map}
use lib.ListN.{length, get_or, take, drop, length-take}
use lib.Dec.{eqb}
use Rattle.bits.specs.Sequences.{bit, occurrences}
use Rattle.bits.specs.Bits.{sum}
use Rattle.bits.proofs.Tests.{bit_ne, eqb_iff}
use Rattle.bits.proofs.Tally.{tally_le_length}
use Rattle.model.specs.Distinct.{distinct, Different}
use Rattle.model.specs.Format.{Library}
use Rattle.model.specs.Queries.{term_start, under}
use Rattle.model.specs.TopK.{Node, node, count_in}
use Rattle.model.specs.Weighted.{documents_in, weighed, score_of, score_in}
use Rattle.model.proofs.Format.Valid.{Valid}
use Rattle.model.proofs.Distinct.{distinct_different}
use Rattle.model.proofs.Weighted.Weights.{weight_le_48}
use Rattle.model.proofs.Weighted.Scores.{score_leaf}

-- ---- different places of a list: what stands there is together at most the list's sum

abbrev at : List ℕ → List ℕ → ℕ
at xs ts = sum (map (λ t. get_or xs t 0) ts)

at_none : (ts : List ℕ) → at [] ts ≡ 0
at_none [] = refl
at_none (t ∷ ts) = omega (arith, at_none ts)

-- the places past the first, as places of the rest
abbrev beyond : List ℕ → List ℕ
beyond [] = []
beyond (zero ∷ ts) = beyond ts
beyond (suc t ∷ ts) = t ∷ beyond ts

occurrences-beyond : (v : ℕ) (ts : List ℕ) → occurrences v (beyond ts) ≡ occurrences (suc v) ts
occurrences-beyond v [] = refl
occurrences-beyond v (zero ∷ ts) = omega (arith, occurrences-beyond v ts, bit_ne (suc v) 0 (λ e. omega arith))
occurrences-beyond v (suc t ∷ ts) = omega (arith, occurrences-beyond v ts, ap bit (eqb_iff v t (suc v) (suc t) (λ e. omega arith) (λ e. omega arith)))

at_without : (x : ℕ) (xs ts : List ℕ) → occurrences 0 ts ≡ 0 → at (x ∷ xs) ts ≡ at xs (beyond ts)
at_without x xs [] o = refl
at_without x xs (zero ∷ ts) o = absurd (omega arith)
at_without x xs (suc t ∷ ts) o = omega (arith, at_without x xs ts (omega arith))

at_once : (x : ℕ) (xs ts : List ℕ) → occurrences 0 ts ≤ 1 → at (x ∷ xs) ts ≤ x + at xs (beyond ts)
at_once x xs [] o = omega arith
at_once x xs (zero ∷ ts) o = omega (arith, at_without x xs ts (omega arith))
at_once x xs (suc t ∷ ts) o = omega (arith, at_once x xs ts (omega arith))

at_different : (xs ts : List ℕ) → Different ts → at xs ts ≤ sum xs
at_different [] ts d = omega (arith, at_none ts)
at_different (x ∷ xs) ts d =
    omega (arith, at_once x xs ts (d 0), at_different xs (beyond ts) (λ v. omega (arith, occurrences-beyond v ts, d (suc v))))

-- ---- scores

-- a term past the last one has no entries
start-suc : (xs : List ℕ) (t : ℕ) → sum (take (suc t) xs) ≡ sum (take t xs) + get_or xs t 0
start-suc [] zero = refl
start-suc [] (suc t) = refl
start-suc (x ∷ xs) zero = omega arith
start-suc (x ∷ xs) (suc t) = omega (arith, start-suc xs t)

module _ (lib : Library) (documents : lib.documents ≤ 4096) where
  length-under : (t : ℕ) → length (under lib t) ≤ get_or lib.lengths t 0
  length-under t =
      omega (arith, length-take (term_start lib (suc t) - term_start lib t) (drop (term_start lib t) lib.entries), start-suc lib.lengths t)

  score_shared : (ts : List ℕ) (b : Node) → score_in (weighed lib ts) b ≤ 48 * at lib.lengths ts
  score_shared [] b = omega arith
  score_shared (t ∷ ts) b =
      omega (
        arith,
        mul-le-mul (weight_le_48 lib.documents (documents_in lib.documents (under lib t)) documents) (counted b),
        score_shared ts b,
      )
    where
      counted : (n : Node) → count_in (under lib t) n ≤ get_or lib.lengths t 0
      counted (node l q) = omega (arith, tally_le_length (λ v. eqb (v / 2 ^ l) q) (under lib t), length-under t)

-- of a node, and of a document, which is a node of one number
module _ (lib : Library) (v : Valid lib) (given : List ℕ) where
  pub node_score_limit : (b : Node) → score_in (weighed lib (distinct given)) b ≤ 3145680
  node_score_limit b =
      let n = v.limits.entries in
      omega (
        arith,
        score_shared lib v.limits.documents (distinct given) b,
        at_different lib.lengths (distinct given) (distinct_different given),
        v.total,
      )

  pub score_limit : (d : ℕ) → score_of (weighed lib (distinct given)) d ≤ 3145680
  score_limit d = omega (arith, score_leaf (weighed lib (distinct given)) d, node_score_limit (node zero d))

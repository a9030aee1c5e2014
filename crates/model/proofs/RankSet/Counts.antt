-- Counts of sets of documents (M-106): of disjoint sets joined, of one document, of all, and each document once.
use Prim.Native.Nat.{ℕ, zero, suc, ◌+◌, ◌≤◌, ◌<◌}
use native.Mathlib.Omega.{arith}
use mathlib.Core.Path.{◌≡◌, refl, sym, ap, ◌∙◌}
use mathlib.Core.Logic.{◌⊎◌, inl, inr}
use mathlib.Core.List.{List, [], ◌∷◌, ◌++◌, map}
use mathlib.Core.Bool.{Bool, true, false, ◌&&◌, ◌||◌, or-false}
use lib.ListN.{length, take}
use lib.Seq.{length-take-le}
use lib.Dec.{leb, ltb, eqb}
use borrow.Author.Tests.{lt-ltb, le-ltb, ltb-false, eqb-true, eqb-false}
use Rattle.bits.specs.Bits.{sum}
use Rattle.bits.specs.Sequences.{bit, all, up_from, below, occurrences, rank}
use Rattle.bits.proofs.Tests.{look, and_both, or_right, eqb_swap, le_or_lt}
use Rattle.bits.proofs.Tally.{tally_same, tally-sum, tally_none, tally-append}
use Rattle.model.specs.Lists.{any, sorted, Within}
use Rattle.model.specs.RankSet.{ascending, member, Disjoint, union, rank_set}
use Rattle.model.proofs.Lists.{any-tally, any_append, tally_within, within_take}
use Rattle.model.proofs.Sorting.{any_sort}
use Rattle.model.proofs.RankSet.Ascending.{below_none, ascending-once, ascending-sorted}

-- ---- members

-- a member occurs
pub member-occurs : (set : List ℕ) (d : ℕ) → member set d ≡ ltb 0 (occurrences d set)
member-occurs set d = any-tally (eqb d) set

-- ---- counts of sets

-- of one test or the other, where not both apply
bit_or : (a b : Bool) → (a && b) ≡ false → bit (a || b) ≡ bit a + bit b
bit_or true b e = omega (arith, ap bit e)
bit_or false b e = omega arith

-- of two sets without a document in common the counts add up
pub rank-set-append : (set other xs : List ℕ) (p : ℕ) → Disjoint set other → rank_set (set ++ other) xs p ≡ rank_set set xs p + rank_set other xs p
rank-set-append set other xs p apart = tally-sum (member (set ++ other)) (member set) (member other) (λ d. ap bit (any_append (eqb d) set other) ∙ bit_or (member set d) (member other d) (apart d)) (take p xs)

-- the order of a list does not matter to a test of its elements
pub any-sorted : (p : ℕ → Bool) (xs : List ℕ) → any p (sorted xs) ≡ any p xs
any-sorted = any_sort leb

pub rank-set-union : (set other xs : List ℕ) (p : ℕ) → Disjoint set other → rank_set (union set other) xs p ≡ rank_set set xs p + rank_set other xs p
rank-set-union set other xs p apart =
    tally_same (member (union set other)) (member (set ++ other)) (λ d. any-sorted (eqb d) (set ++ other)) (take p xs) ∙ rank-set-append set other xs p apart

pub rank-set-empty : (xs : List ℕ) (p : ℕ) → rank_set [] xs p ≡ 0
rank-set-empty xs p = tally_none (member []) (λ d. refl) (take p xs)

pub rank-set_single : (d : ℕ) (xs : List ℕ) (p : ℕ) → rank_set (d ∷ []) xs p ≡ rank d xs p
rank-set_single d xs p = tally_same (member (d ∷ [])) (eqb d) (λ x. or-false (eqb x d) ∙ eqb_swap x d) (take p xs)

-- what is in no list twice: a number beside a set that does not hold it
apart_cons : (d : ℕ) (ds : List ℕ) → occurrences d ds ≡ 0 → Disjoint (d ∷ []) ds
apart_cons d ds none x = go (look (eqb x d))
  where
    go : (eqb x d ≡ true) ⊎ (eqb x d ≡ false) → ((eqb x d || false) && member ds x) ≡ false
    go (inl s) = rw s (member-occurs ds x ∙ le-ltb 0 (occurrences x ds) (omega (arith, none, ap (λ (v : ℕ). occurrences v ds) (eqb-true x d s))))
    go (inr s) = rw s

-- "each once": the count of a set is the sum of the counts of its documents
pub rank-set-sum : (set xs : List ℕ) (p : ℕ) → ascending set ≡ true → rank_set set xs p ≡ sum (map (λ d. rank d xs p) set)
rank-set-sum [] xs p e = rank-set-empty xs p
rank-set-sum (d ∷ ds) xs p e =
    let t = and_both (all (ltb d) ds) (ascending ds) e in
    rank-set-append (d ∷ []) ds xs p (apart_cons d ds (below_none d ds t.0))
    ∙ (λ i. rank-set_single d xs p i + rank-set-sum ds xs p t.1 i)

-- ---- all documents

member-up_from : (s n d : ℕ) → s ≤ d → d < s + n → member (up_from s n) d ≡ true
member-up_from s zero d a b = absurd (omega arith)
member-up_from s (suc n) d a b = go (look (eqb d s)) (member-up_from (suc s) n d)
  where
    go : (eqb d s ≡ true) ⊎ (eqb d s ≡ false) → (suc s ≤ d → d < suc s + n → member (up_from (suc s) n) d ≡ true) → (eqb d s || member (up_from (suc s) n) d) ≡ true
    go (inl e) ih = rw e
    go (inr e) ih = or_right (eqb d s) (member (up_from (suc s) n) d) (ih (omega (arith, eqb-false d s e)) (omega arith))

pub rank-set-whole : (N : ℕ) (xs : List ℕ) (p : ℕ) → Within N xs → p ≤ length xs → rank_set (below N) xs p ≡ p
rank-set-whole N xs p w l =
    tally_within (member (below N)) N (λ d b. member-up_from 0 N d (omega arith) (omega arith)) (take p xs) (within_take N p xs w) ∙ length-take-le p xs l

-- ---- joined

-- two sets without a document in common, joined, are a set
pub ascending-union : (set other : List ℕ) → ascending set ≡ true → ascending other ≡ true → Disjoint set other → ascending (union set other) ≡ true
ascending-union set other e f apart = ascending-sorted (set ++ other) once
  where
    once : (d : ℕ) → occurrences d (set ++ other) ≤ 1
    once d = go (le_or_lt (occurrences d set) 0)
      where
        sum_is : occurrences d (set ++ other) ≡ occurrences d set + occurrences d other
        sum_is = tally-append (eqb d) set other

        go : (occurrences d set ≤ 0) ⊎ (0 < occurrences d set) → occurrences d (set ++ other) ≤ 1
        go (inl z) = omega (arith, sum_is, ascending-once other d f)
        go (inr z) = omega (arith, sum_is, ascending-once set d e, none)
          where
            here : member set d ≡ true
            here = member-occurs set d ∙ lt-ltb 0 (occurrences d set) z

            none : occurrences d other ≤ 0
            none = ltb-false 0 (occurrences d other) (sym (member-occurs other d) ∙ ap (λ (b : Bool). b && member other d) (sym here) ∙ apart d)

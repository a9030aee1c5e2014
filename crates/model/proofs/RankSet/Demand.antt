-- M-106's sentences (`specs/RankSetDemand`), from the definition of the whole result.
use Prim.Native.Nat.{ℕ, ◌+◌, ◌≤◌, ◌<◌}
use native.Mathlib.Omega.{arith}
use mathlib.Core.Path.{◌≡◌, refl, sym, ap, ◌∙◌}
use mathlib.Core.Logic.{◌⊎◌, inl, inr}
use mathlib.Core.List.{List, [], ◌∷◌, ◌++◌}
use mathlib.Core.Bool.{Bool, true, false, not, ◌||◌, or-false}
use lib.ListN.{length, get_or, length-append}
use lib.Dec.{leb, ltb}
use borrow.Author.Tests.{lt-ltb, le-ltb, ltb-false}
use Rattle.bits.specs.Sequences.{below, rank}
use Rattle.bits.proofs.Tests.{look, not_false, or_neither, or_left, or_right}
use Rattle.bits.proofs.Tally.{length-up_from, get_or-up_from}
use Rattle.model.specs.Lists.{any, Within}
use Rattle.model.specs.Outcome.{Outcome, answered, refused, refuse, and_then}
use Rattle.model.specs.Format.{Library}
use Rattle.model.specs.Opening.{opened}
use Rattle.model.specs.Queries.{rank_result}
use Rattle.model.specs.RankSet.{ascending, Disjoint, union, rank_set, rank_set_result}
use Rattle.model.specs.RankSetDemand.{IsSet, RankSetDemand}
use Rattle.model.proofs.Lists.{within_append, within_of}
use Rattle.model.proofs.Format.Valid.{Valid, within_any, any_within, refuse_answered}
use Rattle.model.proofs.Wavelet.Sorted.{length-sorted}
use Rattle.model.proofs.RankSet.Ascending.{ascending-below}
use Rattle.model.proofs.RankSet.Counts.{any-sorted, rank-set-union, rank-set-empty, rank-set_single, rank-set-sum, rank-set-whole, ascending-union}

-- 19 of a list that is no set, and not of a set
no_set : (set : List ℕ) → IsSet set → (ltb 64 (length set) || not (ascending set)) ≡ false
no_set set s = rw (le-ltb 64 (length set) s.few, s.ascends)

is_set-of : (set : List ℕ) → (ltb 64 (length set) || not (ascending set)) ≡ false → IsSet set
is_set-of set e =
    let t = or_neither (ltb 64 (length set)) (not (ascending set)) e in
    record { few = ltb-false 64 (length set) t.0; ascends = not_false (ascending set) t.1 }

module _ (bytes : List ℕ) (lib : Library) (v : Valid lib) (holds : opened bytes ≡ answered lib) where
  abbrev N : ℕ
  N = lib.documents

  abbrev n : ℕ
  n = length lib.entries

  -- what the question makes of the archive that it opens
  abbrev counted : List ℕ → ℕ → Outcome ℕ
  counted set p = refuse 11 (any (leb N) set || ltb n p) (answered (rank_set set lib.entries p))

  result : (set : List ℕ) (p : ℕ) → rank_set_result bytes set p ≡ refuse 19 (ltb 64 (length set) || not (ascending set)) (counted set p)
  result set p = rw holds

  -- of a list that is no set, of a set, and of a set of the library's documents
  as_19 : (set : List ℕ) (p : ℕ) → (ltb 64 (length set) || not (ascending set)) ≡ true → rank_set_result bytes set p ≡ refused 19
  as_19 set p e = result set p ∙ ap (λ (b : Bool). refuse 19 b (counted set p)) e

  of-set : (set : List ℕ) (p : ℕ) → IsSet set → rank_set_result bytes set p ≡ counted set p
  of-set set p s = result set p ∙ ap (λ (b : Bool). refuse 19 b (counted set p)) (no_set set s)

  as_11 : (set : List ℕ) (p : ℕ) → IsSet set → (any (leb N) set || ltb n p) ≡ true → rank_set_result bytes set p ≡ refused 11
  as_11 set p s e = of-set set p s ∙ ap (λ (b : Bool). refuse 11 b (answered (rank_set set lib.entries p))) e

  answers : (set : List ℕ) (p : ℕ) → IsSet set → Within N set → p ≤ n → rank_set_result bytes set p ≡ answered (rank_set set lib.entries p)
  answers set p s w l = of-set set p s ∙ rw (any_within N set w, le-ltb n p l)

  never_19 : (set : List ℕ) (p : ℕ) → IsSet set → rank_set_result bytes set p ≡ refused 19 → ⊥
  never_19 set p s e = go (any (leb N) set || ltb n p) (sym (of-set set p s) ∙ e)
    where
      go : (b : Bool) → refuse 11 b (answered (rank_set set lib.entries p)) ≡ refused 19 → ⊥
      go true f = let z : ◌≡◌ {A = ℕ} 11 19 = cc f in omega arith
      go false f = let z : ◌≡◌ {A = ℕ} 0 1 = cc f in omega arith

  -- an answer is given of a set of the library's documents and a place within the entries
  given : (set : List ℕ) (p c : ℕ) → rank_set_result bytes set p ≡ answered c → IsSet set × Within N set × (p ≤ n) × (rank_set set lib.entries p ≡ c)
  given set p c e =
      let (fine, next) = refuse_answered 19 (ltb 64 (length set) || not (ascending set)) (counted set p) c (sym (result set p) ∙ e) in
      let (inside, is) = refuse_answered 11 (any (leb N) set || ltb n p) (answered (rank_set set lib.entries p)) c next in
      let (known, place) = or_neither (any (leb N) set) (ltb n p) inside in
      let same : rank_set set lib.entries p ≡ c = cc in
      (is_set-of set fine, within_any N set known, ltb-false n p place, same)

  joined : (set other : List ℕ) (p c e : ℕ) → Disjoint set other → length set + length other ≤ 64
      → rank_set_result bytes set p ≡ answered c → rank_set_result bytes other p ≡ answered e → rank_set_result bytes (union set other) p ≡ answered (c + e)
  joined set other p c e apart few a b =
      let (s, w, l, x) = given set p c a in
      let (t, u, m, y) = given other p e b in
      let both : IsSet (union set other) =
      record { few = omega (arith, length-sorted (set ++ other), length-append set other); ascends = ascending-union set other s.ascends t.ascends apart } in
      let known : any (leb N) (union set other) ≡ false = any-sorted (leb N) (set ++ other) ∙ any_within N (set ++ other) (within_append N set other w u) in
      answers (union set other) p both (within_any N (union set other) known) l ∙ ap answered (rank-set-union set other lib.entries p apart ∙ (λ i. x i + y i))

  pub rank-set_demand : RankSetDemand lib (rank_result bytes) (rank_set_result bytes)
  rank-set_demand = record {
    too_long = λ set p l. as_19 set p (or_left (ltb 64 (length set)) (not (ascending set)) (lt-ltb 64 (length set) l));
    not_ascending = λ set p e. as_19 set p (or_right (ltb 64 (length set)) (not (ascending set)) (ap not e));
    never_19 = never_19;
    unknown = λ set p s w. as_11 set p s (or_left (any (leb N) set) (ltb n p) (unknown set w));
    beyond = λ set p s l. as_11 set p s (or_right (any (leb N) set) (ltb n p) (lt-ltb n p l));
    answer = λ set p s l. answers set p s.is_set s.known l ∙ ap answered (rank-set-sum set lib.entries p s.is_set.ascends);
    empty = λ p l. answers [] p (record { few = omega arith; ascends = refl }) tt l ∙ ap answered (rank-set-empty lib.entries p);
    whole = λ p few l.
        answers (below N) p (record { few = omega (arith, length-up_from 0 N); ascends = ascending-below N }) (within_of N (below N) (λ i b. inside i (rw length-up_from at b))) l
        ∙ ap answered (rank-set-whole N lib.entries p v.within l);
    single = single;
    joined = joined;
  }
    where
      inside : (i : ℕ) → i < N → get_or (below N) i 0 < N
      inside i b = omega (arith, get_or-up_from 0 N i 0 b)

      unknown : (set : List ℕ) → (Within N set → ⊥) → any (leb N) set ≡ true
      unknown set w = go (look (any (leb N) set))
        where
          go : (any (leb N) set ≡ true) ⊎ (any (leb N) set ≡ false) → any (leb N) set ≡ true
          go (inl e) = e
          go (inr e) = absurd (w (within_any N set e))

      single : (d p : ℕ) → rank_set_result bytes (d ∷ []) p ≡ rank_result bytes d p
      single d p =
          of-set (d ∷ []) p (record { few = omega arith; ascends = refl })
          ∙ (λ i. refuse 11 (or-false (leb N d) i || ltb n p) (answered (rank-set_single d lib.entries p i)))
          ∙ sym (ap (λ (o : Outcome Library). and_then o (λ y. refuse 11 (leb y.documents d || ltb (length y.entries) p) (answered (rank d y.entries p)))) holds)

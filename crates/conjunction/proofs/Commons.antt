-- The next common document: what it says of the documents that it passes over, and how to know it.
use Prim.Native.Nat.{ℕ, zero, suc, ◌+◌, ◌-◌, ◌^◌, ◌≤◌, ◌<◌}
use native.Mathlib.Omega.{arith}
use native.Mathlib.Nat.{le_refl, le_of_lt}
use native.Mathlib.Decide.{ℕ_discrete}
use mathlib.Core.Path.{◌≡◌, sym, ap, ◌∙◌, subst}
use mathlib.Core.Logic.{◌⊎◌, inl, inr}
use mathlib.Core.List.{List, [], ◌∷◌}
use mathlib.Core.Bool.{Bool, true, false, ◌&&◌, and-false}
use lib.Dec.{ltb}
use lib.ListN.{length, get_or}
use Rattle.bits.specs.Sequences.{all, up_from, occurrences}
use Rattle.bits.specs.Bits.{sum}
use Rattle.bits.proofs.Tests.{look}
use Rattle.model.specs.Lists.{keep}
use Rattle.model.specs.Format.{Library}
use Rattle.model.specs.Queries.{under, counts_under}
use Rattle.answers.proofs.Occurrences.{keep_none}
use Rattle.conjunction.specs.Conjunction.{first_with, next_common, next_is, no_further}

module _ (counts : ℕ → List ℕ) where
  -- whether a document has an entry under each term
  abbrev pub matches : ℕ → Bool
  matches d = all (ltb 0) (counts d)

  -- no document from v up to but without d has
  abbrev pub Passed : ℕ → ℕ → Type 0
  Passed v d = (e : ℕ) → v ≤ e → e < d → matches e ≡ false

  -- d is the first from v upward that has, with c entries
  pub record First (v d c : ℕ) : Type 0 where
    pub from : v ≤ d
    pub matched : matches d ≡ true
    pub count : c ≡ sum (counts d)
    pub passed : Passed v d

  first_is : (d c v n : ℕ) → first_with counts (keep matches (up_from v n)) ≡ next_is d c → First v d c
  first_is d c v zero e = absurd (let z : ◌≡◌ {A = ℕ} 0 1 = cc in omega arith)
  first_is d c v (suc n) e = go (look (matches v)) (first_is d c (suc v) n)
    where
      go : (matches v ≡ true) ⊎ (matches v ≡ false) → (first_with counts (keep matches (up_from (suc v) n)) ≡ next_is d c → First (suc v) d c) → First v d c
      go (inl t) ih =
          let k : next_is v (sum (counts v)) ≡ next_is d c = rw t at e in
          let p : v ≡ d = cc in
          let q : c ≡ sum (counts v) = cc in
          record {
            from = omega arith;
            matched = subst (λ (x : ℕ). matches x ≡ true) p t;
            count = q ∙ ap (λ (x : ℕ). sum (counts x)) p;
            passed = λ e a b. absurd (omega arith);
          }
      go (inr f) ih =
          let r = ih (rw f at e) in
          record {
            from = let l = r.from in omega arith;
            matched = r.matched;
            count = r.count;
            passed = λ e a b. pass e a b r.passed (ℕ_discrete v e);
          }
        where
          pass : (e : ℕ) → v ≤ e → e < d → Passed (suc v) d → Dec (v ≡ e) → matches e ≡ false
          pass e a b rest (yes q) = subst (λ (x : ℕ). matches x ≡ false) q f
          pass e a b rest (no q) = rest e (omega arith) b

  none_is : (v n : ℕ) → first_with counts (keep matches (up_from v n)) ≡ no_further → Passed v (v + n)
  none_is v zero q e a b = absurd (omega arith)
  none_is v (suc n) q e a b = go (look (matches v)) (none_is (suc v) n) (ℕ_discrete v e)
    where
      go : (matches v ≡ true) ⊎ (matches v ≡ false) → (first_with counts (keep matches (up_from (suc v) n)) ≡ no_further → Passed (suc v) (suc v + n)) → Dec (v ≡ e)
          → matches e ≡ false
      go (inl t) ih k =
          let w : next_is v (sum (counts v)) ≡ no_further = rw t at q in
          absurd (let z : ◌≡◌ {A = ℕ} 0 1 = cc in omega arith)
      go (inr f) ih (yes k) = subst (λ (x : ℕ). matches x ≡ false) k f
      go (inr f) ih (no k) = ih (rw f at q) e (omega arith) (omega arith)

  is_first : (d v n : ℕ) → v ≤ d → d < v + n → matches d ≡ true → Passed v d → first_with counts (keep matches (up_from v n)) ≡ next_is d (sum (counts d))
  is_first d v zero l m t f = absurd (omega arith)
  is_first d v (suc n) l m t f = go (ℕ_discrete v d) (λ k. is_first d (suc v) n k (omega arith) t (λ w a b. f w (le_of_lt a) b))
    where
      go : Dec (v ≡ d) → (v < d → first_with counts (keep matches (up_from (suc v) n)) ≡ next_is d (sum (counts d)))
          → first_with counts (keep matches (up_from v (suc n))) ≡ next_is d (sum (counts d))
      go (yes e) ih = rw (subst (λ (x : ℕ). matches x ≡ true) (sym e) t) (ap (λ (x : ℕ). next_is x (sum (counts x))) e)
      go (no e) ih = let k : v < d = omega arith in rw (f v (le_refl v) k) (ih k)

  module _ (h v : ℕ) where
    pub next_first : (d c : ℕ) → next_common counts h v ≡ next_is d c → First v d c
    next_first d c e = first_is d c v (2 ^ h - v) e

    pub next_none : next_common counts h v ≡ no_further → Passed v (2 ^ h)
    next_none q e a b = none_is v (2 ^ h - v) q e a (omega arith)

    pub next_found : (d : ℕ) → v ≤ d → d < 2 ^ h → matches d ≡ true → Passed v d → next_common counts h v ≡ next_is d (sum (counts d))
    next_found d l m t f = is_first d v (2 ^ h - v) l (omega arith) t f

    pub next_nothing : Passed v (2 ^ h) → next_common counts h v ≡ no_further
    next_nothing f = ap (first_with counts) (keep_none matches v (2 ^ h - v) (λ e a b. f e a (omega arith)))

-- "The walk ends as soon as one word has no further sheet": once one of the terms has no document from v on, there is no next common document
module _ (lib : Library) (h v : ℕ) where
  pub no_further_lem : (terms : List ℕ) (i : ℕ) → i < length terms → ((d : ℕ) → v ≤ d → d < 2 ^ h → occurrences d (under lib (get_or terms i 0)) ≡ 0)
      → next_common (counts_under lib terms) h v ≡ no_further
  no_further_lem terms i l none = next_nothing (counts_under lib terms) h v (λ d a b. unmatched terms i l d (none d a b))
    where
      unmatched : (ts : List ℕ) (i : ℕ) → i < length ts → (d : ℕ) → occurrences d (under lib (get_or ts i 0)) ≡ 0 → matches (counts_under lib ts) d ≡ false
      unmatched [] i l d e = absurd (omega arith)
      unmatched (t ∷ ts) zero l d e = rw e
      unmatched (t ∷ ts) (suc i) l d e =
          ap (λ (b : Bool). ltb 0 (occurrences d (under lib t)) && b) (unmatched ts i (omega arith) d e) ∙ and-false (ltb 0 (occurrences d (under lib t)))

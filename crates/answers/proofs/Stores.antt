-- Pairs in a slice: laws of `flat`, and of pairs that are written one after another.
use Prim.Native.Nat.{ℕ, ◌+◌, ◌*◌, ◌≤◌}
use native.Mathlib.Omega.{arith}
use native.Mathlib.Nat.{zero-add}
use mathlib.Core.Path.{◌≡◌, refl, sym, ap, ◌∙◌}
use mathlib.Core.List.{List, [], ◌∷◌, ◌++◌}
use lib.ListN.{length, drop, length-append}
use lib.Seq.{sets, sets-eq}
use Rattle.model.specs.Lists.{overwrite}
use Rattle.model.specs.Queries.{Pair, flat}
use Rattle.model.proofs.Pairs.{length-flat}
use Rattle.model.proofs.Stores.{sets_append}
use Rattle.answers.specs.Written.{Written}

pub flat_append : (ps qs : List Pair) → flat (ps ++ qs) ≡ flat ps ++ flat qs
flat_append [] qs = refl
flat_append (p ∷ ps) qs = ap (λ (l : List ℕ). p.document ∷ p.count ∷ l) (flat_append ps qs)

-- ---- pairs written from pair number `at` on

module _ (at : ℕ) (l : List ℕ) where
  pub written_none : {ps : List Pair} → ps ≡ [] → Written ps at l l at
  written_none e = record {
    next = omega (arith, ap length e);
    stored = sym (ap (λ (ps : List Pair). sets l (2 * at) (flat ps)) e);
  }

  pub written-pair : {ps : List Pair} (d c : ℕ) (m : List ℕ) → ps ≡ record { document = d; count = c } ∷ [] → m ≡ sets l (2 * at) (d ∷ c ∷ [])
      → Written ps at l m (at + 1)
  written-pair d c m e f = record {
    next = omega (arith, ap length e);
    stored = f ∙ sym (ap (λ (ps : List Pair). sets l (2 * at) (flat ps)) e);
  }

  -- pairs after pairs
  pub written_both : {ps qs rs : List Pair} {m n : List ℕ} {i r : ℕ} → ps ++ qs ≡ rs → Written ps at l m i → Written qs i m n r → Written rs at l n r
  written_both {ps} {qs} e v w = record {
    next = omega (arith, v.next, w.next, length-append ps qs, ap length e);
    stored =
        let k : 2 * (at + length ps) ≡ 2 * at + length (flat ps) = omega (arith, length-flat ps) in
        w.stored ∙ (λ i. sets (v.stored i) (2 * v.next i) (flat qs)) ∙ ap (λ (k : ℕ). sets (sets l (2 * at) (flat ps)) k (flat qs)) k
        ∙ sym (sets_append l (2 * at) (flat ps) (flat qs)) ∙ ap (sets l (2 * at)) (sym (flat_append ps qs)) ∙ ap (λ (ps : List Pair). sets l (2 * at) (flat ps)) e;
  }

-- from the front
pub written-front : {ps : List Pair} {l m : List ℕ} {r : ℕ} → 2 * length ps ≤ length l → Written ps 0 l m r → (r ≡ length ps) × (m ≡ overwrite (flat ps) l)
written-front {ps} {l} h w =
    let e : 0 + length (flat ps) ≤ length l = omega (arith, length-flat ps) in
    (w.next ∙ zero-add (length ps), w.stored ∙ sets-eq (flat ps) l 0 e ∙ ap (λ (k : ℕ). flat ps ++ drop k l) (zero-add (length (flat ps))))

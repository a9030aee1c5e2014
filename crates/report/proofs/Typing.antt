-- Text that is written in parts is written whole.
use Prim.Native.Nat.{ℕ, zero, suc, ◌+◌, ◌*◌, ◌≤◌, ◌<◌, min}
use native.Mathlib.Omega.{arith}
use native.Mathlib.Nat.{add-zero}
use mathlib.Core.Path.{◌≡◌, refl, sym, ap, ◌∙◌}
use mathlib.Core.Logic.{◌⊎◌, inl, inr}
use mathlib.Core.List.{List, [], ◌∷◌, ◌++◌, append-nil, append_assoc}
use lib.ListN.{length, get_or, take, set, length-set, length-append}
use lib.Seq.{take-length, set_out, set_at}
use Rattle.bits.proofs.Tests.{le_or_lt}
use Rattle.model.specs.Lists.{overwrite}
use Rattle.report.specs.Report.{line_of, lines_of, shown}
use Rattle.report.specs.Types.{typed, Types}

-- past the end nothing is written
typed_past : (t : List ℕ) (at : ℕ) (out : List ℕ) → length out ≤ at → typed t at out ≡ out
typed_past [] at out l = refl
typed_past (b ∷ t) at out l = ap (typed t (suc at)) (set_out out at b l) ∙ typed_past t (suc at) out (omega arith)

typed-append : (t u : List ℕ) (at : ℕ) (out : List ℕ) → typed (t ++ u) at out ≡ typed u (at + length t) (typed t at out)
typed-append [] u at out = ap (λ (n : ℕ). typed u n out) (sym (add-zero at))
typed-append (b ∷ t) u at out =
    let e : suc at + length t ≡ at + suc (length t) = omega arith in
    typed-append t u (suc at) (set out at b) ∙ ap (λ (n : ℕ). typed u n (typed t (suc at) (set out at b))) e

pub types_nil : (at : ℕ) (out : List ℕ) → at ≤ length out → Types [] at out at out
types_nil at out l = record { place = omega arith; content = refl; within = l; size = refl }

pub types_byte : (b at : ℕ) (out : List ℕ) → at < length out → Types (b ∷ []) at out (at + 1) (set out at b)
types_byte b at out l = record { place = omega arith; content = refl; within = omega (arith, length-set out at b); size = length-set out at b }

pub types_full : (b at : ℕ) (out : List ℕ) → length out ≤ at → at ≤ length out → Types (b ∷ []) at out at out
types_full b at out l m = record { place = omega arith; content = sym (set_out out at b l); within = m; size = refl }

pub types_append : {t u : List ℕ} {at p q : ℕ} {a b c : List ℕ} → Types t at a p b → Types u p b q c → Types (t ++ u) at a q c
types_append {t} {u} {at} {p} {q} {a} {b} {c} x y =
    record {
      place = omega (arith, length-append t u);
      content = y.content ∙ go (le_or_lt (at + length t) (length a)) ∙ ap (typed u (at + length t)) x.content ∙ sym (typed-append t u at a);
      within = y.within;
      size = y.size ∙ x.size;
    }
  where
    go : (at + length t ≤ length a) ⊎ (length a < at + length t) → typed u p b ≡ typed u (at + length t) b
    go (inl l) = let e : p ≡ at + length t = omega (arith, x.place) in ap (λ (n : ℕ). typed u n b) e
    go (inr l) =
        typed_past u p b (omega (arith, x.place, x.size)) ∙ sym (typed_past u (at + length t) b (omega (arith, x.size)))

-- the whole of a text, from the start of a slice
typed-front : (t front out : List ℕ) (at : ℕ) → length front ≡ at → typed t at (front ++ out) ≡ front ++ take (length out) (overwrite t out)
typed-front [] front out at e = ap (λ (r : List ℕ). front ++ r) (sym (take-length out))
typed-front (b ∷ t) front [] at e = typed_past (b ∷ t) at (front ++ []) (omega (arith, length-append front []))
typed-front (b ∷ t) front (x ∷ out) at e =
    let here : List ℕ = b ∷ [] in
    ap (typed t (suc at)) (set_at front x out b at e ∙ sym (append_assoc front here out))
    ∙ typed-front t (front ++ here) out (suc at) (omega (arith, length-append front here))
    ∙ append_assoc front here (take (length out) (overwrite t out))

pub types_shown : {t : List ℕ} {r : ℕ} {before after : List ℕ} → Types t 0 before r after → record { size = r; output = after } ≡ shown t before
types_shown {t} {r} {before} {after} x =
    let size : r ≡ min (length t) (length before) = omega arith in
    let output = x.content ∙ typed-front t [] before 0 refl in
    λ i. record { size = size i; output = output i }

-- a line more
pub lines_suc : (i : ℕ) (out : List ℕ) → 3 * suc i ≤ length out
    → lines_of (take (3 * suc i) out) ≡ lines_of (take (3 * i) out) ++ line_of (get_or out (3 * i) 0) (get_or out (3 * i + 1) 0) (get_or out (3 * i + 2) 0)
lines_suc i [] l = absurd (omega arith)
lines_suc i (a ∷ []) l = absurd (omega arith)
lines_suc i (a ∷ b ∷ []) l = absurd (omega arith)
lines_suc zero (a ∷ b ∷ c ∷ out) l = append-nil (line_of a b c)
lines_suc (suc i) (a ∷ b ∷ c ∷ out) l =
    let numbers : List ℕ = a ∷ b ∷ c ∷ out in
    let end : 3 * suc (suc i) ≡ suc (suc (suc (3 * suc i))) = omega arith in
    let first : suc (suc (suc (3 * i))) ≡ 3 * suc i = omega arith in
    let second : suc (suc (suc (3 * i + 1))) ≡ 3 * suc i + 1 = omega arith in
    let third : suc (suc (suc (3 * i + 2))) ≡ 3 * suc i + 2 = omega arith in
    ap (λ (n : ℕ). lines_of (take n numbers)) end
    ∙ ap (λ (t : List ℕ). line_of a b c ++ t) (lines_suc i out (omega arith))
    ∙ sym (append_assoc (line_of a b c) (lines_of (take (3 * i) out)) (line_of (get_or out (3 * i) 0) (get_or out (3 * i + 1) 0) (get_or out (3 * i + 2) 0)))
    ∙ (λ j. lines_of (take (first j) numbers) ++ line_of (get_or numbers (first j) 0) (get_or numbers (second j) 0) (get_or numbers (third j) 0))

-- The parser at a place of a question: what it does at the number there.
use Prim.Native.Nat.{ℕ, zero, suc, ◌+◌, ◌≤◌, ◌<◌}
use native.Mathlib.Nat.{not-suc-le-zero}
use native.Mathlib.Numerals.{add-one}
use native.Mathlib.Omega.{arith}
use mathlib.Core.Path.{◌≡◌, refl, sym, ap, ◌∙◌}
use mathlib.Core.List.{List, [], ◌∷◌, map}
use mathlib.Core.Logic.{◌⊎◌, inl, inr, ⊎_elim}
use mathlib.Core.Option.{Option, none, some}
use mathlib.Core.Bool.{Bool, true, false, cond}
use lib.ListN.{length, get_or, drop, drop_of_length-le}
use lib.Seq.{drop-cons}
use lib.Dec.{ltb, eqb}
use borrow.Author.Tests.{ltb-true, ltb-false, lt-ltb, eqb-true}
use Rattle.model.specs.Grammar.{Token, word, and_mark, or_mark, not_mark, opens, closes, neither, token}
use Rattle.model.specs.Reading.{Algebra, Frame, State, wanting, having, unread, joined, step, wrap, outcome}
use Rattle.matching.specs.Parsing.{number_at, algebra, onward}

-- within a list it does not matter what stands beyond its end
pub get_or-within : (a b : ℕ) (l : List ℕ) (i : ℕ) → i < length l → get_or l i a ≡ get_or l i b
get_or-within a b [] i h = absurd (not-suc-le-zero h)
get_or-within a b (x ∷ xs) zero h = refl
get_or-within a b (x ∷ xs) (suc i) h = get_or-within a b xs i (omega arith)

-- a number other than the one beyond the end stands within
pub within : (question : List ℕ) (at : ℕ) → (number_at question at ≡ 65535 → ⊥) → at < length question
within [] at h = absurd (h refl)
within (x ∷ xs) zero h = omega arith
within (x ∷ xs) (suc at) h = omega (arith, within xs at h)

-- ---- the kinds of numbers

data Kind (n : ℕ) : Token → Type 0 where
  is_term : n < 4096 → Kind n (word n)
  is_conj : n ≡ 60000 → Kind n and_mark
  is_disj : n ≡ 60001 → Kind n or_mark
  is_neg : n ≡ 60002 → Kind n not_mark
  is_lparen : n ≡ 60003 → Kind n opens
  is_rparen : n ≡ 60004 → Kind n closes
  is_invalid : Kind n neither

kind : (n : ℕ) → Kind n (token n)
kind n = by (ltb n 4096) (eqb n 60000) (eqb n 60001) (eqb n 60002) (eqb n 60003) (eqb n 60004) refl refl refl refl refl refl
  where
    by : (a b c d e f : Bool) → ltb n 4096 ≡ a → eqb n 60000 ≡ b → eqb n 60001 ≡ c → eqb n 60002 ≡ d → eqb n 60003 ≡ e → eqb n 60004 ≡ f
        → Kind n (cond a (word n) (cond b and_mark (cond c or_mark (cond d not_mark (cond e opens (cond f closes neither))))))
    by true b c d e f p q r s t u = is_term (ltb-true n 4096 p)
    by false true c d e f p q r s t u = is_conj (eqb-true n 60000 q)
    by false false true d e f p q r s t u = is_disj (eqb-true n 60001 r)
    by false false false true e f p q r s t u = is_neg (eqb-true n 60002 s)
    by false false false false true f p q r s t u = is_lparen (eqb-true n 60003 t)
    by false false false false false true p q r s t u = is_rparen (eqb-true n 60004 u)
    by false false false false false false p q r s t u = is_invalid

token_term : (n : ℕ) → n < 4096 → token n ≡ word n
token_term n h = rw (lt-ltb n 4096 h)

-- ---- one step

module _ {A : Type 0} (alg : Algebra A) where
  outcome-unread : (ts : List Token) → outcome alg ts unread ≡ none
  outcome-unread [] = refl
  outcome-unread (t ∷ ts) = outcome-unread ts

  -- no operand starts with the number
  no_operand : {n : ℕ} (t : Token) (d : ℕ) (fs : List (Frame A)) (f : Frame A) → Kind n t → 4096 ≤ n → (n ≡ 60002 → ⊥) → (n ≡ 60003 → ⊥)
      → step alg t (wanting d fs f) ≡ unread
  no_operand t d fs f (is_term h) p q r = absurd (omega arith)
  no_operand t d fs f (is_conj h) p q r = refl
  no_operand t d fs f (is_disj h) p q r = refl
  no_operand t d fs f (is_neg h) p q r = absurd (q h)
  no_operand t d fs f (is_lparen h) p q r = absurd (r h)
  no_operand t d fs f (is_rparen h) p q r = refl
  no_operand t d fs f is_invalid p q r = refl

  -- but for 'and' it does not matter whether a disjunction is joined already
  settles : {n : ℕ} (t : Token) (d : ℕ) (fs : List (Frame A)) (o : Option A) (a : A) → Kind n t → (n ≡ 60000 → ⊥)
      → step alg t (having d fs o a) ≡ step alg t (having d fs none (joined alg o a))
  settles t d fs o a (is_term h) p = refl
  settles t d fs o a (is_conj h) p = absurd (p h)
  settles t d fs o a (is_disj h) p = refl
  settles t d fs o a (is_neg h) p = refl
  settles t d fs o a (is_lparen h) p = refl
  settles t d [] o a (is_rparen h) p = refl
  settles t d (f ∷ fs) o a (is_rparen h) p = refl
  settles t d fs o a is_invalid p = refl

  not_closed : {n : ℕ} (t : Token) (d : ℕ) (fs : List (Frame A)) (o : Option A) (a : A) → Kind n t → (n ≡ 60000 → ⊥) → (n ≡ 60001 → ⊥) → (n ≡ 60004 → ⊥)
      → step alg t (having d fs o a) ≡ unread
  not_closed t d fs o a (is_term h) p q r = refl
  not_closed t d fs o a (is_conj h) p q r = absurd (p h)
  not_closed t d fs o a (is_disj h) p q r = absurd (q h)
  not_closed t d fs o a (is_neg h) p q r = refl
  not_closed t d fs o a (is_lparen h) p q r = refl
  not_closed t d fs o a (is_rparen h) p q r = absurd (r h)
  not_closed t d fs o a is_invalid p q r = refl

  -- outside of every bracket a bracket does not close either
  trails : {n : ℕ} (t : Token) (d : ℕ) (o : Option A) (a : A) → Kind n t → (n ≡ 60000 → ⊥) → (n ≡ 60001 → ⊥) → step alg t (having d [] o a) ≡ unread
  trails t d o a (is_term h) p q = refl
  trails t d o a (is_conj h) p q = absurd (p h)
  trails t d o a (is_disj h) p q = absurd (q h)
  trails t d o a (is_neg h) p q = refl
  trails t d o a (is_lparen h) p q = refl
  trails t d o a (is_rparen h) p q = refl
  trails t d o a is_invalid p q = refl

  wrap_settles : (d : ℕ) (fs : List (Frame A)) (o : Option A) (a : A) → wrap (joined alg) (having d fs o a) ≡ wrap (joined alg) (having d fs none (joined alg o a))
  wrap_settles d [] o a = refl
  wrap_settles d (f ∷ fs) o a = refl

-- ---- at a place of a question

pub before_or_not : (i n : ℕ) → (i < n) ⊎ (n ≤ i)
before_or_not i n = by (ltb i n) refl
  where
    by : (b : Bool) → ltb i n ≡ b → (i < n) ⊎ (n ≤ i)
    by true e = inl (ltb-true i n e)
    by false e = inr (ltb-false i n e)

module _ (setOf : ℕ → ℕ) (question : List ℕ) (at : ℕ) where
  steps : at < length question → (s : State ℕ) → onward setOf question at s ≡ onward setOf question (at + 1) (step (algebra setOf question) (token (number_at question at)) s)
  steps h s = rw (add-one at, drop-cons question at 65535 h)

  ends : length question ≤ at → (s : State ℕ) → onward setOf question at s ≡ wrap (joined (algebra setOf question)) s
  ends h s = rw (drop_of_length-le question h)

  -- where a step goes wrong
  stuck : (s : State ℕ) → step (algebra setOf question) (token (number_at question at)) s ≡ unread → wrap (joined (algebra setOf question)) s ≡ none → onward setOf question at s ≡ none
  stuck s wrong none_read = ⊎_elim
      (λ h. steps h s ∙ ap (onward setOf question (at + 1)) wrong ∙ outcome-unread (algebra setOf question) (map token (drop (at + 1) question)))
      (λ h. ends h s ∙ none_read)
      (before_or_not at (length question))

  pub at-token : (t : Token) → token (number_at question at) ≡ t → at < length question → (s : State ℕ) → onward setOf question at s ≡ onward setOf question (at + 1) (step (algebra setOf question) t s)
  at-token t e h s = steps h s ∙ ap (λ u. onward setOf question (at + 1) (step (algebra setOf question) u s)) e

  pub at_term : number_at question at < 4096 → (s : State ℕ) → onward setOf question at s ≡ onward setOf question (at + 1) (step (algebra setOf question) (word (number_at question at)) s)
  at_term h s = at-token (word (number_at question at)) (token_term (number_at question at) h) (within question at (λ e. omega arith)) s

  pub at_mark : (mark : ℕ) → mark < 65535 → number_at question at ≡ mark → (s : State ℕ) → onward setOf question at s ≡ onward setOf question (at + 1) (step (algebra setOf question) (token mark) s)
  at_mark mark h e s = at-token (token mark) (ap token e) (within question at (λ f. omega arith)) s

  pub at_no_operand : 4096 ≤ number_at question at → (number_at question at ≡ 60002 → ⊥) → (number_at question at ≡ 60003 → ⊥)
      → (d : ℕ) (fs : List (Frame ℕ)) (f : Frame ℕ) → onward setOf question at (wanting d fs f) ≡ none
  at_no_operand p q r d fs f =
      stuck (wanting d fs f) (no_operand (algebra setOf question) (token (number_at question at)) d fs f (kind (number_at question at)) p q r) refl

  pub at_no_bracket : number_at question at ≡ 60003 → (fs : List (Frame ℕ)) (f : Frame ℕ) → onward setOf question at (wanting 0 fs f) ≡ none
  at_no_bracket e fs f = stuck (wanting 0 fs f) (ap (λ n. step (algebra setOf question) (token n) (wanting 0 fs f)) e) refl

  pub at-settled : (number_at question at ≡ 60000 → ⊥) → (d : ℕ) (fs : List (Frame ℕ)) (o : Option ℕ) (a : ℕ)
      → onward setOf question at (having d fs o a) ≡ onward setOf question at (having d fs none (joined (algebra setOf question) o a))
  at-settled p d fs o a = ⊎_elim
      (λ h. steps h (having d fs o a)
      ∙ ap (onward setOf question (at + 1)) (settles (algebra setOf question) (token (number_at question at)) d fs o a (kind (number_at question at)) p)
      ∙ sym (steps h (having d fs none (joined (algebra setOf question) o a))))
      (λ h. ends h (having d fs o a) ∙ wrap_settles (algebra setOf question) d fs o a ∙ sym (ends h (having d fs none (joined (algebra setOf question) o a))))
      (before_or_not at (length question))

  pub at_unclosed : (number_at question at ≡ 60000 → ⊥) → (number_at question at ≡ 60001 → ⊥) → (number_at question at ≡ 60004 → ⊥)
      → (d : ℕ) (f : Frame ℕ) (fs : List (Frame ℕ)) (o : Option ℕ) (a : ℕ) → onward setOf question at (having d (f ∷ fs) o a) ≡ none
  at_unclosed p q r d f fs o a =
      stuck (having d (f ∷ fs) o a) (not_closed (algebra setOf question) (token (number_at question at)) d (f ∷ fs) o a (kind (number_at question at)) p q r) refl

  pub at-end : at ≡ length question → (d : ℕ) (a : ℕ) → onward setOf question at (having d [] none a) ≡ some a
  at-end h d a = ends (omega arith) (having d [] none a)

  pub at_trailing : (number_at question at ≡ 60000 → ⊥) → (number_at question at ≡ 60001 → ⊥) → at < length question → (d : ℕ) (a : ℕ) → onward setOf question at (having d [] none a) ≡ none
  at_trailing p q h d a =
      steps h (having d [] none a)
      ∙ ap (onward setOf question (at + 1)) (trails (algebra setOf question) (token (number_at question at)) d none a (kind (number_at question at)) p q)
      ∙ outcome-unread (algebra setOf question) (map token (drop (at + 1) question))

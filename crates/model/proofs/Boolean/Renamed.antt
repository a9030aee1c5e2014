-- Words may be renamed: where each word of two lists of tokens stands for the same in two algebras that differ in their leaves alone, and all else is the
-- same token, both are read as the same.
use Prim.Native.Nat.{ℕ, zero, suc}
use mathlib.Core.Path.{◌≡◌, refl, ap, ◌∙◌}
use mathlib.Core.List.{List, [], ◌∷◌}
use mathlib.Core.Option.{none}
use Rattle.model.specs.Grammar.{Token, word, and_mark, or_mark, not_mark, opens, closes, neither}
use Rattle.model.specs.Reading.{Algebra, State, wanting, having, unread, joined, put, step, run, wrap, result, fresh}

module _ {A : Type 0} (alg : Algebra A) where
  -- the algebra with other leaves
  abbrev pub leaved : (ℕ → A) → Algebra A
  leaved f = record { leaf = f; complemented = alg.complemented; meet = alg.meet; join = alg.join }

  module _ (f g : ℕ → A) where
    -- both are words that stand for the same, or one mark
    pub data SameToken : Token → Token → Type 0 where
      same_word : {t u : ℕ} → f t ≡ g u → SameToken (word t) (word u)
      same_and : SameToken and_mark and_mark
      same_or : SameToken or_mark or_mark
      same_not : SameToken not_mark not_mark
      same_opens : SameToken opens opens
      same_closes : SameToken closes closes
      same_neither : SameToken neither neither

    pub data SameTokens : List Token → List Token → Type 0 where
      same_end : SameTokens [] []
      same_more : {t u : Token} {ts us : List Token} → SameToken t u → SameTokens ts us → SameTokens (t ∷ ts) (u ∷ us)

    step_same : (t u : Token) → SameToken t u → (s : State A) → step (leaved f) t s ≡ step (leaved g) u s
    step_same t u (same_word e) (wanting d fs h) = ap (put alg d fs h) e
    step_same t u (same_word e) (having d fs o a) = refl
    step_same t u (same_word e) unread = refl
    step_same t u same_and (wanting d fs h) = refl
    step_same t u same_and (having d fs o a) = refl
    step_same t u same_and unread = refl
    step_same t u same_or (wanting d fs h) = refl
    step_same t u same_or (having d fs o a) = refl
    step_same t u same_or unread = refl
    step_same t u same_not (wanting d fs h) = refl
    step_same t u same_not (having d fs o a) = refl
    step_same t u same_not unread = refl
    step_same t u same_opens (wanting zero fs h) = refl
    step_same t u same_opens (wanting (suc d) fs h) = refl
    step_same t u same_opens (having d fs o a) = refl
    step_same t u same_opens unread = refl
    step_same t u same_closes (wanting d fs h) = refl
    step_same t u same_closes (having d [] o a) = refl
    step_same t u same_closes (having d (h ∷ fs) o a) = refl
    step_same t u same_closes unread = refl
    step_same t u same_neither (wanting d fs h) = refl
    step_same t u same_neither (having d fs o a) = refl
    step_same t u same_neither unread = refl

    run_same : (ts us : List Token) → SameTokens ts us → (s : State A) → run (leaved f) ts s ≡ run (leaved g) us s
    run_same ts us same_end s = refl
    run_same ts us (same_more {t = t} {u = u} {ts = vs} {us = ws} h hs) s =
        run_same vs ws hs (step (leaved f) t s) ∙ ap (run (leaved g) ws) (step_same t u h s)

    wrap_same : (s : State A) → wrap (joined (leaved f)) s ≡ wrap (joined (leaved g)) s
    wrap_same (wanting d fs h) = refl
    wrap_same (having d [] o a) = refl
    wrap_same (having d (h ∷ fs) o a) = refl
    wrap_same unread = refl

    pub result_same : (ts us : List Token) → SameTokens ts us → result (leaved f) ts ≡ result (leaved g) us
    result_same ts us h =
        let start : State A = wanting 8 [] (fresh none) in
        wrap_same (run (leaved f) ts start) ∙ ap (wrap (joined (leaved g))) (run_same ts us h start)

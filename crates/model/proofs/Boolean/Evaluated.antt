-- Parsing in an algebra is parsing into an expression and then evaluating it.
use Prim.Native.Nat.{ℕ, zero, suc}
use mathlib.Core.Path.{◌≡◌, refl, ap, ◌∙◌}
use mathlib.Core.List.{List, [], ◌∷◌, map}
use mathlib.Core.Option
use mathlib.Core.Option.{Option, none, some}
use Rattle.model.specs.Grammar.{Token, word, and_mark, or_mark, not_mark, opens, closes, neither, Expression, term, complement, Reads}
use Rattle.model.specs.Reading.{Algebra, evaluate, Frame, State, wanting, having, unread, fresh, joined, met, negated, put, step, run, wrap, result, expressions, reading_of}
use Rattle.model.proofs.Boolean.Complete.{complete}

module _ {A : Type 0} (alg : Algebra A) where
  abbrev frame : Frame Expression → Frame A
  frame f = record { disjunct = Option.map (evaluate alg) f.disjunct; conjunct = Option.map (evaluate alg) f.conjunct; negations = f.negations }

  abbrev state : State Expression → State A
  state (wanting d fs f) = wanting d (map frame fs) (frame f)
  state (having d fs o e) = having d (map frame fs) (Option.map (evaluate alg) o) (evaluate alg e)
  state unread = unread

  joined_evaluated : (o : Option Expression) (e : Expression) → joined alg (Option.map (evaluate alg) o) (evaluate alg e) ≡ evaluate alg (joined expressions o e)
  joined_evaluated none e = refl
  joined_evaluated (some f) e = refl

  met_evaluated : (o : Option Expression) (e : Expression) → met alg (Option.map (evaluate alg) o) (evaluate alg e) ≡ evaluate alg (met expressions o e)
  met_evaluated none e = refl
  met_evaluated (some f) e = refl

  negated_evaluated : (n : ℕ) (e : Expression) → negated alg n (evaluate alg e) ≡ evaluate alg (negated expressions n e)
  negated_evaluated zero e = refl
  negated_evaluated (suc n) e = negated_evaluated n (complement e)

  put_evaluated : (d : ℕ) (fs : List (Frame Expression)) (f : Frame Expression) (e : Expression) → put alg d (map frame fs) (frame f) (evaluate alg e) ≡ state (put expressions d fs f e)
  put_evaluated d fs f e = rw (negated_evaluated f.negations e, met_evaluated f.conjunct (negated expressions f.negations e))

  step_evaluated : (t : Token) (s : State Expression) → step alg t (state s) ≡ state (step expressions t s)
  step_evaluated (word t) (wanting d fs f) = put_evaluated d fs f (term t)
  step_evaluated not_mark (wanting d fs f) = refl
  step_evaluated opens (wanting zero fs f) = refl
  step_evaluated opens (wanting (suc d) fs f) = refl
  step_evaluated and_mark (wanting d fs f) = refl
  step_evaluated or_mark (wanting d fs f) = refl
  step_evaluated closes (wanting d fs f) = refl
  step_evaluated neither (wanting d fs f) = refl
  step_evaluated and_mark (having d fs o e) = refl
  step_evaluated or_mark (having d fs o e) = rw (joined_evaluated o e)
  step_evaluated closes (having d [] o e) = refl
  step_evaluated closes (having d (f ∷ fs) o e) = rw (joined_evaluated o e) (put_evaluated (suc d) fs f (joined expressions o e))
  step_evaluated (word t) (having d fs o e) = refl
  step_evaluated not_mark (having d fs o e) = refl
  step_evaluated opens (having d fs o e) = refl
  step_evaluated neither (having d fs o e) = refl
  step_evaluated t unread = refl

  run_evaluated : (ts : List Token) (s : State Expression) → run alg ts (state s) ≡ state (run expressions ts s)
  run_evaluated [] s = refl
  run_evaluated (t ∷ ts) s = ap (run alg ts) (step_evaluated t s) ∙ run_evaluated ts (step expressions t s)

  wrap_evaluated : (s : State Expression) → wrap (joined alg) (state s) ≡ Option.map (evaluate alg) (wrap (joined expressions) s)
  wrap_evaluated (wanting d fs f) = refl
  wrap_evaluated (having d [] o e) = ap {B = Option A} some (joined_evaluated o e)
  wrap_evaluated (having d (f ∷ fs) o e) = refl
  wrap_evaluated unread = refl

  pub result_evaluated : (ts : List Token) → result alg ts ≡ Option.map (evaluate alg) (reading_of ts)
  result_evaluated ts = ap (wrap (joined alg)) (run_evaluated ts (wanting 8 [] (fresh none))) ∙ wrap_evaluated (run expressions ts (wanting 8 [] (fresh none)))

  pub result_reads : (ts : List Token) (e : Expression) → Reads ts e → result alg ts ≡ some (evaluate alg e)
  result_reads ts e r = result_evaluated ts ∙ ap (Option.map (evaluate alg)) (complete ts e r)

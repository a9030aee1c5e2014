-- The reading of a question with and, or, not, computed number by number. Document 02, M-104. That it is the grammar's only reading, and is found just
-- where there is one, is `found`, `found_reads` and `only` in proofs/Boolean/Theorem.
use Rattle.std.specs.Prelude.{ℕ, zero, suc, List, [], ◌∷◌, map, cond, length, leb}
use Rattle.std.proofs.Math.Option.{Option, none, some}
use Rattle.model.specs.Grammar.{Token, word, and_mark, or_mark, not_mark, opens, closes, neither, token, Expression, term, complement, both, either}

-- what a term, 'not', 'and' and 'or' stand for: expressions, truth, or sets
pub record Algebra (A : Type 0) : Type 0 where
  pub leaf : ℕ → A
  pub complemented : A → A
  pub meet : A → A → A
  pub join : A → A → A

module _ {A : Type 0} (alg : Algebra A) where
  -- what an expression stands for
  abbrev pub evaluate : Expression → A
  evaluate (term t) = alg.leaf t
  evaluate (complement e) = alg.complemented (evaluate e)
  evaluate (both e f) = alg.meet (evaluate e) (evaluate f)
  evaluate (either e f) = alg.join (evaluate e) (evaluate f)

-- where an operand is wanted: the disjunction before it, the conjunction before it, and the negations in front of it
pub record Frame (A : Type 0) : Type 0 where
  pub disjunct : Option A
  pub conjunct : Option A
  pub negations : ℕ

-- a state has the number of brackets that may yet be opened, and a frame for each open bracket
pub data State (A : Type 0) : Type 0 where
  wanting : ℕ → List (Frame A) → Frame A → State A
  having : ℕ → List (Frame A) → Option A → A → State A
  unread : State A

module _ {A : Type 0} where
  -- where an operand is wanted first in a conjunction
  abbrev pub fresh : Option A → Frame A
  fresh o = record { disjunct = o; conjunct = none; negations = 0 }

  -- after 'and'
  abbrev pub after : Option A → A → Frame A
  after o a = record { disjunct = o; conjunct = some a; negations = 0 }

  -- after 'not'
  abbrev pub denied : Frame A → Frame A
  denied f = record { disjunct = f.disjunct; conjunct = f.conjunct; negations = suc f.negations }

  -- what is read at the end: nothing where an operand is wanted or a bracket is open
  abbrev pub wrap : (Option A → A → A) → State A → Option A
  wrap join (wanting d fs f) = none
  wrap join (having d [] o a) = some (join o a)
  wrap join (having d (f ∷ fs) o a) = none
  wrap join unread = none

module _ {A : Type 0} (alg : Algebra A) where
  abbrev pub joined : Option A → A → A
  joined none a = a
  joined (some o) a = alg.join o a

  abbrev pub met : Option A → A → A
  met none a = a
  met (some b) a = alg.meet b a

  abbrev pub negated : ℕ → A → A
  negated zero a = a
  negated (suc n) a = negated n (alg.complemented a)

  -- an operand where one is wanted
  abbrev pub put : ℕ → List (Frame A) → Frame A → A → State A
  put d fs f a = having d fs f.disjunct (met f.conjunct (negated f.negations a))

  abbrev pub step : Token → State A → State A
  step (word t) (wanting d fs f) = put d fs f (alg.leaf t)
  step not_mark (wanting d fs f) = wanting d fs (denied f)
  step opens (wanting zero fs f) = unread
  step opens (wanting (suc d) fs f) = wanting d (f ∷ fs) (fresh none)
  step and_mark (wanting d fs f) = unread
  step or_mark (wanting d fs f) = unread
  step closes (wanting d fs f) = unread
  step neither (wanting d fs f) = unread
  step and_mark (having d fs o a) = wanting d fs (after o a)
  step or_mark (having d fs o a) = wanting d fs (fresh (some (joined o a)))
  step closes (having d [] o a) = unread
  step closes (having d (f ∷ fs) o a) = put (suc d) fs f (joined o a)
  step (word t) (having d fs o a) = unread
  step not_mark (having d fs o a) = unread
  step opens (having d fs o a) = unread
  step neither (having d fs o a) = unread
  step t unread = unread

  abbrev pub run : List Token → State A → State A
  run [] s = s
  run (t ∷ ts) s = run ts (step t s)

  -- what is read at the end of some tokens
  abbrev pub outcome : List Token → State A → Option A
  outcome ts s = wrap joined (run ts s)

  -- what the reading of some tokens stands for, or none
  abbrev pub result : List Token → Option A
  result ts = outcome ts (wanting 8 [] (fresh none))

abbrev pub expressions : Algebra Expression
expressions = record { leaf = term; complemented = complement; meet = both; join = either }

-- the reading of some tokens
abbrev pub reading_of : List Token → Option Expression
reading_of = result expressions

-- the reading of a question: none of more than 64 numbers
abbrev pub reading : List ℕ → Option Expression
reading question = cond (leb (length question) 64) (reading_of (map token question)) none

-- What the contracts of the parsing functions cite: the parser's state after a part of a question.
use Rattle.std.specs.Prelude.{ℕ, zero, suc, ◌+◌, ◌-◌, ◌^◌, ◌≤◌, ◌<◌, ◌≡◌, List, map, Bool, false, cond, length, get_or, drop, eqb}
use Rattle.std.proofs.Math.Option.{Option, none, some}
use Rattle.model.specs.Grammar.{token, Expression}
use Rattle.model.specs.Reading.{Algebra, evaluate, Frame, State, wanting, having, fresh, put, outcome}
use Rattle.matching.specs.Sets.{sets_by}
use Rattle.matching.specs.declared.Parse.{Parse}
use Rattle.matching.specs.declared.Parse.TheVariants.{Parsed, Unread}
use Rattle.matching.specs.declared.Matching.{Matching}
use Rattle.matching.specs.declared.Matching.TheVariants.{Documents, NoReading}

-- ---- the whole question

-- the set of a reading, by the set of each term; or that there is none
abbrev pub matching_of : (ℕ → ℕ) → Option Expression → Matching
matching_of setOf none = NoReading
matching_of setOf (some e) = Documents (evaluate (sets_by setOf) e)

-- ---- a part of it

-- the number at a place; beyond the end one that is neither a word nor a mark
abbrev pub number_at : List ℕ → ℕ → ℕ
number_at question at = get_or question at 65535

-- a mark follows what was parsed
abbrev pub follows : List ℕ → ℕ → Parse → Bool
follows question mark (Parsed set next) = eqb (number_at question next) mark
follows question mark Unread = false

-- the place after that mark
abbrev pub place_after : Parse → ℕ
place_after (Parsed set next) = next + 1
place_after Unread = 0

-- what was parsed before a mark and after it, together
abbrev pub together : (ℕ → ℕ → ℕ) → Parse → Parse → Parse
together op Unread second = Unread
together op (Parsed a i) Unread = Unread
together op (Parsed a i) (Parsed b j) = Parsed (op a b) j

abbrev pub complemented : Parse → Parse
complemented Unread = Unread
complemented (Parsed set next) = Parsed (2 ^ 64 - 1 - set) next

-- after so many 'not'
abbrev pub denied_by : ℕ → Parse → Parse
denied_by zero part = part
denied_by (suc n) part = complemented (denied_by n part)

-- from one place up to the other stands 'not', and there no more
pub record Nots (question : List ℕ) (at place : ℕ) : Type 0 where
  pub onward_from : at ≤ place
  pub all_not : (i : ℕ) → at ≤ i → i < place → number_at question i ≡ 60002
  pub no_more : number_at question place ≡ 60002 → ⊥

-- a bracket closes after what was parsed
abbrev pub closed : List ℕ → Parse → Parse
closed question Unread = Unread
closed question (Parsed set next) = cond (eqb (number_at question next) 60004) (Parsed set (next + 1)) Unread

-- a part ends where the question has a number, after the place where it starts
abbrev pub Advances : List ℕ → ℕ → Parse → Type 0
Advances question at (Parsed set next) = (at < next) × (next ≤ length question)
Advances question at Unread = Unit {0}

-- a mark does not follow
abbrev pub Stops : List ℕ → ℕ → Parse → Type 0
Stops question mark (Parsed set next) = number_at question next ≡ mark → ⊥
Stops question mark Unread = Unit {0}

module _ (setOf : ℕ → ℕ) (question : List ℕ) where
  abbrev pub algebra : Algebra ℕ
  algebra = sets_by setOf

  -- what is read from a place to the end
  abbrev pub onward : ℕ → State ℕ → Option ℕ
  onward at s = outcome algebra (map token (drop at question)) s

  -- the same after what was parsed
  abbrev pub resumed : (ℕ → State ℕ) → Parse → Option ℕ
  resumed state (Parsed set next) = onward next (state set)
  resumed state Unread = none

  -- what each function parses, where d brackets may yet be opened
  pub record Negation (at d : ℕ) (r : Parse) : Type 0 where
    pub advances : Advances question at r
    pub reads : (fs : List (Frame ℕ)) (f : Frame ℕ) → onward at (wanting d fs f) ≡ resumed (put algebra d fs f) r

  pub record Conjunction (at d : ℕ) (r : Parse) : Type 0 where
    pub advances : Advances question at r
    pub stops : Stops question 60000 r
    pub reads : (fs : List (Frame ℕ)) (o : Option ℕ) → onward at (wanting d fs (fresh o)) ≡ resumed (having d fs o) r

  pub record Disjunction (at d : ℕ) (r : Parse) : Type 0 where
    pub advances : Advances question at r
    pub no_conjunction : Stops question 60000 r
    pub no_disjunction : Stops question 60001 r
    pub reads : (fs : List (Frame ℕ)) → onward at (wanting d fs (fresh none)) ≡ resumed (having d fs none) r

-- Questions with and, or, not: their numbers, and which numbers are read as what. Document 02, M-104.
-- Nothing here is a parser: this is what a reading is. `specs/Reading` computes it, and `proofs/Boolean` shows that it finds the only one, just where there is one.
use Rattle.std.specs.Prelude.{ℕ, suc, ◌≤◌, List, [], ◌∷◌, ◌++◌, map, cond, length, ltb, eqb}

-- "words below 4,096, and 60,000 for and, 60,001 or, 60,002 not, 60,003 and 60,004 the brackets", or a number "that is neither word nor mark"
pub data Token : Type 0 where
  word : ℕ → Token
  and_mark : Token
  or_mark : Token
  not_mark : Token
  opens : Token
  closes : Token
  neither : Token

abbrev pub token : ℕ → Token
token n =
    cond (ltb n 4096) (word n)
    (cond (eqb n 60000) and_mark
    (cond (eqb n 60001) or_mark
    (cond (eqb n 60002) not_mark
    (cond (eqb n 60003) opens
    (cond (eqb n 60004) closes neither)))))

-- what a question is read as
pub data Expression : Type 0 where
  term : ℕ → Expression
  complement : Expression → Expression
  both : Expression → Expression → Expression
  either : Expression → Expression → Expression

-- "Not binds tightest, then and, then or": three levels, from the loosest
pub data Level : Type 0 where
  disjunction : Level
  conjunction : Level
  negation : Level

-- `Derives l d ts e`: at level l, with at most d brackets open at once, the tokens ts are read as e. A disjunction has a disjunction on its left only, and
-- a conjunction a conjunction: "equal ones group to the left".
pub data Derives : Level → ℕ → List Token → Expression → Type 0 where
  one_conjunction : {d : ℕ} {ts : List Token} {e : Expression} → Derives conjunction d ts e → Derives disjunction d ts e
  or : {d : ℕ} {ts us : List Token} {e f : Expression} → Derives disjunction d ts e → Derives conjunction d us f
      → Derives disjunction d (ts ++ or_mark ∷ us) (either e f)
  one_negation : {d : ℕ} {ts : List Token} {e : Expression} → Derives negation d ts e → Derives conjunction d ts e
  and : {d : ℕ} {ts us : List Token} {e f : Expression} → Derives conjunction d ts e → Derives negation d us f
      → Derives conjunction d (ts ++ and_mark ∷ us) (both e f)
  not : {d : ℕ} {ts : List Token} {e : Expression} → Derives negation d ts e → Derives negation d (not_mark ∷ ts) (complement e)
  bracket : {d : ℕ} {ts : List Token} {e : Expression} → Derives disjunction d ts e → Derives negation (suc d) (opens ∷ ts ++ closes ∷ []) e
  one_term : {d t : ℕ} → Derives negation d (word t ∷ []) (term t)

-- "brackets nest at most eight deep"
abbrev pub Reads : List Token → Expression → Type 0
Reads = Derives disjunction 8

-- a reading of a question, which is "up to 64 numbers"
pub record IsReading (question : List ℕ) (e : Expression) : Type 0 where
  pub few : length question ≤ 64
  pub reads : Reads (map token question) e

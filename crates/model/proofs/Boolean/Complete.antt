-- Whatever the grammar reads, the parser reads; so a question has at most one reading.
use Prim.Native.Nat.{ℕ, suc}
use mathlib.Core.Path.{◌≡◌, refl, ap, ◌∙◌}
use mathlib.Core.List.{List, [], ◌∷◌, ◌++◌, append_assoc, append-nil}
use mathlib.Core.Option.{Option, none, some}
use Rattle.model.specs.Grammar.{Token, and_mark, or_mark, opens, closes, Expression, both, either, Level, disjunction, conjunction, negation, Derives, one_conjunction, or, one_negation, and, not, bracket, one_term, Reads}
use Rattle.model.specs.Reading.{Frame, State, wanting, having, fresh, after, denied, joined, put, run, expressions, reading_of}

abbrev go : List Token → State Expression → State Expression
go = run expressions

-- the parser has come through the tokens of e: the last conjunction of e is not yet joined to the rest of e
record Through (d : ℕ) (fs : List (Frame Expression)) (ts rest : List Token) (e : Expression) : Type 0 where
  before : Option Expression
  last : Expression
  same : joined expressions before last ≡ e
  runs : go (ts ++ rest) (wanting d fs (fresh none)) ≡ go rest (having d fs before last)

-- what the parser does at the tokens of a reading
abbrev Read : Level → ℕ → List Token → Expression → Type 0
Read disjunction d ts e = (fs : List (Frame Expression)) (rest : List Token) → Through d fs ts rest e
Read conjunction d ts e = (fs : List (Frame Expression)) (o : Option Expression) (rest : List Token) → go (ts ++ rest) (wanting d fs (fresh o)) ≡ go rest (having d fs o e)
Read negation d ts e = (fs : List (Frame Expression)) (f : Frame Expression) (rest : List Token) → go (ts ++ rest) (wanting d fs f) ≡ go rest (put expressions d fs f e)

module _ (d : ℕ) (ts us : List Token) (e f : Expression) where
  past_or : Read disjunction d ts e → Read conjunction d us f → Read disjunction d (ts ++ or_mark ∷ us) (either e f)
  past_or r s fs rest =
      let t = r fs (or_mark ∷ us ++ rest) in
      record {
        before = some e;
        last = f;
        same = refl;
        runs = rw (append_assoc, t.runs) (ap (λ x. go (us ++ rest) (wanting d fs (fresh (some x)))) t.same ∙ s fs (some e) rest);
      }

  past_and : Read conjunction d ts e → Read negation d us f → Read conjunction d (ts ++ and_mark ∷ us) (both e f)
  past_and r s fs o rest = rw (append_assoc, r fs o (and_mark ∷ us ++ rest)) (s fs (after o e) rest)

past_bracket : (d : ℕ) (ts : List Token) (e : Expression) → Read disjunction d ts e → Read negation (suc d) (opens ∷ ts ++ closes ∷ []) e
past_bracket d ts e r fs f rest =
    let t = r (f ∷ fs) (closes ∷ rest) in
    rw (append_assoc, t.runs) (rw t.same)

reads : {l : Level} {d : ℕ} {ts : List Token} {e : Expression} → Derives l d ts e → Read l d ts e
reads (one_conjunction {e = e} r) = λ fs rest. record { before = none; last = e; same = refl; runs = reads r fs none rest }
reads (or {d = d} {ts = ts} {us = us} {e = e} {f = f} r s) = past_or d ts us e f (reads r) (reads s)
reads (one_negation r) = λ fs o rest. reads r fs (fresh o) rest
reads (and {d = d} {ts = ts} {us = us} {e = e} {f = f} r s) = past_and d ts us e f (reads r) (reads s)
reads (not r) = λ fs f rest. reads r fs (denied f) rest
reads (bracket {d = d} {ts = ts} {e = e} r) = past_bracket d ts e (reads r)
reads one_term = λ fs f rest. refl

pub complete : (ts : List Token) (e : Expression) → Reads ts e → reading_of ts ≡ some e
complete ts e r =
    let t = reads r [] [] in
    let runs : go ts (wanting 8 [] (fresh none)) ≡ having 8 [] t.before t.last = rw append-nil at t.runs in
    rw runs (rw t.same)

-- a question has at most one reading
pub unique : (ts : List Token) (e f : Expression) → Reads ts e → Reads ts f → e ≡ f
unique ts e f r s = cc (complete ts e r, complete ts f s)

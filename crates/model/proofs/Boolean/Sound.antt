-- Whatever the parser reads, the grammar reads: a state of the parser holds a part of a reading of the tokens before it.
use Prim.Native.Nat.{ℕ, zero, suc}
use mathlib.Core.Path.{◌≡◌, refl, sym}
use mathlib.Core.List.{List, [], ◌∷◌, ◌++◌, append_assoc, append-nil}
use mathlib.Core.Option.{Option, none, some, none-ne-some}
use Rattle.model.specs.Grammar.{Token, word, and_mark, or_mark, not_mark, opens, closes, neither, Expression, term, complement, disjunction, conjunction, negation, Derives, one_conjunction, or, one_negation, and, not, bracket, one_term, Reads}
use Rattle.model.specs.Reading.{Frame, State, wanting, having, unread, fresh, after, denied, joined, met, negated, put, step, run, wrap, expressions, reading_of}

-- the tokens us of the disjunction before a conjunction
abbrev Disjuncts : ℕ → Option Expression → List Token → Type 0
Disjuncts d o us = (vs : List Token) (e : Expression) → Derives conjunction d vs e → Derives disjunction d (us ++ vs) (joined expressions o e)

-- the tokens ws of the conjunction and of the negations before an operand
abbrev Conjuncts : ℕ → Frame Expression → List Token → Type 0
Conjuncts d f ws =
    (vs : List Token) (e : Expression) → Derives negation d vs e
    → Derives conjunction d (ws ++ vs) (met expressions f.conjunct (negated expressions f.negations e))

-- an operand is wanted after the tokens ts; the tokens up to the last open bracket are of one kind
record Waits (Outer : List Token → Type 0) (d : ℕ) (f : Frame Expression) (ts : List Token) : Type 0 where
  outer : List Token
  us : List Token
  ws : List Token
  opened : Outer outer
  disjuncts : Disjuncts d f.disjunct us
  conjuncts : Conjuncts d f ws
  split : ts ≡ outer ++ (us ++ ws)

record Has (Outer : List Token → Type 0) (d : ℕ) (o : Option Expression) (e : Expression) (ts : List Token) : Type 0 where
  outer : List Token
  us : List Token
  ws : List Token
  opened : Outer outer
  disjuncts : Disjuncts d o us
  derived : Derives conjunction d ws e
  split : ts ≡ outer ++ (us ++ ws)

-- the tokens up to the last open bracket, with a frame for each
abbrev Opened : ℕ → List (Frame Expression) → List Token → Type 0
Opened d [] ts = (d ≡ 8) × (ts ≡ [])
Opened d (f ∷ fs) ts = (before : List Token) × (ts ≡ before ++ opens ∷ []) × Waits (Opened (suc d) fs) (suc d) f before

abbrev Held : State Expression → List Token → Type 0
Held (wanting d fs f) ts = Waits (Opened d fs) d f ts
Held (having d fs o e) ts = Has (Opened d fs) d o e ts
Held unread ts = Unit {0}

-- ---- each step

disjuncts_first : (d : ℕ) → Disjuncts d none []
disjuncts_first d vs e r = one_conjunction r

conjuncts_first : (d : ℕ) (o : Option Expression) → Conjuncts d (fresh o) []
conjuncts_first d o vs e r = one_negation r

operand : {Outer : List Token → Type 0} {d : ℕ} {f : Frame Expression} (ts vs : List Token) (e : Expression) → Waits Outer d f ts → Derives negation d vs e
    → Has Outer d f.disjunct (met expressions f.conjunct (negated expressions f.negations e)) (ts ++ vs)
operand ts vs e w r = record {
  outer = w.outer;
  us = w.us;
  ws = w.ws ++ vs;
  opened = w.opened;
  disjuncts = w.disjuncts;
  derived = w.conjuncts vs e r;
  split = rw w.split (simp append_assoc);
}

denying : {Outer : List Token → Type 0} {d : ℕ} {f : Frame Expression} (ts : List Token) → Waits Outer d f ts → Waits Outer d (denied f) (ts ++ not_mark ∷ [])
denying ts w = record {
  outer = w.outer;
  us = w.us;
  ws = w.ws ++ not_mark ∷ [];
  opened = w.opened;
  disjuncts = w.disjuncts;
  conjuncts = λ vs e r. rw append_assoc (w.conjuncts (not_mark ∷ vs) (complement e) (not r));
  split = rw w.split (simp append_assoc);
}

opening : (d : ℕ) (fs : List (Frame Expression)) (f : Frame Expression) (ts : List Token) → Waits (Opened (suc d) fs) (suc d) f ts → Waits (Opened d (f ∷ fs)) d (fresh none) (ts ++ opens ∷ [])
opening d fs f ts w = record {
  outer = ts ++ opens ∷ [];
  us = [];
  ws = [];
  opened = (ts, refl, w);
  disjuncts = disjuncts_first d;
  conjuncts = conjuncts_first d none;
  split = sym (append-nil (ts ++ opens ∷ []));
}

conjoining : {Outer : List Token → Type 0} {d : ℕ} {o : Option Expression} {e : Expression} (ts : List Token) → Has Outer d o e ts → Waits Outer d (after o e) (ts ++ and_mark ∷ [])
conjoining ts h = record {
  outer = h.outer;
  us = h.us;
  ws = h.ws ++ and_mark ∷ [];
  opened = h.opened;
  disjuncts = h.disjuncts;
  conjuncts = λ vs g r. rw append_assoc (and h.derived r);
  split = rw h.split (simp append_assoc);
}

disjoining : {Outer : List Token → Type 0} {d : ℕ} {o : Option Expression} {e : Expression} (ts : List Token) → Has Outer d o e ts → Waits Outer d (fresh (some (joined expressions o e))) (ts ++ or_mark ∷ [])
disjoining {d = d} {o = o} {e = e} ts h = record {
  outer = h.outer;
  us = (h.us ++ h.ws) ++ or_mark ∷ [];
  ws = [];
  opened = h.opened;
  disjuncts = λ vs g r. rw (append_assoc (h.us ++ h.ws) (or_mark ∷ []) vs) (or (h.disjuncts h.ws e h.derived) r);
  conjuncts = conjuncts_first d (some (joined expressions o e));
  split = rw h.split (simp (append_assoc, append-nil));
}

closing : (d : ℕ) (fs : List (Frame Expression)) (f : Frame Expression) (o : Option Expression) (e : Expression) (ts : List Token) → Has (Opened d (f ∷ fs)) d o e ts
    → Held (put expressions (suc d) fs f (joined expressions o e)) (ts ++ closes ∷ [])
closing d fs f o e ts h =
    let (before, at, w) = h.opened in
    let inner = h.disjuncts h.ws e h.derived in
    let same : ts ++ closes ∷ [] ≡ before ++ (opens ∷ (h.us ++ h.ws) ++ closes ∷ []) = rw (h.split, at) (simp append_assoc) in
    rw same (operand before (opens ∷ (h.us ++ h.ws) ++ closes ∷ []) (joined expressions o e) w (bracket inner))

held-step : (t : Token) (s : State Expression) (ts : List Token) → Held s ts → Held (step expressions t s) (ts ++ t ∷ [])
held-step (word t) (wanting d fs f) ts h = operand ts (word t ∷ []) (term t) h one_term
held-step not_mark (wanting d fs f) ts h = denying ts h
held-step opens (wanting zero fs f) ts h = tt
held-step opens (wanting (suc d) fs f) ts h = opening d fs f ts h
held-step and_mark (wanting d fs f) ts h = tt
held-step or_mark (wanting d fs f) ts h = tt
held-step closes (wanting d fs f) ts h = tt
held-step neither (wanting d fs f) ts h = tt
held-step and_mark (having d fs o e) ts h = conjoining ts h
held-step or_mark (having d fs o e) ts h = disjoining ts h
held-step closes (having d [] o e) ts h = tt
held-step closes (having d (f ∷ fs) o e) ts h = closing d fs f o e ts h
held-step (word t) (having d fs o e) ts h = tt
held-step not_mark (having d fs o e) ts h = tt
held-step opens (having d fs o e) ts h = tt
held-step neither (having d fs o e) ts h = tt
held-step t unread ts h = tt

held-run : (us : List Token) (s : State Expression) (ts : List Token) → Held s ts → Held (run expressions us s) (ts ++ us)
held-run [] s ts h = rw append-nil h
held-run (u ∷ us) s ts h = rw append_assoc at (held-run us (step expressions u s) (ts ++ u ∷ []) (held-step u s ts h))

held-end : (s : State Expression) (ts : List Token) (e : Expression) → Held s ts → wrap (joined expressions) s ≡ some e → Reads ts e
held-end (wanting d fs f) ts e h found = absurd (none-ne-some e found)
held-end (having d [] o g) ts e h found =
    let same : ts ≡ h.us ++ h.ws = rw (h.split, h.opened.1) in
    let read : joined expressions o g ≡ e = cc found in
    rw (same, ← read, ← h.opened.0) (h.disjuncts h.ws g h.derived)
held-end (having d (f ∷ fs) o g) ts e h found = absurd (none-ne-some e found)
held-end unread ts e h found = absurd (none-ne-some e found)

pub sound : (ts : List Token) (e : Expression) → reading_of ts ≡ some e → Reads ts e
sound ts e found = held-end (run expressions ts (wanting 8 [] (fresh none))) ts e (held-run ts (wanting 8 [] (fresh none)) [] start) found
  where
    start : Held (wanting 8 [] (fresh none)) []
    start = record { outer = []; us = []; ws = []; opened = (refl, refl); disjuncts = disjuncts_first 8; conjuncts = conjuncts_first 8 none; split = refl }

-- M-104, the theorems: a question has at most one reading, and `reading` finds it just where there is one; the result is the meaning of that reading.
use Prim.Native.Nat.{ℕ, ◌≤◌, ◌<◌}
use native.Mathlib.Omega.{arith}
use native.Mathlib.Decide.{dec_le}
use mathlib.Core.Path.{◌≡◌, refl, sym, ◌∙◌}
use mathlib.Core.List.{List, map}
use mathlib.Core.Option.{Option, none, some, none-ne-some}
use mathlib.Core.Bool.{Bool, true, false}
use lib.ListN.{length}
use lib.Dec.{leb, ltb}
use borrow.Author.Tests.{le-leb, lt-leb, le-ltb}
use Rattle.model.specs.Lists.{any, overwrite}
use Rattle.model.specs.Outcome.{answered, refused, refuse}
use Rattle.model.specs.Format.{Library}
use Rattle.model.specs.Opening.{opened}
use Rattle.model.specs.Queries.{PairsResult}
use Rattle.model.specs.Grammar.{token, Expression, IsReading}
use Rattle.model.specs.Reading.{reading, reading_of}
use Rattle.model.specs.Boolean.{documents_of, words_in, documents_into, boolean_result}
use Rattle.model.proofs.Boolean.Complete.{complete, unique}
use Rattle.model.proofs.Boolean.Sound.{sound}

module _ (question : List ℕ) where
  pub short-read : length question ≤ 64 → reading question ≡ reading_of (map token question)
  short-read h = rw (le-leb (length question) 64 h)

  pub long_unread : 64 < length question → reading question ≡ none
  long_unread h = rw (lt-leb (length question) 64 h)

  -- a reading is found
  pub found : (e : Expression) → IsReading question e → reading question ≡ some e
  found e r = short-read r.few ∙ complete (map token question) e r.reads

  -- and what is found is a reading
  pub found_reads : (e : Expression) → reading question ≡ some e → IsReading question e
  found_reads e h = go (dec_le (length question) 64)
    where
      go : Dec (length question ≤ 64) → IsReading question e
      go (yes l) = record { few = l; reads = sound (map token question) e (sym (short-read l) ∙ h) }
      go (no l) = absurd (none-ne-some e (sym (long_unread (omega arith)) ∙ h))

  -- none is found just where there is none
  pub unread_none : reading question ≡ none → (e : Expression) → IsReading question e → ⊥
  unread_none h e r = none-ne-some e (sym h ∙ found e r)

  pub none_unread : ((e : Expression) → IsReading question e → ⊥) → reading question ≡ none
  none_unread h = go (reading question) refl
    where
      go : (o : Option Expression) → reading question ≡ o → reading question ≡ none
      go none e = e
      go (some x) e = absurd (h x (found_reads x e))

  -- "the question's only reading"
  pub only : (e f : Expression) → IsReading question e → IsReading question f → e ≡ f
  only e f r s = unique (map token question) e f r.reads s.reads

-- ---- the request's sentences, of an archive that opens

module _ (bytes : List ℕ) (lib : Library) (o : opened bytes ≡ answered lib) (question answers : List ℕ) where
  abbrev W : ℕ
  W = length lib.lengths

  -- "equal to the meaning of the question's only reading"
  pub meaning : (e : Expression) → IsReading question e → any (leb W) (words_in question) ≡ false → lib.documents ≤ length answers
      → ◌≡◌ {A = PairsResult} (boolean_result bytes question answers)
      (record { outcome = answered (length (documents_of lib e)); answers = overwrite (documents_of lib e) answers })
  meaning e r known room = rw (o, found question e r, known, le-ltb (length answers) lib.documents room)

  -- 18 where there is no reading
  pub unread_refused : ((e : Expression) → IsReading question e → ⊥)
      → ◌≡◌ {A = PairsResult} (boolean_result bytes question answers) (record { outcome = refused 18; answers = answers })
  unread_refused h = rw (o, none_unread question h)

  -- and nowhere else
  other-number : (e : Expression) (a b : Bool) → (documents_into answers (refuse 11 a (refuse 12 b (answered (documents_of lib e))))).outcome ≡ refused 18 → ⊥
  other-number e true b h = let z : ◌≡◌ {A = ℕ} 11 18 = cc h in omega arith
  other-number e false true h = let z : ◌≡◌ {A = ℕ} 12 18 = cc h in omega arith
  other-number e false false h = let z : ◌≡◌ {A = ℕ} 0 1 = cc h in omega arith

  pub refused_unread : (boolean_result bytes question answers).outcome ≡ refused 18 → (e : Expression) → IsReading question e → ⊥
  refused_unread h e r =
      other-number e (any (leb W) (words_in question)) (ltb (length answers) lib.documents) (rw (o, found question e r) at h)

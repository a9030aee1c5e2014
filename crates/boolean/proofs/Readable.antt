-- Whether a question has a reading, by what its sets come to.
use Prim.Native.Nat.{ℕ}
use mathlib.Core.Path.{◌≡◌, refl, sym, ap, ◌∙◌}
use mathlib.Core.Option.{Option, none, some}
use mathlib.Core.Bool.{Bool, true, false, false≢true}
use Rattle.model.specs.Grammar.{Expression}
use Rattle.matching.specs.declared.Matching.{Matching}
use Rattle.matching.specs.declared.Matching.TheVariants.{Documents, NoReading}
use Rattle.matching.specs.Parsing.{matching_of}
use Rattle.boolean.specs.Blocks.{set_by, is_a_reading}

abbrev are : Matching → Bool
are (Documents set) = true
are NoReading = false

abbrev value : Matching → ℕ
value (Documents set) = set
value NoReading = 0

pub read_by : (f : ℕ → ℕ) (o : Option Expression) (r : Matching) → r ≡ matching_of f o → (set : ℕ) → r ≡ Documents set → true ≡ is_a_reading o
read_by f (some e) r p set q = refl
read_by f none r p set q = absurd (false≢true (cc (ap are p, ap are q)))

pub unread_by : (f : ℕ → ℕ) (o : Option Expression) (r : Matching) → r ≡ matching_of f o → r ≡ NoReading → false ≡ is_a_reading o
unread_by f none r p q = refl
unread_by f (some e) r p q = absurd (false≢true (cc (ap are p, ap are q)))

-- the set that it comes to
pub set_by_lem : (f : ℕ → ℕ) (o : Option Expression) (r : Matching) → r ≡ matching_of f o → (set : ℕ) → r ≡ Documents set → set ≡ set_by f o
set_by_lem f (some e) r p set q = ap value (sym q ∙ p)
set_by_lem f none r p set q = absurd (false≢true (cc (ap are p, ap are q)))

pub set_none : (f : ℕ → ℕ) (o : Option Expression) (r : Matching) → r ≡ matching_of f o → r ≡ NoReading → 0 ≡ set_by f o
set_none f none r p q = refl
set_none f (some e) r p q = absurd (false≢true (cc (ap are p, ap are q)))

-- the reading that there is
pub read_some : (o : Option Expression) → is_a_reading o ≡ true → (e : Expression) × (o ≡ some e)
read_some (some e) h = (e, refl)
read_some none h = absurd (false≢true h)

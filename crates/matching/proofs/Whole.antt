-- A whole question: what is parsed from its start to its end is its reading.
use Prim.Native.Nat.{ℕ, ◌≤◌, ◌<◌}
use native.Mathlib.Omega.{arith}
use mathlib.Core.Path.{◌≡◌, refl, sym, ap, ◌∙◌}
use mathlib.Core.List.{List, [], map}
use mathlib.Core.Option
use mathlib.Core.Option.{Option, none, some}
use lib.ListN.{length}
use borrow.Author.Tests.{le-leb, lt-leb}
use Rattle.model.specs.Grammar.{token, Expression}
use Rattle.model.specs.Reading.{evaluate, result, reading_of, reading}
use Rattle.matching.specs.Parsing.{algebra, Disjunction, matching_of}
use Rattle.matching.specs.declared.Parse.TheVariants.{Parsed, Unread}
use Rattle.matching.specs.declared.Matching.{Matching}
use Rattle.matching.specs.declared.Matching.TheVariants.{Documents, NoReading}
use Rattle.model.proofs.Boolean.Evaluated.{result_evaluated}
use Rattle.matching.proofs.Onward.{at-end, at_trailing}

-- what is answered by what was read
answered : Option ℕ → Matching
answered none = NoReading
answered (some set) = Documents set

module _ (setOf : ℕ → ℕ) (question : List ℕ) where
  answered_evaluated : (o : Option Expression) → matching_of setOf o ≡ answered (Option.map (evaluate (algebra setOf question)) o)
  unfolding answered
  answered_evaluated none = refl
  answered_evaluated (some e) = refl

  short : length question ≤ 64 → reading question ≡ reading_of (map token question)
  short h = rw (le-leb (length question) 64 h)

  by_result : length question ≤ 64 → (o : Option ℕ) → result (algebra setOf question) (map token question) ≡ o → answered o ≡ matching_of setOf (reading question)
  by_result h o e =
      rw (short h) (sym (answered_evaluated (reading_of (map token question)) ∙ ap answered (sym (result_evaluated (algebra setOf question) (map token question)) ∙ e)))

  pub of_long : 64 < length question → NoReading ≡ matching_of setOf (reading question)
  of_long h = rw (lt-leb (length question) 64 h)

  pub of_end : length question ≤ 64 → (set next : ℕ) → Disjunction setOf question 0 8 (Parsed set next) → next ≡ length question → Documents set ≡ matching_of setOf (reading question)
  unfolding answered
  of_end h set next d e = by_result h (some set) (d.reads [] ∙ at-end setOf question next e 8 set)

  pub of_trailing : length question ≤ 64 → (set next : ℕ) → Disjunction setOf question 0 8 (Parsed set next) → (next ≡ length question → ⊥) → NoReading ≡ matching_of setOf (reading question)
  unfolding answered
  of_trailing h set next d e =
      by_result h none (d.reads [] ∙ at_trailing setOf question next d.no_conjunction d.no_disjunction (omega (arith, d.advances.1)) 8 set)

  pub of-unread : length question ≤ 64 → Disjunction setOf question 0 8 Unread → NoReading ≡ matching_of setOf (reading question)
  unfolding answered
  of-unread h d = by_result h none (d.reads [])

-- `deny` meets its contract: each turn is one 'not' more.
use Prim.Native.Nat.{◌-◌, ◌≤◌}
use mathlib.Core.Path.{◌≡◌}
use Rattle.matching.specs.Parsing.{denied_by}
use Rattle.matching.proofs.parts.deny.Given as goal

abbrev pub invariant-loop-i : goal.invariant-loop-i
invariant-loop-i l = (l.part ≡ denied_by l.i l.initial.part) × (l.i ≤ l.times)

abbrev pub decreases-loop-i : goal.decreases-loop-i
decreases-loop-i l = l.times - l.i

-- Ranges as the code holds them: the two ends, or the refusal. Document 01, "The shelf", and its refusal 11.
use Rattle.std.specs.Prelude.{ℕ, ◌≤◌, List, ◌||◌, Result, IfOk, ltb}
use Rattle.model.specs.Lists.{part}
use Rattle.model.specs.Outcome.{Outcome, answered, refuse, and_then}
use Rattle.model.specs.Format.{Library}
use Rattle.model.specs.Queries.{Bounds}
use Rattle.refusals.specs.declared.Refusal.{Refusal}
use Rattle.refusals.specs.Refusals.{outcome_by}
use Rattle.archive_ranges.specs.declared.Entries.{Entries}

-- document 01's ends of a range, or the number of its refusal
abbrev pub bounds_in : Result Entries Refusal → Outcome Bounds
bounds_in = outcome_by (λ r. record { from = r.from; to = r.to })

-- a range that is not refused lies inside n entries
abbrev pub Inside : ℕ → Result Entries Refusal → Type 0
Inside n range = IfOk range (λ r. (r.from ≤ r.to) × (r.to ≤ n))

-- the ends of the entries a up to but without b, of n entries
abbrev pub entry_bounds : ℕ → ℕ → ℕ → Outcome Bounds
entry_bounds n a b = refuse 11 (ltb b a || ltb n b) (answered (record { from = a; to = b }))

-- the entries between two ends
abbrev pub between : Library → Outcome Bounds → Outcome (List ℕ)
between lib ends = and_then ends (λ r. answered (part r.from r.to lib.entries))

-- Quantile of a range, by its ends or their refusal. The result of model is this of the range as given.
use Rattle.std.specs.Prelude.{ℕ, length, leb}
use Rattle.model.specs.Outcome.{Outcome, answered, refuse, and_then}
use Rattle.model.specs.Format.{Library}
use Rattle.model.specs.Queries.{Bounds, quantile}
use Rattle.archive_ranges.specs.Ranges.{between}

abbrev pub quantile_of : Library → Outcome Bounds → ℕ → Outcome ℕ
quantile_of lib ends r = and_then (between lib ends) (λ xs. refuse 11 (leb (length xs) r) (answered (quantile r xs)))

-- What the questions on a range answer.
use Rattle.std.specs.Prelude.{ℕ, ◌-◌, List}
use Rattle.bits.specs.Sequences.{occurrences}
use Rattle.model.specs.Queries.{quantile}
use Rattle.model.specs.Walk.{quantile_from}
use Rattle.wavelet.specs.declared.Levels.{Levels}
use Rattle.wavelet.specs.declared.Span.{Span}
use Rattle.wavelet.specs.declared.Counted.{Counted}
use Rattle.wavelet.specs.Levels.{level_of}

abbrev pub counted : ℕ → ℕ → Counted
counted document count = record { document = document; count = count }

-- the document of rank r, with how often it occurs
abbrev pub quantile_in : List ℕ → ℕ → Counted
quantile_in xs r = counted (quantile r xs) (occurrences (quantile r xs) xs)

-- the walk down by rank from the node q of level j
abbrev pub leaf_of : List ℕ → Levels → ℕ → ℕ → Span → ℕ → Counted
leaf_of bytes t j q s r = quantile_from counted (level_of bytes t) (t.height - j) j q s.start s.lo s.hi s.end r

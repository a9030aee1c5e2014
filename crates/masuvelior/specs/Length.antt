-- The length of an archive, by n, N and W. Document 01, "Archive bytes", and its refusal 14.
use Rattle.std.specs.Prelude.{ℕ, not}
use Rattle.model.specs.Outcome.{Outcome, answered, refuse}
use Rattle.model.specs.Format.{Sizes, within_limits, archive_length}

-- the length in bytes where n, N and W are within their limits
abbrev pub length_result : Sizes → Outcome ℕ
length_result s = refuse 14 (not (within_limits s)) (answered (archive_length s))

-- The cases of `specs/WeightedCases` that rest on another one: the library of thirteen documents is read first.
use Rattle.std.specs.Prelude.{◌≡◌, refl}
use Rattle.bits.specs.Bits.{bits_of, pack, samples_of, samples_right, unused_clear}
use Rattle.model.specs.Outcome.{answered}
use Rattle.model.specs.Format.{encode}
use Rattle.model.specs.Opening.{entries_at, opening, opened}
use Rattle.model.specs.WeightedCases.{Hold, row, row_case_list}

-- read once, since that takes long
row_opened : opened (encode row) ≡ answered row
unfolding encode bits_of pack samples_of samples_right unused_clear entries_at opening
row_opened = refl

pub row_cases : Hold row_case_list
row_cases = rw row_opened

-- The case of document 01: f 0, l 2, k 2, allowance 9 and the small library.
use mathlib.Core.Path.{◌≡◌, refl}
use mathlib.Core.List.{[], ◌∷◌, ◌++◌}
use Rattle.bits.specs.Bits.{bits_of, little_endian, samples_right, unused_clear}
use Rattle.model.specs.Opening.{entries_at, opening}
use Rattle.model.specs.Cases.{small_archive}
use Rattle.report.specs.Report.{decimal, report}

-- '3 3 0', '0 2 2' and 'done 3', each with a line feed
case : report (little_endian 0 ++ little_endian 2 ++ little_endian 2 ++ little_endian 9 ++ small_archive)
    ≡ 51 ∷ 32 ∷ 51 ∷ 32 ∷ 48 ∷ 10 ∷ 48 ∷ 32 ∷ 50 ∷ 32 ∷ 50 ∷ 10 ∷ 100 ∷ 111 ∷ 110 ∷ 101 ∷ 32 ∷ 51 ∷ 10 ∷ []
unfolding bits_of samples_right unused_clear entries_at opening decimal
case = refl

-- no leading zeros
digits : decimal 4095 ++ decimal 0 ≡ 52 ∷ 48 ∷ 57 ∷ 53 ∷ 48 ∷ []
unfolding decimal
digits = refl

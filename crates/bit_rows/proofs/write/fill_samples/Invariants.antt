use mathlib.Core.Path.{◌≡◌}
use mathlib.Core.List.{◌++◌}
use Prim.Native.Nat.{◌*◌, ◌≤◌, ◌<◌}
use lib.ListN.{drop}
use Rattle.bits.specs.Bits.{bits_of}
use Rattle.bits.specs.Rows.{count_below}
use Rattle.bits.proofs.Samples.{samples_to}
use Rattle.bit_rows.proofs.write.fill_samples.Given as goal

abbrev pub invariant-loop-t : goal.invariant-loop-t
invariant-loop-t l =
    (l.samples ≡ samples_to (bits_of l.n l.row) l.t ++ drop (4 * l.t) l.initial.samples) × (l.t < l.m → l.count ≡ count_below 1 l.row (512 * l.t)) × (l.count ≤ 512 * l.t)

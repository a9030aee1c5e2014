use Prim.Native.Nat.{◌*◌, ◌/◌}
use native.Mathlib.Omega.{arith}
use Rattle.bits.specs.Sequences.{bit}
use Rattle.bits.proofs.Bits.{rank-bits_of, count_mono}
use Rattle.bit_select.proofs.places.select_near.Goals as goal

pub select_blocks-requires : goal.select_blocks-requires
select_blocks-requires c =
    let g = c.args in
    let v = bit g.v in
    let row = g.row.bits.now in record {
      many_bound = (
        omega arith,
        omega arith,
        omega (arith, rank-bits_of v g.row.n row g.a (omega arith), count_mono v row (512 * (g.a / 512)) g.a (omega arith)),
      );
    }

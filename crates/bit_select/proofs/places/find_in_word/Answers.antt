use mathlib.Core.Path.{◌≡◌, sym, ◌∙◌}
use Prim.Native.Nat.{◌-◌, ◌*◌, ◌/◌, ◌^◌}
use native.Mathlib.Nat.{div-one}
use native.Mathlib.Omega.{arith}
use Rattle.bits.specs.Rows.{word_at}
use Rattle.bit_select.proofs.places.find_in_word.Goals as goal

pub narrow-half-requires : goal.narrow-half-requires
narrow-half-requires c =
    let s = c in
    let k = s.args.k in
    let z : 8 * k - 8 * k ≡ 0 = omega arith in
    let e : c.word.result ≡ word_at s.args.row.bits.now k / 2 ^ (8 * k - 8 * k) = c.word.ensures ∙ sym (rw z (div-one (word_at s.args.row.bits.now k))) in (
      omega arith,
      record {
        small = let n = c.args.row.sampled.sized.small in omega arith;
        after = omega arith;
        room = omega arith;
        left = e;
        counted = s.requires.reached.counted;
        fewer = s.requires.reached.fewer;
      },
    )

pub find_bit-requires : goal.find_bit-requires
find_bit-requires c =
    let s = c in
    omega (arith, s.requires, c.narrow-one.ensures)

use Prim.Native.Nat.{ℕ, ◌-◌, ◌*◌, ◌%◌, ◌^◌}
use native.Mathlib.Omega.{arith}
use mathlib.Core.Path.{◌≡◌, ap, ◌∙◌}
use lib.ListN.{get_or, set}
use Rattle.wavelet.specs.Levels.{entries_in}
use Rattle.listing.specs.Places.{back_to}
use Rattle.listing.proofs.Numbers.{leaves_few, level-first}
use Rattle.listing.proofs.Ways.{way_root, way_length, way_leaf, way_lt, way_cursor, way_inside, way_next, document_lt}
use Rattle.listing.proofs.pass.place_entry.Goals as goal

pub loop-j-init : goal.loop-j-init
loop-j-init c =
    let s = c in
    let g = s.args in
    way_root g.tree.now.bytes.now g.tree.now.levels s.args.tree.now.stored g.i s.requires.i_lt_entries.0 g.cursors.now

pub offset_bounds-cursors-v : goal.offset_bounds-cursors-v
offset_bounds-cursors-v c =
    let k = c in
    let s = k in
    let g = s.args in
    omega (arith, way_lt g.tree.now.bytes.now g.tree.now.levels s.args.tree.now.stored g.i s.requires.i_lt_entries.0 g.cursors.now k.loop-j.cursors k.loop-j.v k.loop-j.j k.loop-j.invariant s.requires.i_lt_entries.3 c.loop-j-test.true, leaves_few g.tree.now.levels.height s.args.tree.now.stored.low)

pub bounds-cursors-v : goal.bounds-cursors-v
bounds-cursors-v c =
    let k = c in
    let s = k in
    let g = s.args in
    omega (arith, way_lt g.tree.now.bytes.now g.tree.now.levels s.args.tree.now.stored g.i s.requires.i_lt_entries.0 g.cursors.now k.loop-j.cursors k.loop-j.v k.loop-j.j k.loop-j.invariant s.requires.i_lt_entries.3 c.loop-j-test.true, way_length g.tree.now.bytes.now g.tree.now.levels s.args.tree.now.stored g.i s.requires.i_lt_entries.0 g.cursors.now k.loop-j.cursors k.loop-j.v k.loop-j.j k.loop-j.invariant, s.requires.i_lt_entries.1)

pub overflow_sub-p : goal.overflow_sub-p
overflow_sub-p c =
    let k = c in
    let s = k in
    let g = s.args in
    omega (arith, way_cursor g.tree.now.bytes.now g.tree.now.levels s.args.tree.now.stored g.i s.requires.i_lt_entries.0 g.cursors.now k.loop-j.cursors k.loop-j.v k.loop-j.j k.loop-j.invariant s.requires.i_lt_entries.3 c.loop-j-test.true)

pub offset_bounds-cursors-v-in-loop-j : goal.offset_bounds-cursors-v-in-loop-j
offset_bounds-cursors-v-in-loop-j c =
    let k = c in
    let s = k in
    let g = s.args in
    omega (arith, way_lt g.tree.now.bytes.now g.tree.now.levels s.args.tree.now.stored g.i s.requires.i_lt_entries.0 g.cursors.now k.loop-j.cursors k.loop-j.v k.loop-j.j k.loop-j.invariant s.requires.i_lt_entries.3 c.loop-j-test.true, leaves_few g.tree.now.levels.height s.args.tree.now.stored.low)

pub bounds-cursors-v-in-loop-j : goal.bounds-cursors-v-in-loop-j
bounds-cursors-v-in-loop-j c =
    let k = c in
    let s = k in
    let g = s.args in
    omega (arith, way_lt g.tree.now.bytes.now g.tree.now.levels s.args.tree.now.stored g.i s.requires.i_lt_entries.0 g.cursors.now k.loop-j.cursors k.loop-j.v k.loop-j.j k.loop-j.invariant s.requires.i_lt_entries.3 c.loop-j-test.true, way_length g.tree.now.bytes.now g.tree.now.levels s.args.tree.now.stored g.i s.requires.i_lt_entries.0 g.cursors.now k.loop-j.cursors k.loop-j.v k.loop-j.j k.loop-j.invariant, s.requires.i_lt_entries.1)

pub overflow_mul-v : goal.overflow_mul-v
overflow_mul-v c =
    let k = c in
    let s = k in
    let g = s.args in
    omega (arith, way_lt g.tree.now.bytes.now g.tree.now.levels s.args.tree.now.stored g.i s.requires.i_lt_entries.0 g.cursors.now k.loop-j.cursors k.loop-j.v k.loop-j.j k.loop-j.invariant s.requires.i_lt_entries.3 c.loop-j-test.true, leaves_few g.tree.now.levels.height s.args.tree.now.stored.low)

pub overflow_cast-p : goal.overflow_cast-p
overflow_cast-p c =
    let k = c in
    let s = k in
    let g = s.args in
    omega (arith, way_cursor g.tree.now.bytes.now g.tree.now.levels s.args.tree.now.stored g.i s.requires.i_lt_entries.0 g.cursors.now k.loop-j.cursors k.loop-j.v k.loop-j.j k.loop-j.invariant s.requires.i_lt_entries.3 c.loop-j-test.true, way_inside g.tree.now.bytes.now g.tree.now.levels s.args.tree.now.stored g.i s.requires.i_lt_entries.0 g.cursors.now k.loop-j.cursors k.loop-j.v k.loop-j.j k.loop-j.invariant s.requires.i_lt_entries.3 c.loop-j-test.true, s.args.tree.now.stored.few)

pub bit-requires : goal.bit-requires
bit-requires c =
    let k = c in
    let s = k in
    let g = s.args in
    let m = c.loop-j-test.true in record {
      j_lt_height = (m, omega (arith, way_cursor g.tree.now.bytes.now g.tree.now.levels s.args.tree.now.stored g.i s.requires.i_lt_entries.0 g.cursors.now k.loop-j.cursors k.loop-j.v k.loop-j.j k.loop-j.invariant s.requires.i_lt_entries.3 m, way_inside g.tree.now.bytes.now g.tree.now.levels s.args.tree.now.stored g.i s.requires.i_lt_entries.0 g.cursors.now k.loop-j.cursors k.loop-j.v k.loop-j.j k.loop-j.invariant s.requires.i_lt_entries.3 m));
    }

pub overflow_add-v : goal.overflow_add-v
overflow_add-v c =
    let k = c in
    let s = k in
    let g = s.args in
    omega (arith, way_lt g.tree.now.bytes.now g.tree.now.levels s.args.tree.now.stored g.i s.requires.i_lt_entries.0 g.cursors.now k.loop-j.cursors k.loop-j.v k.loop-j.j k.loop-j.invariant s.requires.i_lt_entries.3 c.loop-j-test.true, leaves_few g.tree.now.levels.height s.args.tree.now.stored.low, c.bit.ensures.1)

pub loop-j-preserved : goal.loop-j-preserved
loop-j-preserved c =
    let k = c in
    let s = k in
    let g = s.args in
    way_next g.tree.now.bytes.now g.tree.now.levels s.args.tree.now.stored g.i s.requires.i_lt_entries.0 g.cursors.now k.loop-j.cursors k.loop-j.v k.loop-j.j k.loop-j.invariant s.requires.i_lt_entries.3 c.loop-j-test.true c.bit.result c.bit.ensures.0

pub overflow_sub-first : goal.overflow_sub-first
overflow_sub-first c =
    let k = c in
    let s = k in
    let g = s.args in
    let e : k.loop-j.j ≡ g.tree.now.levels.height = omega (arith, k.loop-j.invariant.deep) in
    omega (arith, way_leaf g.tree.now.bytes.now g.tree.now.levels s.args.tree.now.stored g.i s.requires.i_lt_entries.0 g.cursors.now k.loop-j.cursors k.loop-j.v k.loop-j.j k.loop-j.invariant e, level-first g.tree.now.levels.height s.args.tree.now.stored.low)

pub offset_bounds-first-v : goal.offset_bounds-first-v
offset_bounds-first-v c =
    let k = c in
    let s = k in
    let g = s.args in
    let e : k.loop-j.j ≡ g.tree.now.levels.height = omega (arith, k.loop-j.invariant.deep) in
    omega (arith, way_leaf g.tree.now.bytes.now g.tree.now.levels s.args.tree.now.stored g.i s.requires.i_lt_entries.0 g.cursors.now k.loop-j.cursors k.loop-j.v k.loop-j.j k.loop-j.invariant e, level-first g.tree.now.levels.height s.args.tree.now.stored.low, document_lt g.tree.now.bytes.now g.tree.now.levels s.args.tree.now.stored g.i s.requires.i_lt_entries.0, leaves_few g.tree.now.levels.height s.args.tree.now.stored.low)

pub bounds-first-v : goal.bounds-first-v
bounds-first-v c =
    let k = c in
    let s = k in
    let g = s.args in
    let e : k.loop-j.j ≡ g.tree.now.levels.height = omega (arith, k.loop-j.invariant.deep) in
    omega (arith, way_leaf g.tree.now.bytes.now g.tree.now.levels s.args.tree.now.stored g.i s.requires.i_lt_entries.0 g.cursors.now k.loop-j.cursors k.loop-j.v k.loop-j.j k.loop-j.invariant e, level-first g.tree.now.levels.height s.args.tree.now.stored.low, document_lt g.tree.now.bytes.now g.tree.now.levels s.args.tree.now.stored g.i s.requires.i_lt_entries.0, s.requires.i_lt_entries.2)

pub shape_of-cursors : goal.shape_of-cursors
shape_of-cursors c =
    let k = c in
    let s = k in
    let g = s.args in
    way_length g.tree.now.bytes.now g.tree.now.levels s.args.tree.now.stored g.i s.requires.i_lt_entries.0 g.cursors.now k.loop-j.cursors k.loop-j.v k.loop-j.j k.loop-j.invariant

pub returns : goal.returns
returns c =
    let k = c in
    let s = k in
    let g = s.args in
    let e : k.loop-j.j ≡ g.tree.now.levels.height = omega (arith, k.loop-j.invariant.deep) in
    let x = get_or (entries_in g.tree.now.bytes.now g.tree.now.levels) g.i 0 in
    let d : k.loop-j.v - 1 * 2 ^ g.tree.now.levels.height % 18446744073709551616 ≡ x = omega (arith, way_leaf g.tree.now.bytes.now g.tree.now.levels s.args.tree.now.stored g.i s.requires.i_lt_entries.0 g.cursors.now k.loop-j.cursors k.loop-j.v k.loop-j.j k.loop-j.invariant e, level-first g.tree.now.levels.height s.args.tree.now.stored.low) in record {
      cursors_after = k.loop-j.invariant.back ∙ ap (λ (n : ℕ). back_to g.tree.now.levels.height x n g.cursors.now) e;
      first_after = ap (λ (n : ℕ). set g.first.now n g.i) d;
    }

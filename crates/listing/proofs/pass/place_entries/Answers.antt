use Prim.Native.Nat.{ℕ}
use native.Mathlib.Omega.{arith}
use mathlib.Core.Path.{◌≡◌, subst}
use Rattle.wavelet.specs.Levels.{entries_in}
use Rattle.listing.specs.Places.{FirstPlaces}
use Rattle.listing.proofs.Placed.{placed_none, placed_ready, placed_more}
use Rattle.listing.proofs.pass.place_entries.Goals as goal

pub loop-i-init : goal.loop-i-init
loop-i-init c =
    let s = c in
    let g = s.args in
    placed_none g.tree.now.bytes.now g.tree.now.levels s.args.tree.now.stored g.a g.b s.requires.a_le_b.1 g.cursors.now g.first.now s.requires.a_le_b.0 s.requires.a_le_b.4

pub place_entry-requires : goal.place_entry-requires
place_entry-requires c =
    let k = c in
    let s = k in
    let g = s.args in
    let v = k.loop-i.invariant in record {
      i_lt_entries = (omega (arith, v.to, s.requires.a_le_b.1), omega (arith, v.cursors_size, s.requires.a_le_b.2), omega (arith, v.first-size, s.requires.a_le_b.3), placed_ready g.tree.now.bytes.now g.tree.now.levels s.args.tree.now.stored g.a g.b s.requires.a_le_b.1 g.cursors.now g.first.now k.loop-i.cursors k.loop-i.first k.loop-i.i k.loop-i.invariant c.loop-i-test.true);
    }

pub loop-i-preserved : goal.loop-i-preserved
loop-i-preserved c =
    let k = c in
    let s = k in
    let g = s.args in
    let e = c.place_entry in
    placed_more g.tree.now.bytes.now g.tree.now.levels s.args.tree.now.stored g.a g.b s.requires.a_le_b.1 g.cursors.now g.first.now k.loop-i.cursors k.loop-i.first k.loop-i.i k.loop-i.invariant c.loop-i-test.true e.new.cursors e.new.first s.requires.a_le_b.2 s.requires.a_le_b.3 e.ensures.cursors_after e.ensures.first_after

pub shape_of-cursors : goal.shape_of-cursors
shape_of-cursors c = c.loop-i.invariant.cursors_size

pub shape_of-first : goal.shape_of-first
shape_of-first c = c.loop-i.invariant.first-size

pub returns : goal.returns
returns c =
    let k = c in
    let s = k in
    let g = s.args in
    let e : k.loop-i.i ≡ g.a = omega (arith, k.loop-i.invariant.from) in
    subst (λ (n : ℕ). FirstPlaces (entries_in g.tree.now.bytes.now g.tree.now.levels) n g.b k.loop-i.first) e k.loop-i.invariant.placed

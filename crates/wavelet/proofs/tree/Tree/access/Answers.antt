use native.Mathlib.Nat.{le_refl}
use native.Mathlib.Omega.{arith}
use lib.ListN.{get_or}
use Rattle.wavelet.specs.Levels.{entries_in}
use Rattle.wavelet.proofs.Descents.{toward_ordered, entry_root, entry_le, entry_inside, entry_next, entry_leaf}
use Rattle.wavelet.proofs.tree.Tree.access.Goals as goal

pub loop-j-init : goal.loop-j-init
loop-j-init c =
    entry_root c.args.self.now.bytes.now c.args.self.now.levels c.args.i c.requires.i_lt_entries

pub bit-b-requires : goal.bit-b-requires
bit-b-requires c =
    record {
      j_lt_height = (omega arith, entry_inside c.args.self.now.bytes.now c.args.self.now.levels c.args.i c.requires.i_lt_entries c.loop-j.invariant c.loop-j-test.true);
    }

pub step-p-requires : goal.step-p-requires
step-p-requires c =
    let g = c.args in record {
      j_lt_height = (
        c.loop-j-test.true,
        toward_ordered g.self.now.bytes.now g.self.now.levels g.i g.i (get_or (entries_in g.self.now.bytes.now g.self.now.levels) g.i 0) (le_refl g.i) (omega arith) c.loop-j.invariant.toward,
      );
    }

pub overflow_mul-entry : goal.overflow_mul-entry
overflow_mul-entry c =
    omega (arith, entry_le c.args.self.now.bytes.now c.args.self.now.levels c.args.i c.requires.i_lt_entries c.loop-j.invariant c.args.self.now.stored.low)

pub overflow_add-entry : goal.overflow_add-entry
overflow_add-entry c =
    omega (arith, entry_le c.args.self.now.bytes.now c.args.self.now.levels c.args.i c.requires.i_lt_entries c.loop-j.invariant c.args.self.now.stored.low)

pub loop-j-preserved : goal.loop-j-preserved
loop-j-preserved c =
    entry_next c.args.self.now.bytes.now c.args.self.now.levels c.args.i c.requires.i_lt_entries c.loop-j.invariant (omega arith) c.step-p.result c.bit-b.result
    c.bit-b.ensures.0 c.step-p.ensures

pub returns : goal.returns
returns c =
    entry_leaf c.args.self.now.bytes.now c.args.self.now.levels c.args.i c.requires.i_lt_entries (omega arith) c.loop-j.invariant

use Rattle.std.proofs.Common.{◌≡◌, ◌∙◌, arith, length, replicate}
use Rattle.wavelet.specs.Levels.{entries_in}
use Rattle.wavelet.proofs.Stored.{length-entries_in, within_entries_in}
use Rattle.keys.proofs.Zeros.{zeros}
use Rattle.reader.proofs.Descending.{keys_root, keys_leaf}
use Rattle.reader.proofs.rows.read_entries.Goals as goal

pub loop-j-init : goal.loop-j-init
loop-j-init c =
    let t = c.args.tree.now in
    let old = c.args.entries.now in
    let e : c.fill.new.self ≡ replicate (length old) 0 = c.fill.ensures.after (λ y k. k) in
    keys_root t.levels.height (entries_in t.bytes.now t.levels) c.fill.new.self (within_entries_in t.bytes.now t.levels)
    (omega (arith, c.fill.ensures.len, c.requires, length-entries_in t.bytes.now t.levels)) (rw e (zeros (length old)))

pub returns : goal.returns
returns c =
    let t = c.args.tree.now in
    let e : c.loop-j.j ≡ t.levels.height = omega arith in
    rw e at c.loop-j.invariant ∙ keys_leaf t.levels.height (entries_in t.bytes.now t.levels)

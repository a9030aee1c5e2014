use Rattle.std.proofs.Common.{◌≡◌, arith, length}
use Rattle.reader.proofs.Descending.{read_all}
use Rattle.reader.proofs.lists.read_lengths.Goals as goal

pub returns : goal.returns
returns c =
    let l = c.loop-t in
    let e : l.t ≡ length c.args.lengths.now = omega arith in
    read_all c.args.archive.now l.lengths (length c.args.lengths.now) (omega arith) (rw e at l.invariant)

use Rattle.std.proofs.Common.{arith}
use Rattle.archive.proofs.Bounds.{shl_key, key-count}
use Rattle.keys.proofs.Zeros.{zeros}
use Rattle.reader.proofs.Descending.{keyed, descent, read_on}
use Rattle.reader.proofs.rows.read_row.Goals as goal

pub starts-requires : goal.starts-requires
starts-requires c =
    let t = c.args.tree.now in
    let j = c.args.j in
    rw (shl_key j (omega (arith, t.stored.low, c.requires.0)))
    (record {
      keyed = keyed t.bytes.now t.levels t.stored j c.requires.0 c.args.keys.now c.requires.1;
      m_in_bounds = key-count j (omega (arith, t.stored.low, c.requires.0));
      zeros = zeros 4096;
    })

pub deepen-requires : goal.deepen-requires
deepen-requires c =
    let t = c.args.tree.now in
    let j = c.args.j in
    rw c.bits_at.ensures
    (descent t.bytes.now t.levels t.stored j c.requires.0 c.args.keys.now c.starts.new.counts c.requires.1 c.starts.auto.counts
    (rw (shl_key j (omega (arith, t.stored.low, c.requires.0))) at c.starts.ensures))

pub returns : goal.returns
returns c =
    let t = c.args.tree.now in
    read_on t.bytes.now t.levels t.stored c.args.j c.requires.0 c.args.keys.now c.deepen.new.keys c.requires.1 c.deepen.auto.keys
    (rw c.bits_at.ensures at c.deepen.ensures)

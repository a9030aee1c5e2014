use Rattle.std.proofs.Common.{◌≡◌}
use Rattle.reader.specs.Reading.{keys_at}
use Rattle.reader.proofs.rows.read_entries.Given as goal

abbrev pub invariant-loop-j : goal.invariant-loop-j
invariant-loop-j l = l.entries ≡ keys_at l.tree.bytes.now l.tree.levels l.j

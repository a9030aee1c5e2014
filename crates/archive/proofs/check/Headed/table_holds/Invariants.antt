use Rattle.std.proofs.Common.{◌≡◌, ◌-◌, ◌*◌, ◌≤◌}
use Rattle.bits.specs.Sequences.{up_from, below}
use Rattle.model.specs.Opening.{table_holds}
use Rattle.archive.proofs.check.Headed.table_holds.Given as goal

abbrev pub invariant-loop-t : goal.invariant-loop-t
invariant-loop-t l =
    let a = l.self in
    (table_holds a.bytes.now a.layout.levels.entries 0 (below a.layout.terms) ≡ table_holds a.bytes.now a.layout.levels.entries l.start (up_from l.t (a.layout.terms - l.t)))
    × (l.start ≤ 4294967296 * l.t)

use Rattle.std.proofs.Common.{sym, ◌∙◌}
use Rattle.archive.proofs.Parts.{laid_placed, placed_stored}
use Rattle.archive.proofs.check.Headed.check_levels.Goals as goal

pub invariant_of-rows : goal.invariant_of-rows
invariant_of-rows c = record { placed = laid_placed c.args.self.now.bytes.now c.args.self.now.layout c.requires }

pub invariant_of-tree : goal.invariant_of-tree
invariant_of-tree c =
    let s = c.args.self.now in
    record { stored = placed_stored s.bytes.now s.layout.levels (laid_placed s.bytes.now s.layout c.requires) (sym c.samples_hold.ensures ∙ c.if-not-samples_hold.false) }

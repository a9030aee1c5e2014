use Rattle.archive.proofs.Opened.{stored}
use Rattle.archive.proofs.handle.Archive.tree.Goals as goal

pub invariant_of-result : goal.invariant_of-result
invariant_of-result c = record { stored = stored c.args.self.now.bytes.now c.args.self.now.layout c.args.self.now.opened }

use Rattle.std.proofs.Common.{arith}
use Rattle.archive.proofs.Bounds.{bounded}
use Rattle.archive.proofs.check.Headed.pairs_hold.Goals as goal

pub overflow_mul-t : goal.overflow_mul-t
overflow_mul-t c =
    let b = bounded c.args.self.now.layout c.args.self.now.fitting in
    record { fits = omega arith }

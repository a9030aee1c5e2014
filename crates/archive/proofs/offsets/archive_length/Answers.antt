use native.Mathlib.Omega.{arith}
use Rattle.archive.proofs.Bounds.{bounded}
use Rattle.archive.proofs.offsets.archive_length.Goals as goal

pub overflow_mul-result : goal.overflow_mul-result
overflow_mul-result c = let b = bounded c.args.l c.requires in record { fits = omega arith }

pub overflow_add-result-2 : goal.overflow_add-result-2
overflow_add-result-2 c = let b = bounded c.args.l c.requires in record { fits = omega arith }

pub returns : goal.returns
returns c =
    let l = c.args.l in
    let f = c.requires in
    let b = bounded l f in
    (rw (b.rows_is, b.height_is, b.samples_is), omega arith)

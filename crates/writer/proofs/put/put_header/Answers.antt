use Prim.Native.Nat.{ℕ}
use mathlib.Core.Path.{ap, ◌∙◌}
use mathlib.Core.List.{List, map}
use native.Mathlib.Omega.{arith}
use Rattle.bits.specs.Bits.{concat, little_endian}
use Rattle.archive.proofs.Bounds.{bounded, header_is}
use Rattle.writer.specs.Writing.{overwrite_at}
use Rattle.writer.proofs.put.put_header.Goals as goal

pub overflow_sub-samples : goal.overflow_sub-samples
overflow_sub-samples c = let s = c in let b = bounded s.args.l s.requires.fitting in omega (arith, b.rows_is)

pub overflow_mul-rows : goal.overflow_mul-rows
overflow_mul-rows c = let s = c in let b = bounded s.args.l s.requires.fitting in record { fits = omega (arith, b.rows_few) }

pub put_numbers-requires : goal.put_numbers-requires
put_numbers-requires c =
    let s = c in
    let f = s.requires.fitting in
    let b = bounded s.args.l f in
    omega (arith, f.entries, f.documents, f.terms, b.samples_is, b.rows_is, b.samples_few, b.rows_few, s.requires.in_bounds)

pub returns : goal.returns
returns c =
    let s = c in
    c.put_numbers.ensures
    ∙ ap (λ (ns : List ℕ). overwrite_at 0 (concat (map little_endian ns)) s.args.target.now) (header_is s.args.l s.requires.fitting)

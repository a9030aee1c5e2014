use mathlib.Core.Path.{ap, ◌∙◌}
use mathlib.Core.List.{map}
use native.Mathlib.Omega.{arith}
use Rattle.bits.specs.Bits.{concat, little_endian}
use Rattle.model.specs.Format.{table_from, Library}
use Rattle.writer.specs.Writing.{overwrite_at}
use Rattle.writer.proofs.Leveling.{room_after}
use Rattle.writer.proofs.Assembly.{valid, fitting, room, whole}
use Rattle.writer.proofs.libraries.write_archive.Goals as goal

pub put_header-requires : goal.put_header-requires
put_header-requires c =
    let s = c in
    let lib : Library = record { documents = s.args.l.documents; lengths = s.args.lengths.now; entries = s.args.entries.now } in record {
      fitting = fitting lib s.args.l s.args.target.now s.requires;
      in_bounds = omega (arith, s.requires.fits);
    }

pub put_table-requires : goal.put_table-requires
put_table-requires c =
    let s = c in
    let lib : Library = record { documents = s.args.l.documents; lengths = s.args.lengths.now; entries = s.args.entries.now } in
    let v = valid lib s.args.l s.args.target.now s.requires in
    omega (arith, s.requires.fits, v.limits.terms, v.limits.entries, v.total, c.put_header.auto.target)

pub write_rows-requires : goal.write_rows-requires
write_rows-requires c =
    let s = c in
    let lib : Library = record { documents = s.args.l.documents; lengths = s.args.lengths.now; entries = s.args.entries.now } in
    room_after s.args.entries.now s.args.l.levels s.args.target.now c.put_table.new.target
    (omega (arith, c.put_table.auto.target, c.put_header.auto.target)) (room lib s.args.l s.args.target.now s.requires)

pub returns : goal.returns
returns c =
    let s = c in
    let lib : Library = record { documents = s.args.l.documents; lengths = s.args.lengths.now; entries = s.args.entries.now } in
    let table = c.put_table in
    let head = c.put_header in
    whole lib s.args.l s.args.target.now s.requires table.new.target c.write_rows.new.target
    (table.ensures ∙ ap (overwrite_at 40 (concat (map little_endian (table_from 0 lib.lengths)))) head.ensures)
    c.write_rows.ensures

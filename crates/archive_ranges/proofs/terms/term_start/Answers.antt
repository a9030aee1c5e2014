use Prim.Native.Nat.{◌+◌, ◌*◌, ◌≤◌}
use mathlib.Core.Path.{sym, ap, ◌∙◌}
use native.Mathlib.Omega.{arith}
use lib.ListN.{length}
use Rattle.model.specs.Opening.{contents}
use Rattle.model.specs.Queries.{term_start}
use Rattle.archive.proofs.Opened.{pair_end, start_is, start_le, last_end}
use Rattle.archive_ranges.proofs.terms.term_start.Goals as goal

pub returns-then-t-archive : goal.returns-then-t-archive
returns-then-t-archive c =
    let s = c in
    let bytes = s.args.archive.now.bytes.now in
    let e = sym (last_end bytes s.args.archive.now.layout s.args.archive.now.opened) ∙ ap (term_start (contents bytes)) (sym c.if-t-archive.true) in
    (e, omega arith)

pub overflow_mul-t : goal.overflow_mul-t
overflow_mul-t c =
    let inside : 40 + 8 * c.args.t + 8 ≤ length c.args.archive.now.bytes.now =
    let s = c in pair_end s.args.archive.now.bytes.now s.args.archive.now.layout s.args.archive.now.opened s.args.t (omega arith) in
    let e = inside in omega arith

pub overflow_add-t : goal.overflow_add-t
overflow_add-t c =
    let inside : 40 + 8 * c.args.t + 8 ≤ length c.args.archive.now.bytes.now =
    let s = c in pair_end s.args.archive.now.bytes.now s.args.archive.now.layout s.args.archive.now.opened s.args.t (omega arith) in
    let e = inside in omega arith

pub number-requires : goal.number-requires
number-requires c =
    let inside : 40 + 8 * c.args.t + 8 ≤ length c.args.archive.now.bytes.now =
    let s = c in pair_end s.args.archive.now.bytes.now s.args.archive.now.layout s.args.archive.now.opened s.args.t (omega arith) in
    let e = inside in omega arith

pub returns : goal.returns
returns c =
    let s = c in
    let bytes = s.args.archive.now.bytes.now in
    let e = c.number.ensures.0 ∙ start_is bytes s.args.archive.now.layout s.args.archive.now.opened s.args.t (omega arith) in
    (e, omega (arith, e, start_le bytes s.args.archive.now.layout s.args.archive.now.opened s.args.t s.requires))

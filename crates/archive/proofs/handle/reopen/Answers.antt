use Prim.Native.Nat.{ℕ, ◌≤◌}
use mathlib.Core.Path.{◌≡◌, sym, ap, ◌∙◌, subst}
use mathlib.Core.List.{List}
use native.Mathlib.Omega.{arith}
use lib.ListN.{length}
use Rattle.model.specs.Opening.{sizes_at}
use Rattle.model.proofs.Format.Valid.{Limits}
use Rattle.archive.specs.Layout.{layout_of, IsArchive, Opened}
use Rattle.archive.proofs.Opened.{archive_opened, limits, pair_end}
use Rattle.archive.proofs.handle.reopen.Goals as goal

-- the header lies in the bytes
long : (bytes : List ℕ) → IsArchive bytes → 40 ≤ length bytes
long bytes e =
    let o = archive_opened bytes e in
    omega (arith, pair_end bytes (layout_of (sizes_at bytes)) o 0 (limits bytes (layout_of (sizes_at bytes)) o).some_term)

pub number-requires : goal.number-requires
number-requires c = omega (arith, long c.args.bytes.now c.requires)

pub number-requires-2 : goal.number-requires-2
number-requires-2 c = omega (arith, long c.args.bytes.now c.requires)

pub number-requires-3 : goal.number-requires-3
number-requires-3 c = omega (arith, long c.args.bytes.now c.requires)

pub layout_of-layout-requires : goal.layout_of-layout-requires
layout_of-layout-requires c =
    let sizes : sizes_at c.args.bytes.now ≡ record { entries = c.number.result; documents = c.number-2.result; terms = c.number-3.result } =
    let n = sym c.number.ensures.0 in
    let d = sym c.number-2.ensures.0 in
    let w = sym c.number-3.ensures.0 in
    λ i. record { entries = n i; documents = d i; terms = w i } in
    let s = c in
    let l = subst Limits (sizes) (limits s.args.bytes.now (layout_of (sizes_at s.args.bytes.now)) (archive_opened s.args.bytes.now s.requires)) in
    (l.entries, l.some_document, l.documents, l.some_term, l.terms)

pub invariant_of-result : goal.invariant_of-result
invariant_of-result c =
    let sizes : sizes_at c.args.bytes.now ≡ record { entries = c.number.result; documents = c.number-2.result; terms = c.number-3.result } =
    let n = sym c.number.ensures.0 in
    let d = sym c.number-2.ensures.0 in
    let w = sym c.number-3.ensures.0 in
    λ i. record { entries = n i; documents = d i; terms = w i } in
    record { opened = subst (Opened c.args.bytes.now) (ap layout_of (sizes) ∙ sym c.layout_of-layout.ensures) (archive_opened c.args.bytes.now c.requires) }

use Rattle.std.proofs.Common.{◌≡◌, refl, sym, ap, ◌∙◌, subst, Bool, true, false, not}
use Rattle.model.specs.Outcome.{answered, refuse}
use Rattle.model.specs.Format.{Sizes, within_limits, archive_length}
use Rattle.model.proofs.Format.Valid.{limits_of}
use Rattle.archive.specs.declared.Layout.{Layout}
use Rattle.archive.specs.Layout.{sizes_in, Fitting}
use Rattle.masuvelior.proofs.archives.length_of.Goals as goal

pub returns-then-not-within_limits : goal.returns-then-not-within_limits
returns-then-not-within_limits c =
    let s : Sizes = record { entries = c.args.n; documents = c.args.documents; terms = c.args.terms } in
    let e : within_limits s ≡ false = sym c.within_limits.ensures ∙ c.if-not-within_limits.true in
    sym (ap (λ (b : Bool). refuse 14 (not b) (answered (archive_length s))) e)

pub layout_of-requires : goal.layout_of-requires
layout_of-requires c =
    let s : Sizes = record { entries = c.args.n; documents = c.args.documents; terms = c.args.terms } in
    let l = limits_of s (sym c.within_limits.ensures ∙ c.if-not-within_limits.false) in
    (l.entries, l.some_document, l.documents, l.some_term, l.terms)

pub archive_length-requires : goal.archive_length-requires
archive_length-requires c =
    let s : Sizes = record { entries = c.args.n; documents = c.args.documents; terms = c.args.terms } in
    let l = limits_of s (sym c.within_limits.ensures ∙ c.if-not-within_limits.false) in
    subst Fitting (sym c.layout_of.ensures) (record { entries = l.entries; documents = l.documents; terms = l.terms; shape = refl })

pub returns : goal.returns
returns c =
    let s : Sizes = record { entries = c.args.n; documents = c.args.documents; terms = c.args.terms } in
    let within : within_limits s ≡ true = sym c.within_limits.ensures ∙ c.if-not-within_limits.false in
    ap answered (c.archive_length.ensures.0 ∙ ap (λ (l : Layout). archive_length (sizes_in l)) c.layout_of.ensures)
    ∙ sym (ap (λ (b : Bool). refuse 14 (not b) (answered (archive_length s))) within)

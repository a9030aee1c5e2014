use Rattle.std.proofs.Common.{ℕ, ◌≡◌, sym, ap, ◌∙◌, subst}
use Rattle.model.specs.Format.{Library, sizes_of, archive_length, encode}
use Rattle.model.specs.Lists.{overwrite}
use Rattle.model.specs.Outcome.{answered}
use Rattle.model.proofs.Format.Valid.{limits_of, archive_valid}
use Rattle.archive.specs.declared.Layout.{Layout}
use Rattle.archive.specs.Layout.{sizes_in}
use Rattle.writer.specs.Writing.{Writable}
use Rattle.writer.proofs.Assembly.{fitting_of}
use Rattle.writer.proofs.Refusals.{passed, refused_14, refused_15, refused_16, refused_17, written}
use Rattle.writer.proofs.libraries.write.Goals as goal

pub returns-then-not-within_limits : goal.returns-then-not-within_limits
returns-then-not-within_limits c =
    let lib : Library = record { documents = c.args.documents; lengths = c.args.lengths.now; entries = c.args.entries.now } in
    refused_14 lib c.args.target.now (sym c.within_limits.ensures ∙ c.if-not-within_limits.true)

pub returns-then-beyond : goal.returns-then-beyond
returns-then-beyond c =
    let lib : Library = record { documents = c.args.documents; lengths = c.args.lengths.now; entries = c.args.entries.now } in
    refused_15 lib c.args.target.now (sym c.within_limits.ensures ∙ c.if-not-within_limits.false) (sym c.beyond.ensures ∙ c.if-beyond.true)

pub total-requires : goal.total-requires
total-requires c =
    let lib : Library = record { documents = c.args.documents; lengths = c.args.lengths.now; entries = c.args.entries.now } in
    (limits_of (sizes_of lib) (sym c.within_limits.ensures ∙ c.if-not-within_limits.false)).terms

pub returns-then-total-n : goal.returns-then-total-n
returns-then-total-n c =
    let lib : Library = record { documents = c.args.documents; lengths = c.args.lengths.now; entries = c.args.entries.now } in
    refused_16 lib c.args.target.now (sym c.within_limits.ensures ∙ c.if-not-within_limits.false) (sym c.beyond.ensures ∙ c.if-beyond.false)
    (λ e. c.if-total-n.true (c.total.ensures ∙ e))

pub layout_of-l-requires : goal.layout_of-l-requires
layout_of-l-requires c =
    let lib : Library = record { documents = c.args.documents; lengths = c.args.lengths.now; entries = c.args.entries.now } in
    let valid = passed lib (sym c.within_limits.ensures ∙ c.if-not-within_limits.false) (sym c.beyond.ensures ∙ c.if-beyond.false) (sym c.total.ensures ∙ c.if-total-n.false) in
    let lim = valid.limits in
    (lim.entries, lim.some_document, lim.documents, lim.some_term, lim.terms)

pub archive_length-size-requires : goal.archive_length-size-requires
archive_length-size-requires c =
    let lib : Library = record { documents = c.args.documents; lengths = c.args.lengths.now; entries = c.args.entries.now } in
    let valid = passed lib (sym c.within_limits.ensures ∙ c.if-not-within_limits.false) (sym c.beyond.ensures ∙ c.if-beyond.false) (sym c.total.ensures ∙ c.if-total-n.false) in
    fitting_of lib valid c.layout_of-l.result c.layout_of-l.ensures

pub returns-then-target-size : goal.returns-then-target-size
returns-then-target-size c =
    let lib : Library = record { documents = c.args.documents; lengths = c.args.lengths.now; entries = c.args.entries.now } in
    let valid = passed lib (sym c.within_limits.ensures ∙ c.if-not-within_limits.false) (sym c.beyond.ensures ∙ c.if-beyond.false) (sym c.total.ensures ∙ c.if-total-n.false) in
    let size : c.archive_length-size.result ≡ archive_length (sizes_of lib) = c.archive_length-size.ensures.0 ∙ ap (λ (l : Layout). archive_length (sizes_in l)) c.layout_of-l.ensures in
    refused_17 lib c.args.target.now valid (rw (← size) c.if-target-size.true)

pub write_archive-requires : goal.write_archive-requires
write_archive-requires c =
    let lib : Library = record { documents = c.args.documents; lengths = c.args.lengths.now; entries = c.args.entries.now } in
    let valid = passed lib (sym c.within_limits.ensures ∙ c.if-not-within_limits.false) (sym c.beyond.ensures ∙ c.if-beyond.false) (sym c.total.ensures ∙ c.if-total-n.false) in
    let size : c.archive_length-size.result ≡ archive_length (sizes_of lib) = c.archive_length-size.ensures.0 ∙ ap (λ (l : Layout). archive_length (sizes_in l)) c.layout_of-l.ensures in
    subst (λ (d : ℕ). Writable (record { documents = d; lengths = lib.lengths; entries = lib.entries }) c.layout_of-l.result c.args.target.now)
    (sym (ap (λ (l : Layout). l.documents) c.layout_of-l.ensures))
    (record { valid = archive_valid lib valid; shape = c.layout_of-l.ensures; fits = rw (← size) c.if-target-size.false })

pub returns : goal.returns
returns c =
    let lib : Library = record { documents = c.args.documents; lengths = c.args.lengths.now; entries = c.args.entries.now } in
    let valid = passed lib (sym c.within_limits.ensures ∙ c.if-not-within_limits.false) (sym c.beyond.ensures ∙ c.if-beyond.false) (sym c.total.ensures ∙ c.if-total-n.false) in
    let size : c.archive_length-size.result ≡ archive_length (sizes_of lib) = c.archive_length-size.ensures.0 ∙ ap (λ (l : Layout). archive_length (sizes_in l)) c.layout_of-l.ensures in
    let documents : c.layout_of-l.result.documents ≡ lib.documents = ap (λ (l : Layout). l.documents) c.layout_of-l.ensures in
    (λ i. record {
      outcome = answered (size i);
      target = (c.write_archive.ensures ∙ ap (λ (d : ℕ). overwrite (encode (record { documents = d; lengths = lib.lengths; entries = lib.entries })) c.args.target.now) documents) i;
    })
    ∙ written lib c.args.target.now valid (rw (← size) c.if-target-size.false)

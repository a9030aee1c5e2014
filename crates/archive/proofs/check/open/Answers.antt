use mathlib.Core.Path.{◌≡◌, refl, sym, ap, ◌∙◌, subst}
use mathlib.Core.Bool.{true, false}
use Rattle.model.specs.Format.{Sizes, within_limits}
use Rattle.model.specs.Opening.{sizes_at, opening}
use Rattle.bits.specs.Bits.{number_at}
use Prim.Native.Nat.{ℕ, ◌≤◌}
use mathlib.Core.List.{List}
use lib.ListN.{length}
use Rattle.archive.specs.declared.Layout.{Layout}
use Rattle.archive.specs.Layout.{layout_of, sizes_in, Fitting}
use Rattle.archive.specs.Opening.{parts_outcome}
use Rattle.refusals.proofs.Outcomes.{passed_on}
use Rattle.model.proofs.Format.Valid.{limits_of}
use Rattle.archive.proofs.Acceptance.{short_refused, edition_refused, limits_refused, opening_parts}
use Rattle.archive.proofs.check.open.Goals as goal

pub returns-then-archive-lt40-clause-outcome : goal.returns-then-archive-lt40-clause-outcome
returns-then-archive-lt40-clause-outcome c = sym (short_refused c.args.archive.now c.if-archive-lt40.true)

pub returns-then-number-ne1-clause-outcome : goal.returns-then-number-ne1-clause-outcome
returns-then-number-ne1-clause-outcome c =
    let bytes = c.args.archive.now in
    sym (edition_refused bytes c.if-archive-lt40.false (λ e. c.if-number-ne1.true (c.number.ensures.0 ∙ e)))

pub returns-then-not-within_limits-clause-outcome : goal.returns-then-not-within_limits-clause-outcome
returns-then-not-within_limits-clause-outcome c =
    let sizes : sizes_at c.args.archive.now ≡ record { entries = c.number-n.result; documents = c.number-documents.result; terms = c.number-terms.result } =
    let n = sym c.number-n.ensures.0 in
    let d = sym c.number-documents.ensures.0 in
    let w = sym c.number-terms.ensures.0 in
    λ i. record { entries = n i; documents = d i; terms = w i } in
    let bytes = c.args.archive.now in
    let e : within_limits (sizes_at bytes) ≡ false = ap within_limits (sizes) ∙ sym c.within_limits.ensures ∙ c.if-not-within_limits.true in
    sym (limits_refused bytes c.if-archive-lt40.false (sym c.number.ensures.0 ∙ c.if-number-ne1.false) e)

pub layout_of-requires : goal.layout_of-requires
layout_of-requires c =
    let read : Sizes =
    record { entries = c.number-n.result; documents = c.number-documents.result; terms = c.number-terms.result } in
    let within : within_limits (read) ≡ true =
    sym c.within_limits.ensures ∙ c.if-not-within_limits.false in
    let l = limits_of (read) (within) in
    (l.entries, l.some_document, l.documents, l.some_term, l.terms)

pub invariant_of-headed : goal.invariant_of-headed
invariant_of-headed c =
    let read : Sizes =
    record { entries = c.number-n.result; documents = c.number-documents.result; terms = c.number-terms.result } in
    let within : within_limits (read) ≡ true =
    sym c.within_limits.ensures ∙ c.if-not-within_limits.false in
    let l = limits_of (read) (within) in record {
      long = c.if-archive-lt40.false;
      fitting = subst Fitting (sym c.layout_of.ensures) (record { entries = l.entries; documents = l.documents; terms = l.terms; shape = refl });
    }

-- what the parts come to is what the check on opening comes to, by what was read of the header
parts : (bytes : List ℕ) (l : Layout) (n d w : ℕ) → 40 ≤ length bytes → number_at bytes 0 ≡ 1
    → n ≡ number_at bytes 4 → d ≡ number_at bytes 8 → w ≡ number_at bytes 12
    → within_limits (record { entries = n; documents = d; terms = w }) ≡ true
    → l ≡ layout_of (record { entries = n; documents = d; terms = w }) → opening bytes ≡ parts_outcome bytes l
parts bytes l n d w long edition a b c within shape =
    let e : sizes_at bytes ≡ record { entries = n; documents = d; terms = w } = λ i. record { entries = sym a i; documents = sym b i; terms = sym c i } in
    opening_parts bytes l long edition (ap within_limits e ∙ within) (shape ∙ ap layout_of (sym e))

pub returns-in_err-check_parts-clause-outcome : goal.returns-in_err-check_parts-clause-outcome
returns-in_err-check_parts-clause-outcome c =
    let read : Sizes =
    record { entries = c.number-n.result; documents = c.number-documents.result; terms = c.number-terms.result } in
    let within : within_limits (read) ≡ true =
    sym c.within_limits.ensures ∙ c.if-not-within_limits.false in
    let e = parts c.args.archive.now c.layout_of.result c.number-n.result c.number-documents.result c.number-terms.result c.if-archive-lt40.false
    (sym c.number.ensures.0 ∙ c.if-number-ne1.false) c.number-n.ensures.0 c.number-documents.ensures.0 c.number-terms.ensures.0 within c.layout_of.ensures in
    passed_on _ c.from_residual.result c.in_err-check_parts.field-0.0 c.from_residual.ensures.1 (c.in_err-check_parts.ensures ∙ sym e)

pub invariant_of-result : goal.invariant_of-result
invariant_of-result c =
    let read : Sizes =
    record { entries = c.number-n.result; documents = c.number-documents.result; terms = c.number-terms.result } in
    let within : within_limits (read) ≡ true =
    sym c.within_limits.ensures ∙ c.if-not-within_limits.false in
    let e = parts c.args.archive.now c.layout_of.result c.number-n.result c.number-documents.result c.number-terms.result c.if-archive-lt40.false
    (sym c.number.ensures.0 ∙ c.if-number-ne1.false) c.number-n.ensures.0 c.number-documents.ensures.0 c.number-terms.ensures.0 within c.layout_of.ensures in
    let shape = c.layout_of.ensures in
    record { opened = record { accepted = e ∙ sym c.in_ok-check_parts.ensures; shape = shape ∙ ap layout_of (sym (ap sizes_in shape)) } }

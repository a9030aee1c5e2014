-- `boolean_opened` meets its contract: each return is a law of Answered.
use native.Mathlib.Omega.{arith}
use mathlib.Core.Path.{sym, ◌∙◌}
use Rattle.model.specs.Opening.{contents}
use Rattle.model.specs.Reading.{reading}
use Rattle.archive.proofs.Opened.{fitting, documents-are}
use Rattle.boolean.proofs.Answered.{found_le, comes_unread, comes_missing, comes_short, comes_found}
use Rattle.boolean.proofs.question.boolean_opened.Goals as goal

pub returns-then-not-has_reading : goal.returns-then-not-has_reading
returns-then-not-has_reading c =
    let s = c in
    let g = s.args in
    comes_unread g.archive.now.bytes.now g.archive.now.layout g.archive.now.opened g.question.now g.answers.now (sym c.has_reading.ensures ∙ c.if-not-has_reading.true)

pub returns-then-word_missing : goal.returns-then-word_missing
returns-then-word_missing c =
    let s = c in
    let g = s.args in
    comes_missing g.archive.now.bytes.now g.archive.now.layout g.archive.now.opened g.question.now g.answers.now (sym c.has_reading.ensures ∙ c.if-not-has_reading.false) (sym c.word_missing.ensures ∙ c.if-word_missing.true)

pub returns-then-answers-archive : goal.returns-then-answers-archive
returns-then-answers-archive c =
    let s = c in
    let g = s.args in
    comes_short g.archive.now.bytes.now g.archive.now.layout g.archive.now.opened g.question.now g.answers.now (sym c.has_reading.ensures ∙ c.if-not-has_reading.false) (sym c.word_missing.ensures ∙ c.if-word_missing.false) (omega arith)

pub boolean_in-requires : goal.boolean_in-requires
boolean_in-requires c =
    record { question_value = (sym c.has_reading.ensures ∙ c.if-not-has_reading.false, sym c.word_missing.ensures ∙ c.if-word_missing.false, omega arith) }

pub overflow_cast-result : goal.overflow_cast-result
overflow_cast-result c =
    let s = c in
    let g = s.args in
    record {
      fits = omega (
        arith,
        found_le (contents g.archive.now.bytes.now) (reading g.question.now) c.boolean_in.result g.answers.now c.boolean_in.new.answers c.boolean_in.ensures,
        documents-are g.archive.now.bytes.now g.archive.now.layout g.archive.now.opened,
        (fitting g.archive.now.bytes.now g.archive.now.layout g.archive.now.opened).documents,
      );
    }

pub returns : goal.returns
returns c =
    let s = c in
    let g = s.args in
    comes_found g.archive.now.bytes.now g.archive.now.layout g.archive.now.opened g.question.now g.answers.now (sym c.has_reading.ensures ∙ c.if-not-has_reading.false) (sym c.word_missing.ensures ∙ c.if-word_missing.false) (omega arith) c.boolean_in.result c.boolean_in.new.answers c.boolean_in.ensures

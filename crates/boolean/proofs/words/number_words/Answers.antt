-- `number_words` meets its contract: each turn of the loop is a law of Numbering.
use Rattle.std.proofs.Common.{arith}
use Rattle.boolean.proofs.Numbering.{numbered_first, room_for, numbered_word, numbered_other}
use Rattle.boolean.proofs.words.number_words.Goals.{then-number-lt4096, else-number-lt4096}
use Rattle.boolean.proofs.words.number_words.Goals as goal

pub loop-i-init : goal.loop-i-init
loop-i-init c = numbered_first c.args.question.now c.args.terms.now c.args.numbered.now c.requires.2 c.requires.3

pub place_of-at-requires : goal.place_of-at-requires
place_of-at-requires c = room_for c.args.question.now c.loop-i.invariant c.loop-i-test.true c.requires.0 c.requires.1 c.if-number-lt4096.true

pub overflow_cast-numbered : goal.overflow_cast-numbered
overflow_cast-numbered c =
    let room = room_for c.args.question.now c.loop-i.invariant c.loop-i-test.true c.requires.0 c.requires.1 c.if-number-lt4096.true in
    record { fits = omega (arith, room, c.loop-i.invariant.room.0, c.place_of-at.ensures.0) }

pub overflow_add-at : goal.overflow_add-at
overflow_add-at c =
    let room = room_for c.args.question.now c.loop-i.invariant c.loop-i-test.true c.requires.0 c.requires.1 c.if-number-lt4096.true in
    record { fits = omega (arith, room, c.loop-i.invariant.room.0, c.place_of-at.ensures.0) }

pub loop-i-preserved : goal.loop-i-preserved
loop-i-preserved c =
    let q = c.args.question.now in
    let k = c.loop-i in
    elim c.if-number-lt4096.branch [
      | then-number-lt4096 w ↦
          rw (w.terms-is, w.numbered-is, w.size-is, w.max-size.ensures)
          (numbered_word q k.invariant c.loop-i-test.true c.requires.0 w.place_of-at.result w.place_of-at.new.terms w.if-number-lt4096.true w.place_of-at.ensures.0 w.place_of-at.ensures.1)
      | else-number-lt4096 w ↦
          rw (w.terms-is, w.numbered-is, w.size-is) (numbered_other q k.invariant c.loop-i-test.true c.requires.0 w.if-number-lt4096.false)
    ]

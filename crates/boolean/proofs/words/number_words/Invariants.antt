-- `number_words` meets its contract: each turn of the loop is a law of Numbering.
use Rattle.boolean.specs.Words.{Numbered}
use Rattle.boolean.proofs.words.number_words.Given as goal

abbrev pub invariant-loop-i : goal.invariant-loop-i
invariant-loop-i l = Numbered l.question l.i l.terms l.size l.numbered

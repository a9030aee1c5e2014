-- `asked_terms`: the terms that are passed are the library's, and so are those that are kept.
use Rattle.std.proofs.Common.{◌<◌, All, take}
use Rattle.plain.proofs.pairs.asked_terms.Given as goal

abbrev pub invariant-loop-term : goal.invariant-loop-term
invariant-loop-term l = All (λ t. t < l.terms) (take l.term-index l.numbers)

abbrev pub invariant-loop-term-2 : goal.invariant-loop-term-2
invariant-loop-term-2 l = All (λ t. t < l.terms) l.asked.items

-- `put_first_places`: the invariant, that the pairs from number i on have their places.
use Rattle.model.specs.Lists.{part}
use Rattle.model.specs.Queries.{first_place}
use Rattle.answers.specs.Spread.{Spread}
use Rattle.wavelet.specs.Levels.{entries_in}
use Rattle.first_places.proofs.spread.put_first_places.Given as goal

abbrev pub invariant-loop-i : goal.invariant-loop-i
invariant-loop-i l = Spread (first_place l.a (part l.a l.b (entries_in l.tree.bytes.now l.tree.levels))) l.n l.i l.initial.answers l.answers

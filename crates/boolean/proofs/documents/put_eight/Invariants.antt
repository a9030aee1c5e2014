-- `put_eight` meets its contract.
use Rattle.std.proofs.Common.{◌≡◌}
use lib.Seq.{sets}
use Rattle.bits.specs.Sequences.{up_from}
use Rattle.boolean.proofs.documents.put_eight.Given as goal

abbrev pub invariant-loop-k : goal.invariant-loop-k
invariant-loop-k l = l.answers ≡ sets l.initial.answers l.place (up_from l.document l.k)

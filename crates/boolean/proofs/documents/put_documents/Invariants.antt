-- `put_documents` meets its contract: each turn of the loop is a law of Members.
use Prim.Native.Nat.{◌-◌, ◌%◌, ◌^◌}
use Rattle.boolean.proofs.Members.{Put}
use Rattle.boolean.proofs.documents.put_documents.Given as goal

abbrev pub invariant-loop-left : goal.invariant-loop-left
invariant-loop-left l = Put (l.set % 2 ^ l.size) l.first l.size l.at l.initial.answers l.left l.place l.i l.answers

abbrev pub decreases-loop-left : goal.decreases-loop-left
decreases-loop-left l = l.size - l.i

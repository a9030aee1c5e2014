use Rattle.keys.proofs.Laws.{Kept}
use Rattle.reader.proofs.Descending.{Front, Advanced}
use Rattle.reader.proofs.rows.deepen.Given as goal

abbrev pub invariant-loop-key : goal.invariant-loop-key
invariant-loop-key l = record {
  front : Front l.row l.initial.keys l.key-index l.keys;
  kept : Kept l.key-index l.initial.keys l.keys;
  advanced : Advanced l.initial.keys l.key-index l.initial.next l.next;
}

use Rattle.wavelet.specs.Spans.{Ordered, span_at}
use Rattle.wavelet.specs.Descents.{Leads}
use Rattle.wavelet.proofs.tree.Tree.descend.Given as goal

abbrev pub invariant-loop-i : goal.invariant-loop-i
invariant-loop-i l = Leads l.self.bytes.now l.self.levels l.d l.j l.fn.p l.i l.place × Ordered l.self.levels.entries (span_at l.place)

use Rattle.wavelet.proofs.Descents.{Entry}
use Rattle.wavelet.proofs.tree.Tree.access.Given as goal

abbrev pub invariant-loop-j : goal.invariant-loop-j
invariant-loop-j l = Entry l.self.bytes.now l.self.levels l.i l.j l.p l.entry

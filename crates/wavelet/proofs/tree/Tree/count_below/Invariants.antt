use Rattle.wavelet.proofs.Descents.{Below}
use Rattle.wavelet.proofs.tree.Tree.count_below.Given as goal

abbrev pub invariant-loop-j : goal.invariant-loop-j
invariant-loop-j l = Below l.self.bytes.now l.self.levels l.a l.b l.v l.j l.s l.below

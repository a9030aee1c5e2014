use mathlib.Core.Path.{sym, ap, ◌∙◌}
use mathlib.Core.List.{List}
use Prim.Native.Nat.{ℕ}
use native.Mathlib.Omega.{arith}
use lib.ListN.{get_or}
use Rattle.bits.specs.Bits.{bit_at}
use Rattle.bits.proofs.Bits.{get_or-bits_of}
use Rattle.wavelet.specs.Levels.{row_in}
use Rattle.wavelet.proofs.Stored.{length-row_in, level_is}
use Rattle.wavelet.proofs.tree.Tree.bit.Goals as goal

pub bit-requires : goal.bit-requires
bit-requires c =
    let s = c in
    let l = length-row_in s.args.self.now.bytes.now s.args.self.now.levels s.args.self.now.stored s.args.j s.requires.j_lt_height.0 in
    rw c.bits_at.ensures (omega arith)

pub returns : goal.returns
returns c =
    let s = c in
    let b = s.args.self.now.bytes.now in
    let t = s.args.self.now.levels in
    let r : List ℕ = row_in b t s.args.j in (
      c.bit.ensures.0
          ∙ ap (λ (l : List ℕ). bit_at l s.args.p) c.bits_at.ensures
          ∙ sym (get_or-bits_of t.entries r s.args.p s.requires.j_lt_height.1)
          ∙ ap (λ (l : List ℕ). get_or l s.args.p 0) (sym (level_is b t s.args.j s.requires.j_lt_height.0)),
      c.bit.ensures.1,
    )

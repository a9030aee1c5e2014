use Prim.Native.Nat.{ℕ, ◌+◌}
use native.Mathlib.Omega.{arith}
use mathlib.Core.Path.{ap, ◌∙◌}
use Rattle.wavelet_select.proofs.FirstEntries.{root-ordered, root-has, root-first}
use Rattle.wavelet_select.proofs.first.first_in.Goals as goal

pub offset_in-requires : goal.offset_in-requires
offset_in-requires c =
    let g = c.args in
    let tree = g.tree.now in
    let (low, order, inside, some, is) = c.requires.d_bound in record {
      j_le_height = (
        omega arith,
        root-ordered tree.bytes.now tree.levels g.d g.a g.b order inside low g.count some is,
        root-has tree.bytes.now tree.levels g.d g.a g.b order inside low g.count some is,
      );
    }

pub returns : goal.returns
returns c =
    let g = c.args in
    let tree = g.tree.now in
    let (low, order, inside, some, is) = c.requires.d_bound in (
      ap (λ (k : ℕ). g.a + k) c.offset_in.ensures.0 ∙ root-first tree.bytes.now tree.levels g.d g.a g.b order inside low g.count some is,
      omega (arith, c.offset_in.ensures.1),
    )

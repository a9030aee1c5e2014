use borrow.Author.Rules.{rules}
use Prim.Native.Nat.{ℕ, ◌+◌, ◌*◌}
use native.Mathlib.Omega.{arith}
use mathlib.Core.Path.{ap, ◌∙◌}
use mathlib.Core.List.{List, [], ◌∷◌}
use lib.Seq.{sets}
use Rattle.wavelet.specs.declared.Halves.{Halves}
use Rattle.wavelet.specs.Spans.{halves_of}
use Rattle.paths.specs.Paths.{pair_in, put_halves, sides_of}
use Rattle.paths.proofs.Trees.{bits_in, ranks_in, ordered_in, level_in}
use Rattle.paths.proofs.query.Query.part_term.Goals as goal

pub halve_range-two-requires : goal.halve_range-two-requires
halve_range-two-requires c =
    let g = c.args in
    let t = c.tree-tree in
    let r = c.requires in record {
      j_lt_height = (
        level_in g.self.now t.result.bytes.now t.result.levels t.ensures g.level r.0,
        ranks_in g.self.now t.result.bytes.now t.result.levels t.ensures g.level g.node r.1,
        ordered_in g.self.now t.result.bytes.now t.result.levels t.ensures (pair_in g.node g.path.now g.from) r.5,
      );
    }

pub put_pair-requires : goal.put_pair-requires
put_pair-requires c =
    let two = c.halve_range-two.ensures in
    let few = c.tree-tree.result.stored.few in
    (search rules, omega (arith, two.1.range, two.1.to, two.1.inside, few), omega (arith, two.1.to, two.1.inside, few))

pub put_pair-requires-2 : goal.put_pair-requires-2
put_pair-requires-2 c =
    let two = c.halve_range-two.ensures in
    let few = c.tree-tree.result.stored.few in
    (search rules, omega (arith, two.2.range, two.2.to, two.2.inside, few), omega (arith, two.2.to, two.2.inside, few))

pub overflow_sub-result : goal.overflow_sub-result
overflow_sub-result c = c.halve_range-two.ensures.1.range

pub overflow_sub-result-2 : goal.overflow_sub-result-2
overflow_sub-result-2 c = c.halve_range-two.ensures.2.range

pub returns : goal.returns
returns c =
    let g = c.args in
    let w = c.halve_range-two in
    let t = c.tree-tree in
    let e = w.ensures.0 ∙ ap (λ (xs : List ℕ). halves_of xs (pair_in g.node g.path.now g.from)) (bits_in g.self.now t.result.bytes.now t.result.levels t.ensures g.level) in (
      c.put_pair-2.ensures ∙ ap (λ (l : List ℕ). sets l (2 * (g.to + 9)) (w.result.one.lo ∷ w.result.one.hi ∷ [])) c.put_pair.ensures
          ∙ ap (λ (two : Halves). put_halves two g.to g.path.now) e,
      ap sides_of e,
    )

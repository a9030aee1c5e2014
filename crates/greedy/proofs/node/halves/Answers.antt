-- `halves`: by the halves of the node's places; the one half starts half the node's numbers later.
use Prim.Native.Nat.{ℕ, ◌+◌, ◌-◌, ◌%◌, ◌^◌}
use native.Mathlib.Omega.{arith}
use mathlib.Core.Path.{◌≡◌, ap, ◌∙◌}
use Rattle.wavelet.specs.Levels.{level_of}
use Rattle.wavelet.specs.Spans.{halves_of}
use Rattle.greedy.specs.Records.{packed, span_in}
use Rattle.moves.proofs.Tree.{shl_height}
use Rattle.greedy.proofs.node.halves.Goals as goal

pub halve-two-requires : goal.halve-two-requires
halve-two-requires c =
    let s = c in
    record { j_lt_height = (omega arith, rw c.from-start.ensures.2 s.requires.second_bound.2) }

pub overflow_add-one : goal.overflow_add-one
overflow_add-one c =
    let s = c in
    let low = s.args.tree.now.stored.low in
    omega (arith, shl_height (s.args.tree.now.levels.height - 1 - c.from-start.result.depth) (omega arith))

pub record-requires-2 : goal.record-requires-2
record-requires-2 c =
    let s = c in
    let low = s.args.tree.now.stored.low in
    let few = s.args.tree.now.stored.few in
    let o = c.halve-two.ensures.2 in
    (omega (arith, shl_height (s.args.tree.now.levels.height - 1 - c.from-start.result.depth) (omega arith)), omega arith, omega arith)

pub returns : goal.returns
returns c =
    let s = c in
    let tree = s.args.tree.now in
    let low = tree.stored.low in
    let node = c.from-start in
    let shift = (shl_height (tree.levels.height - 1 - node.result.depth) (omega arith)).0 ∙ ap (λ (d : ℕ). 2 ^ (tree.levels.height - 1 - d)) node.ensures.1 in
    let two : c.halve-two.result ≡ halves_of (level_of tree.bytes.now tree.levels (s.args.r.second % 16)) (span_in s.args.r) =
    c.halve-two.ensures.0 ∙ (λ i. halves_of (level_of tree.bytes.now tree.levels (node.ensures.1 i)) (node.ensures.2 i)) in record {
      zero_value = c.record.ensures ∙ (λ i. packed (node.ensures.0 i) (node.ensures.1 i + 1) (two i).zero);
      one_value = c.record-2.ensures ∙ (λ i. packed (node.ensures.0 i + shift i) (node.ensures.1 i + 1) (two i).one);
    }

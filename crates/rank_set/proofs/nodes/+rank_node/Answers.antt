use native.Mathlib.Omega.{arith}
use mathlib.Core.Path.{◌≡◌, sym, ◌∙◌}
use lib.ListN.{length}
use lib.Seq.{length-take-le}
use Rattle.bits.proofs.Bits.{shl_one_word}
use Rattle.rank_set.proofs.Parts.{under_few}
use Rattle.rank_set.proofs.Counted.{reached_ordered, counts_none, counts_all}
use Rattle.rank_set.proofs.Branch.{lowest_inner, front-asked, rest-asked, parts_fit, parts_count}
use Prim.Native.Nat.{◌-◌, ◌^◌}
use Rattle.rank_set.proofs.nodes.+rank_node.Goals as goal

pub returns-then-p : goal.returns-then-p
returns-then-p t c =
    let s = c in
    let g = s.args in
    counts_none g.tree.now.bytes.now g.tree.now.levels g.set.now g.j s.requires.under.0 g.p c.if-p.true

pub overflow_cast-first : goal.overflow_cast-first
overflow_cast-first t c = omega (arith, (c.type_inv.set 0).fits)

pub lowest-depth-requires : goal.lowest-depth-requires
lowest-depth-requires t c =
    let s = c in
    (s.args.tree.now.stored.low, s.requires.under.0)

pub overflow_sub-height : goal.overflow_sub-height
overflow_sub-height t c = c.lowest-depth.ensures.under.deep

pub overflow_shl-height : goal.overflow_shl-height
overflow_shl-height t c =
    let s = c in
    omega (arith, s.args.tree.now.stored.low)

pub count_under-requires : goal.count_under-requires
count_under-requires t c =
    let s = c in
    let g = s.args in
    let low = c.lowest-depth in
    let u = s.requires.under.0 in record {
      j_le_k = (low.ensures.below, low.ensures.under.deep, u.fit 0 u.some, reached_ordered g.tree.now.bytes.now g.tree.now.levels g.set.now g.j g.p s.requires.under.1);
    }

pub returns-then-set-height : goal.returns-then-set-height
returns-then-set-height t c =
    let s = c in
    let g = s.args in
    let low = c.lowest-depth in
    counts_all g.tree.now.bytes.now g.tree.now.levels g.set.now g.j s.requires.under.0 g.p low.result c.count_under.result low.ensures.under
    (c.if-set-height.true ∙ shl_one_word (g.tree.now.levels.height - low.result) (omega (arith, s.args.tree.now.stored.low))) c.count_under.ensures

pub descend-node-requires : goal.descend-node-requires
descend-node-requires t c =
    let s = c in
    let g = s.args in
    let low = c.lowest-depth in
    let u = s.requires.under.0 in record {
      j_le_k = (low.ensures.below, low.ensures.under.deep, u.fit 0 u.some, reached_ordered g.tree.now.bytes.now g.tree.now.levels g.set.now g.j g.p s.requires.under.1);
    }

pub halve_place-two-requires : goal.halve_place-two-requires
halve_place-two-requires t c =
    let s = c in
    let g = s.args in
    let low = c.lowest-depth in
    let short : length g.set.now ≡ 2 ^ (g.tree.now.levels.height - low.result) → ⊥ =
    λ e. c.if-set-height.false (e ∙ sym (shl_one_word (g.tree.now.levels.height - low.result) (omega (arith, s.args.tree.now.stored.low)))) in record {
      j_lt_height = (lowest_inner g.tree.now.bytes.now g.tree.now.levels g.set.now g.j g.p s.requires.under.1 low.result low.ensures short, c.descend-node.ensures.1);
    }

pub overflow_sub-height-2 : goal.overflow_sub-height-2
overflow_sub-height-2 t c =
    let s = c in
    let g = s.args in
    let low = c.lowest-depth in
    let short : length g.set.now ≡ 2 ^ (g.tree.now.levels.height - low.result) → ⊥ =
    λ e. c.if-set-height.false (e ∙ sym (shl_one_word (g.tree.now.levels.height - low.result) (omega (arith, s.args.tree.now.stored.low)))) in
    omega (arith, lowest_inner g.tree.now.bytes.now g.tree.now.levels g.set.now g.j g.p s.requires.under.1 low.result low.ensures short)

pub front_size-size-requires : goal.front_size-size-requires
front_size-size-requires t c =
    let s = c in
    (s.requires.under.0.some, omega (arith, s.args.tree.now.stored.low))

pub overflow_add-depth : goal.overflow_add-depth
overflow_add-depth t c =
    let s = c in
    omega (arith, c.lowest-depth.ensures.under.deep, s.args.tree.now.stored.low)

pub slice_bounds-rank_node-end : goal.slice_bounds-rank_node-end
slice_bounds-rank_node-end t c =
    let s = c in
    sym (length-take-le _ s.args.set.now c.front_size-size.ensures.inside)

pub rank_node-zeros-requires : goal.rank_node-zeros-requires
rank_node-zeros-requires t c =
    let s = c in
    let g = s.args in
    let low = c.lowest-depth in
    let short : length g.set.now ≡ 2 ^ (g.tree.now.levels.height - low.result) → ⊥ =
    λ e. c.if-set-height.false (e ∙ sym (shl_one_word (g.tree.now.levels.height - low.result) (omega (arith, s.args.tree.now.stored.low)))) in
    let node = c.descend-node in
    let two = c.halve_place-two in
    let part = c.front_size-size in
    let inner = lowest_inner g.tree.now.bytes.now g.tree.now.levels g.set.now g.j g.p s.requires.under.1 low.result low.ensures short in (
      omega (arith, s.decreases, inner, low.ensures.below),
      front-asked g.tree.now.bytes.now g.tree.now.levels g.set.now g.j g.p s.requires.under.1 low.result low.ensures short node.result node.ensures.0
          two.result two.ensures part.result part.ensures,
    )

pub overflow_add-depth-2 : goal.overflow_add-depth-2
overflow_add-depth-2 t c =
    let s = c in
    omega (arith, c.lowest-depth.ensures.under.deep, s.args.tree.now.stored.low)

pub offset_bounds-set-size : goal.offset_bounds-set-size
offset_bounds-set-size t c =
    let s = c in
    let g = s.args in
    omega (arith, c.front_size-size.ensures.inside, under_few g.tree.now.levels.height g.j g.set.now s.requires.under.0 s.args.tree.now.stored.low)

pub slice_bounds-rank_node-count : goal.slice_bounds-rank_node-count
slice_bounds-rank_node-count t c = c.front_size-size.ensures.inside

pub rank_node-ones-requires : goal.rank_node-ones-requires
rank_node-ones-requires t c =
    let s = c in
    let g = s.args in
    let low = c.lowest-depth in
    let short : length g.set.now ≡ 2 ^ (g.tree.now.levels.height - low.result) → ⊥ =
    λ e. c.if-set-height.false (e ∙ sym (shl_one_word (g.tree.now.levels.height - low.result) (omega (arith, s.args.tree.now.stored.low)))) in
    let node = c.descend-node in
    let two = c.halve_place-two in
    let part = c.front_size-size in
    let inner = lowest_inner g.tree.now.bytes.now g.tree.now.levels g.set.now g.j g.p s.requires.under.1 low.result low.ensures short in (
      omega (arith, s.decreases, inner, low.ensures.below),
      rest-asked g.tree.now.bytes.now g.tree.now.levels g.set.now g.j g.p s.requires.under.1 low.result low.ensures short node.result node.ensures.0
          two.result two.ensures part.result part.ensures,
    )

pub overflow_add-result : goal.overflow_add-result
overflow_add-result t c =
    let s = c in
    let g = s.args in
    let low = c.lowest-depth in
    let short : length g.set.now ≡ 2 ^ (g.tree.now.levels.height - low.result) → ⊥ =
    λ e. c.if-set-height.false (e ∙ sym (shl_one_word (g.tree.now.levels.height - low.result) (omega (arith, s.args.tree.now.stored.low)))) in
    let node = c.descend-node in
    let two = c.halve_place-two in
    let part = c.front_size-size in
    let zeros = c.rank_node-zeros in
    let ones = c.rank_node-ones in
    omega (
      arith,
      s.args.tree.now.stored.few,
      parts_fit g.tree.now.bytes.now g.tree.now.levels g.set.now g.j g.p s.requires.under.1 low.result low.ensures short node.result node.ensures.0
          two.result two.ensures part.result part.ensures zeros.result ones.result zeros.ensures ones.ensures,
    )

pub returns : goal.returns
returns t c =
    let s = c in
    let g = s.args in
    let low = c.lowest-depth in
    let short : length g.set.now ≡ 2 ^ (g.tree.now.levels.height - low.result) → ⊥ =
    λ e. c.if-set-height.false (e ∙ sym (shl_one_word (g.tree.now.levels.height - low.result) (omega (arith, s.args.tree.now.stored.low)))) in
    let node = c.descend-node in
    let two = c.halve_place-two in
    let part = c.front_size-size in
    let zeros = c.rank_node-zeros in
    let ones = c.rank_node-ones in
    parts_count g.tree.now.bytes.now g.tree.now.levels g.set.now g.j g.p s.requires.under.1 low.result low.ensures short node.result node.ensures.0
    two.result two.ensures part.result part.ensures zeros.result ones.result zeros.ensures ones.ensures

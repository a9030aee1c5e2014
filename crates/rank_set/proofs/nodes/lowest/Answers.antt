use Prim.Native.Nat.{◌-◌, ◌^◌, ◌≤◌}
use native.Mathlib.Omega.{arith}
use lib.ListN.{length}
use lib.Pow.{pow_mono}
use Rattle.rank_set.proofs.Parts.{lowest_within, under_lowest, lowest_parts}
use Rattle.rank_set.proofs.nodes.lowest.Goals as goal

pub overflow_cast-first : goal.overflow_cast-first
overflow_cast-first c = omega (arith, (c.type_inv.set 0).fits)

pub overflow_cast-last : goal.overflow_cast-last
overflow_cast-last c = omega (arith, (c.type_inv.set (length c.args.set.now - 1)).fits)

pub lca_height-requires : goal.lca_height-requires
lca_height-requires c =
    let s = c in
    let u = s.requires.1 in
    let wide : 2 ^ s.args.t.height ≤ 2 ^ 12 = pow_mono s.requires.0 in
    (omega (arith, u.fit 0 u.some), omega (arith, u.fit (length s.args.set.now - 1) (omega (arith, u.some))))

pub overflow_sub-result : goal.overflow_sub-result
overflow_sub-result c =
    let s = c in
    let g = s.args in
    let a = c.lca_height in
    omega (arith, lowest_within g.t.height g.j g.set.now s.requires.1 a.result a.ensures.0 a.ensures.1)

pub returns : goal.returns
returns c =
    let s = c in
    let g = s.args in
    let u = s.requires.1 in
    let a = c.lca_height in
    record {
      below = omega (arith, lowest_within g.t.height g.j g.set.now u a.result a.ensures.0 a.ensures.1, u.deep);
      under = under_lowest g.t.height g.j g.set.now u a.result a.ensures.0 a.ensures.1;
      part = lowest_parts g.t.height g.j g.set.now u a.result a.ensures.0 a.ensures.1;
    }

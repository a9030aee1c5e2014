use Prim.Native.Nat.{◌*◌, ◌<◌}
use native.Mathlib.Omega.{arith}
use lib.ListN.{get_or}
use mathlib.Core.Path.{◌≡◌, refl, ap, ◌∙◌}
use Rattle.paths.specs.Paths.{count_at}
use Rattle.weighted.specs.Totals.{total}
use Rattle.weighted.proofs.Totals.{product_few, adding_next}
use Rattle.weighted.proofs.score.score_of.Goals as goal

pub overflow_mul-score : goal.overflow_mul-score
overflow_mul-score c =
    let g = c.args in
    let k = c.loop-k in
    let less : k.k < g.size = omega arith in
    let few = c.requires.2 in
    let heavy = c.requires.3 k.k less in
    omega (arith, product_few k.invariant less few (get_or g.weights k.k 0) c.count_at-count.result refl c.count_at-count.ensures.0 heavy c.count_at-count.ensures.1)

pub overflow_add-score : goal.overflow_add-score
overflow_add-score c =
    let g = c.args in
    let k = c.loop-k in
    let less : k.k < g.size = omega arith in
    let few = c.requires.2 in
    let heavy = c.requires.3 k.k less in
    omega (arith, product_few k.invariant less few (get_or g.weights k.k 0) c.count_at-count.result refl c.count_at-count.ensures.0 heavy c.count_at-count.ensures.1, k.invariant.score_few)

pub overflow_add-entries : goal.overflow_add-entries
overflow_add-entries c =
    let g = c.args in
    let k = c.loop-k in
    let less : k.k < g.size = omega arith in
    let few = c.requires.2 in
    let heavy = c.requires.3 k.k less in
    omega (arith, k.invariant.entries_few, c.count_at-count.ensures.1)

pub loop-k-preserved : goal.loop-k-preserved
loop-k-preserved c =
    let g = c.args in
    let k = c.loop-k in
    let less : k.k < g.size = omega arith in
    let few = c.requires.2 in
    let heavy = c.requires.3 k.k less in
    adding_next k.invariant less few (get_or g.weights k.k 0) c.count_at-count.result refl c.count_at-count.ensures.0 heavy c.count_at-count.ensures.1

pub returns : goal.returns
returns c =
    let g = c.args in
    let o = c.loop-k.invariant in
    let i = o.inside in
    let e : c.loop-k.k ≡ g.size = omega arith in
    (o.scored ∙ ap (total (λ i. get_or g.weights i 0 * count_at g.path.now g.frame i)) e, o.counted ∙ ap (total (count_at g.path.now g.frame)) e)

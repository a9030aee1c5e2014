use Prim.Native.Nat.{ℕ, ◌+◌, ◌-◌, ◌*◌, ◌^◌}
use native.Mathlib.Omega.{arith}
use lib.ListN.{get_or}
use lib.Dec.{ltb}
use mathlib.Core.Path.{◌≡◌, ap, ◌∙◌}
use Rattle.model.specs.TopK.{node}
use Rattle.paths.specs.Query.{size}
use Rattle.paths.specs.Paths.{count_at}
use Rattle.model.specs.Weighted.{score_in}
use Rattle.weighted.specs.Totals.{total}
use Rattle.weighted.specs.Grounds.{weighed_in}
use Rattle.weighted.proofs.Nodes.{weights_few, score_few, score_is, lives_is}
use Rattle.weighted.proofs.step.half_of.Goals as goal

pub score_of-s-requires : goal.score_of-s-requires
score_of-s-requires c =
    let g = c.args in
    let deep = c.requires.path_len.2 in
    (c.requires.path_len.0, omega (arith, c.frame_of.ensures), g.asking.now.query.chosen.few, weights_few g.asking.now.query g.asking.now.weights g.asking.now.weighs)

pub overflow_cast-result : goal.overflow_cast-result
overflow_cast-result c =
    let g = c.args in
    let e : c.score_of-s.result.score ≡ score_in (weighed_in g.asking.now.query) (node (g.asking.now.query.archive.layout.levels.height - g.level) g.number) =
    c.score_of-s.ensures.0
    ∙ ap (λ (f : ℕ). total (λ k. get_or g.asking.now.weights k 0 * count_at g.path.now f k) (size g.asking.now.query)) c.frame_of.ensures
    ∙ score_is g.asking.now.query g.path.now g.level g.number c.requires.path_len.1 c.requires.path_len.5 g.asking.now.weights g.asking.now.weighs in
    omega (arith, score_few g.asking.now.query (node (g.asking.now.query.archive.layout.levels.height - g.level) g.number))

pub returns : goal.returns
returns c =
    let g = c.args in
    let e : c.score_of-s.result.score ≡ score_in (weighed_in g.asking.now.query) (node (g.asking.now.query.archive.layout.levels.height - g.level) g.number) =
    c.score_of-s.ensures.0
    ∙ ap (λ (f : ℕ). total (λ k. get_or g.asking.now.weights k 0 * count_at g.path.now f k) (size g.asking.now.query)) c.frame_of.ensures
    ∙ score_is g.asking.now.query g.path.now g.level g.number c.requires.path_len.1 c.requires.path_len.5 g.asking.now.weights g.asking.now.weighs in
    let d = c.requires.path_len.1 in
    let at = c.requires.path_len.4 in
    let second : g.start * 16 + g.level ≡ g.number * 2 ^ (g.asking.now.query.archive.layout.levels.height - g.level) * 16 + (g.asking.now.query.archive.layout.levels.height - (g.asking.now.query.archive.layout.levels.height - g.level)) = omega arith in
    record {
      waits = λ i. record { first = e i; second = second i; third = 0; fourth = 0 };
      lives =
          ap (ltb 0) (c.score_of-s.ensures.1 ∙ ap (λ (f : ℕ). total (count_at g.path.now f) (size g.asking.now.query)) c.frame_of.ensures)
          ∙ lives_is g.asking.now.query g.path.now g.level g.number c.requires.path_len.1 c.requires.path_len.5;
    }

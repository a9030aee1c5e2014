use Prim.Native.Nat.{ℕ, ◌+◌, ◌*◌}
use native.Mathlib.Omega.{arith}
use mathlib.Core.Path.{ap, ◌∙◌}
use mathlib.Core.List.{List, [], ◌∷◌}
use lib.ListN.{get_or}
use lib.Seq.{sets}
use Rattle.wavelet.specs.declared.Halves.{Halves}
use Rattle.paths.specs.Paths.{put_halves}
use Rattle.paths.specs.Query.{bits}
use Rattle.paths.proofs.Passing.{pass_full, put-empty}
use Rattle.paths.proofs.query.Query.pass_term.Goals as goal

pub returns-then-hi-lo : goal.returns-then-hi-lo
returns-then-hi-lo c =
    let g = c.args in
    let lo : ℕ = get_or g.path.now (2 * g.from) 0 in
    let hi : ℕ = get_or g.path.now (2 * g.from + 1) 0 in
    c.put_pair-then-hi-lo.ensures
    ∙ ap (λ (x : List ℕ). sets x (2 * (g.to + 9)) (lo ∷ hi ∷ [])) c.put_pair.ensures
    ∙ put-empty (bits g.self.now g.level) g.node g.path.now g.from g.to c.if-hi-lo.true

pub part_term-requires : goal.part_term-requires
part_term-requires c =
    let r = c.requires in
    (r.0, r.1, r.2, r.3, r.4, r.5 (omega (arith, c.if-hi-lo.false)))

pub returns : goal.returns
returns c =
    let g = c.args in
    c.part_term.ensures.0
    ∙ ap (λ (two : Halves). put_halves two g.to g.path.now) (pass_full (bits g.self.now g.level) g.node g.path.now g.from (omega (arith, c.if-hi-lo.false)))

use Rattle.std.proofs.Common.{ℕ, ap, ◌∙◌, [], ◌∷◌}
use Rattle.model.specs.Outcome.{Outcome}
use Rattle.model.specs.Format.{Sizes}
use Rattle.archive.specs.Layout.{sizes_in}
use Rattle.archive.proofs.Opened.{limits}
use Rattle.ffi.specs.Left.{given, sizes, coded, three}
use Rattle.masuvelior.proofs.Narrow.{limits_narrow}
use Rattle.masuvelior.proofs.archives.masuvelior_open.Goals as goal

pub sizes-requires : goal.sizes-requires
sizes-requires c =
    let a = c.in-Ok.opened in
    limits_narrow (sizes_in a.layout) (limits a.bytes.now a.layout a.opened)

pub returns-in-Ok : goal.returns-in-Ok
returns-in-Ok c =
    let g = c.args in
    c.sizes.ensures ∙ ap (λ (x : Outcome Sizes). given sizes x (g.n.now ∷ g.documents.now ∷ g.terms.now ∷ [])) c.in-Ok.ensures.outcome

pub returns-in-Err : goal.returns-in-Err
unfolding given
returns-in-Err c =
    let g = c.args in
    ap (λ (k : ℕ). coded k (three g.n.now g.documents.now g.terms.now)) c.from.ensures
    ∙ ap (λ (x : Outcome Sizes). given sizes x (g.n.now ∷ g.documents.now ∷ g.terms.now ∷ [])) c.in-Err.ensures.outcome

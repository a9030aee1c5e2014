use Rattle.std.proofs.Common.{ℕ, sym, ap, ◌∙◌, [], ◌∷◌, Result}
use Rattle.reader.specs.declared.Sizes.{Sizes}
use Rattle.reader.specs.Reading.{reading_of}
use Rattle.refusals.specs.declared.Refusal.{Refusal}
use Rattle.ffi.specs.Left.{given, sizes, coded, three}
use Rattle.ffi.proofs.give.sizes.Goals as goal

pub returns-in-Ok : goal.returns-in-Ok
unfolding given
returns-in-Ok c =
    let g = c.args in
    sym (ap (λ (x : Result Sizes Refusal). given sizes (reading_of x) (g.first.now ∷ g.second.now ∷ g.third.now ∷ [])) c.in-Ok.is)

pub returns-in-Err : goal.returns-in-Err
unfolding given
returns-in-Err c =
    let g = c.args in
    ap (λ (n : ℕ). coded n (three g.first.now g.second.now g.third.now)) c.from.ensures
    ∙ sym (ap (λ (x : Result Sizes Refusal). given sizes (reading_of x) (g.first.now ∷ g.second.now ∷ g.third.now ∷ [])) c.in-Err.is)

use Rattle.std.proofs.Common.{ℕ, sym, ap, ◌∙◌, [], ◌∷◌, Result, Ok}
use Rattle.moves.specs.declared.Ended.{Ended}
use Rattle.moves.specs.Results.{top_k_of}
use Rattle.refusals.specs.declared.Refusal.{Refusal}
use Rattle.ffi.specs.Left.{given, ended, coded, three}
use Rattle.ffi.proofs.give.top_k.Goals as goal

pub returns-in-Ok-Done : goal.returns-in-Ok-Done
unfolding given
returns-in-Ok-Done c =
    let g = c.args in
    sym (ap (λ (x : Result Ended Refusal). given ended (top_k_of x) (g.first.now ∷ g.second.now ∷ g.third.now ∷ [])) (c.in-Ok-Done.is ∙ ap Ok (rw c.in-Ok-Done.is at c.in-Ok-Done.field-0-is)))

pub returns-in-Ok-Spent : goal.returns-in-Ok-Spent
unfolding given
returns-in-Ok-Spent c =
    let g = c.args in
    sym (ap (λ (x : Result Ended Refusal). given ended (top_k_of x) (g.first.now ∷ g.second.now ∷ g.third.now ∷ [])) (c.in-Ok-Spent.is ∙ ap Ok (rw c.in-Ok-Spent.is at c.in-Ok-Spent.field-0-is)))

pub returns-in-Err : goal.returns-in-Err
unfolding given
returns-in-Err c =
    let g = c.args in
    ap (λ (n : ℕ). coded n (three g.first.now g.second.now g.third.now)) c.from.ensures
    ∙ sym (ap (λ (x : Result Ended Refusal). given ended (top_k_of x) (g.first.now ∷ g.second.now ∷ g.third.now ∷ [])) c.in-Err.is)

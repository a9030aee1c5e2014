use Rattle.std.proofs.Common.{ℕ, sym, ap, ◌∙◌, [], ◌∷◌, Result}
use Rattle.archive_ranges.specs.declared.Entries.{Entries}
use Rattle.archive_ranges.specs.Ranges.{bounds_in}
use Rattle.refusals.specs.declared.Refusal.{Refusal}
use Rattle.ffi.specs.Left.{given, ends, coded, two}
use Rattle.ffi.proofs.give.ends.Goals as goal

pub returns-in-Ok : goal.returns-in-Ok
unfolding given
returns-in-Ok c =
    let g = c.args in
    sym (ap (λ (x : Result Entries Refusal). given ends (bounds_in x) (g.first.now ∷ g.second.now ∷ [])) c.in-Ok.is)

pub returns-in-Err : goal.returns-in-Err
unfolding given
returns-in-Err c =
    let g = c.args in
    ap (λ (n : ℕ). coded n (two g.first.now g.second.now)) c.from.ensures
    ∙ sym (ap (λ (x : Result Entries Refusal). given ends (bounds_in x) (g.first.now ∷ g.second.now ∷ [])) c.in-Err.is)

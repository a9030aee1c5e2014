-- `search_by_probing`: what the search lists, with its first places.
use mathlib.Core.Path.{ap, ◌∙◌}
use Rattle.model.specs.Outcome.{Outcome}
use Rattle.model.specs.TopK.{found_into}
use Rattle.search.specs.Sought.{Asked}
use Rattle.top_k.specs.Asked.{probing_found}
use Rattle.top_k.proofs.Placing.{probing_ready, probing_placed}
use Rattle.top_k.proofs.operations.search_by_probing.Goals as goal

pub put_first_places-requires-clause-n_in_bounds : goal.put_first_places-requires-clause-n_in_bounds
put_first_places-requires-clause-n_in_bounds c =
    let a = c.args in
    let found = c.probing-n in
    probing_ready c.in_ok-s.s a.k a.answers.now a.work.now c.in_ok-s.ensures.room.0 found.result found.new.answers found.new.work found.ensures

pub returns : goal.returns
returns c =
    let a = c.args in
    let found = c.probing-n in
    let spread = c.put_first_places in
    probing_placed c.in_ok-s.s a.k a.answers.now a.work.now c.in_ok-s.ensures.room.0 found.result found.new.answers found.new.work found.ensures spread.new.answers spread.ensures
    ∙ ap (λ (x : Outcome Asked). found_into a.answers.now a.work.now (probing_found a.k x)) c.in_ok-s.ensures.same

-- `search_greedily`: what the search lists, with its first places.
use mathlib.Core.Path.{ap, ◌∙◌}
use Rattle.model.specs.Outcome.{Outcome, answered}
use Rattle.model.specs.TopK.{Ended, Found, found_into}
use Rattle.search.specs.Sought.{Asked}
use Rattle.greedy.proofs.Answers.{found-answer}
use Rattle.top_k.specs.Asked.{greedy_found}
use Rattle.top_k.proofs.Placing.{greedy_ready, greedy_placed}
use Rattle.top_k.proofs.operations.search_greedily.Goals as goal

pub put_first_places-requires-clause-n_in_bounds : goal.put_first_places-requires-clause-n_in_bounds
put_first_places-requires-clause-n_in_bounds c =
    let a = c.args in
    let s = c.in_ok-s.s in
    let found = c.greedy-ended in
    let promise = found.ensures ∙ ap (λ (f : Found Ended). found_into a.answers.now a.work.now (answered f)) (found-answer s a.k a.allowance) in
    greedy_ready s a.k a.answers.now a.work.now c.in_ok-s.ensures.room.0 a.allowance found.result found.new.answers found.new.work promise c.listed.result c.listed.ensures

pub returns : goal.returns
returns c =
    let a = c.args in
    let s = c.in_ok-s.s in
    let found = c.greedy-ended in
    let spread = c.put_first_places in
    let promise = found.ensures ∙ ap (λ (f : Found Ended). found_into a.answers.now a.work.now (answered f)) (found-answer s a.k a.allowance) in
    greedy_placed s a.k a.answers.now a.work.now c.in_ok-s.ensures.room.0 a.allowance found.result found.new.answers found.new.work promise c.listed.result c.listed.ensures
    spread.new.answers spread.ensures
    ∙ ap (λ (x : Outcome Asked). found_into a.answers.now a.work.now (greedy_found a.k a.allowance x)) c.in_ok-s.ensures.same

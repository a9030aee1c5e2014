-- `greedy_entries_opened`: the question that is posed is the one of the result.
use mathlib.Core.Path.{◌∙◌}
use Rattle.model.specs.Queries.{of_entries}
use Rattle.archive_ranges.specs.Ranges.{bounds_in}
use Rattle.archive_ranges.proofs.RangeEnds.{entry_bounds_lem}
use Rattle.top_k.proofs.Asking.{greedy_posed}
use Rattle.top_k.proofs.operations.greedy_entries_opened.Goals as goal

pub returns : goal.returns
returns c =
    let a = c.args in
    let l = a.archive.now in
    let r = c.entry_range-range in
    c.search_greedily.ensures
    ∙ greedy_posed l.bytes.now l.layout l.opened (of_entries a.a a.b) (bounds_in r.result) (r.ensures.0 ∙ entry_bounds_lem l.bytes.now l.layout l.opened a.a a.b) a.k a.answers.now a.work.now a.allowance

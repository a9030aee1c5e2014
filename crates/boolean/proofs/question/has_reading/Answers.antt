-- `has_reading` meets its contract: what is read does not hang on the sets.
use mathlib.Core.List.{[], ◌∷◌}
use Rattle.model.specs.Reading.{reading}
use Rattle.matching.specs.Sets.{set_at}
use Rattle.boolean.proofs.Readable.{read_by, unread_by}
use Rattle.boolean.proofs.question.has_reading.Goals as goal

pub returns-in-Documents : goal.returns-in-Documents
returns-in-Documents c =
    let m = c.matching_set in
    let g = c.args in
    read_by (set_at (0 ∷ []) 0) (reading g.question.now) m.result m.ensures c.in-Documents._set c.in-Documents.is

pub returns-in-NoReading : goal.returns-in-NoReading
returns-in-NoReading c =
    let m = c.matching_set in
    let g = c.args in
    unread_by (set_at (0 ∷ []) 0) (reading g.question.now) m.result m.ensures c.in-NoReading.is

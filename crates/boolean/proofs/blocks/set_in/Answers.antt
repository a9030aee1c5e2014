-- `set_in` meets its contract.
use Rattle.model.specs.Reading.{reading}
use Rattle.matching.specs.Sets.{set_at}
use Rattle.boolean.proofs.Readable.{set_by_lem, set_none}
use Rattle.boolean.proofs.blocks.set_in.Goals as goal

pub returns-in-Documents : goal.returns-in-Documents
returns-in-Documents c =
    let g = c.args in
    let m = c.matching_set in
    set_by_lem (set_at g.masks.now g.block) (reading g.question.now) m.result m.ensures c.in-Documents.set c.in-Documents.is

pub returns-in-NoReading : goal.returns-in-NoReading
returns-in-NoReading c =
    let g = c.args in
    let m = c.matching_set in
    set_none (set_at g.masks.now g.block) (reading g.question.now) m.result m.ensures c.in-NoReading.is

use Rattle.std.proofs.Common.{rules, tests, arith, refl, ◌∙◌}
use Rattle.std.proofs.lemmas.Iterator.{YieldsList-from_range, serves_from_Range}
use Rattle.std.proofs.lemmas.Iterator.Search.{all_from_yields_List}
use Rattle.archive.specs.Opening.{clear_at}
use Rattle.archive.proofs.Parts.{all-range}
use Rattle.archive.proofs.rows.Rows.unused_hold.Goals as goal

pub all-requires-clause-callable : goal.all-requires-clause-callable
all-requires-clause-callable c = serves_from_Range (λ x q k. search (rules, tests)) (λ x low high. search rules)

pub returns : goal.returns
returns c =
    let t = c.args.self.now in
    let tested = clear_at t.bytes.now t.levels in
    all_from_yields_List tested _ _ _ c.all.ensures.ran (YieldsList-from_range 0 t.levels.height t.levels.height refl (omega arith))
    (λ x b q k. search (rules, tests))
    ∙ all-range tested 0 t.levels.height

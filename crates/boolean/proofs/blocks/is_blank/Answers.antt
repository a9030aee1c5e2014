-- `is_blank` meets its contract: each mask is asked.
use Rattle.std.proofs.Common.{refl, sym, ◌∙◌, rules, tests, arith, ◌+◌, ◌*◌, eqb, get_or}
use Rattle.std.proofs.lemmas.Iterator.{YieldsList-from_range, serves_from_Range}
use Rattle.std.proofs.lemmas.Iterator.Search.{all_from_yields_List}
use borrow.Author.Tests.{eqb-true}
use Rattle.bits.proofs.Tally.{all-up_from-at}
use Rattle.archive.proofs.Parts.{all-range}
use Rattle.boolean.proofs.blocks.is_blank.Goals as goal

pub all-requires-clause-callable : goal.all-requires-clause-callable
all-requires-clause-callable c = serves_from_Range (λ x q k. search (rules, tests)) (λ x low high. search rules)

pub returns : goal.returns
returns c =
    let masks = c.args.masks.now in
    let b = c.args.block in
    let n = c.args.terms in
    let r =
    all_from_yields_List (λ i. eqb (get_or masks (64 * i + b) 0) 0) _ _ _ c.all.ensures.ran (YieldsList-from_range 0 n n refl (omega arith)) (λ x b q k. search (rules, tests))
    ∙ all-range (λ i. eqb (get_or masks (64 * i + b) 0) 0) 0 n in
    λ e i l. eqb-true (get_or masks (64 * i + b) 0) 0 (all-up_from-at (λ i. eqb (get_or masks (64 * i + b) 0) 0) 0 n (sym r ∙ e) i (omega arith) (omega arith))

use borrow.Author.Tests.{not-true, not-false}
use native.Mathlib.Omega.{arith}
use mathlib.Core.Path.{sym, ◌∙◌}
use Rattle.moves.proofs.Kept.{first_some}
use Rattle.moves.proofs.Opens.{number_lt, start_is, opens_high, opens_low, opens_room, opens_both}
use Rattle.weighted.specs.Grounds.{ground_of}
use Rattle.weighted.proofs.Nodes.{sound}
use Rattle.weighted.proofs.step.open.Goals as goal

pub overflow_shr-number : goal.overflow_shr-number
overflow_shr-number c =
    let g = c.args in
    let G = ground_of g.asking.now.query in
    let ok = sound g.asking.now.query in
    let kept = c.requires.kept in
    let f = c.requires.first.0 in
    let d = c.requires.first.1 in
    omega (arith, ok.low)

pub halves-two-requires : goal.halves-two-requires
halves-two-requires c =
    let g = c.args in
    let G = ground_of g.asking.now.query in
    let ok = sound g.asking.now.query in
    let kept = c.requires.kept in
    let f = c.requires.first.0 in
    let d = c.requires.first.1 in record {
      leads = c.requires.leads;
      level_lt_height = (d, number_lt G ok g.work.now g.waiting g.r kept f d, start_is G ok g.work.now g.waiting g.r kept f d);
    }

pub replace_top-requires : goal.replace_top-requires
replace_top-requires c =
    let g = c.args in
    let G = ground_of g.asking.now.query in
    let ok = sound g.asking.now.query in
    let kept = c.requires.kept in
    let f = c.requires.first.0 in
    let d = c.requires.first.1 in
    (first_some G g.work.now g.waiting g.r kept f, kept.heap)

pub returns-then-not-zero : goal.returns-then-not-zero
returns-then-not-zero c =
    let g = c.args in
    let G = ground_of g.asking.now.query in
    let ok = sound g.asking.now.query in
    let kept = c.requires.kept in
    let f = c.requires.first.0 in
    let d = c.requires.first.1 in
    let t = c.halves-two in
    let low = t.ensures.halves_are.zero in
    let high = t.ensures.halves_are.one in
    let R = c.replace_top in record {
      moves = opens_high G ok g.work.now g.waiting g.r kept f d t.result.zero.waits t.result.one.waits low.waits high.waits (sym low.lives ∙ not-true t.result.zero.lives c.if-not-zero.true) R.new.work R.ensures;
      leads_2 = t.ensures.leads_2;
    }

pub replace_top-requires-then-not-one : goal.replace_top-requires-then-not-one
replace_top-requires-then-not-one c =
    let g = c.args in
    let G = ground_of g.asking.now.query in
    let ok = sound g.asking.now.query in
    let kept = c.requires.kept in
    let f = c.requires.first.0 in
    let d = c.requires.first.1 in
    (first_some G g.work.now g.waiting g.r kept f, kept.heap)

pub returns-then-not-one : goal.returns-then-not-one
returns-then-not-one c =
    let g = c.args in
    let G = ground_of g.asking.now.query in
    let ok = sound g.asking.now.query in
    let kept = c.requires.kept in
    let f = c.requires.first.0 in
    let d = c.requires.first.1 in
    let t = c.halves-two in
    let low = t.ensures.halves_are.zero in
    let high = t.ensures.halves_are.one in
    let R = c.replace_top-then-not-one in record {
      moves = opens_low G ok g.work.now g.waiting g.r kept f d t.result.zero.waits t.result.one.waits low.waits high.waits (sym low.lives ∙ not-false t.result.zero.lives c.if-not-zero.false) (sym high.lives ∙ not-true t.result.one.lives c.if-not-one.true) R.new.work R.ensures;
      leads_2 = t.ensures.leads_2;
    }

pub open_top-requires : goal.open_top-requires
open_top-requires c =
    let g = c.args in
    let G = ground_of g.asking.now.query in
    let ok = sound g.asking.now.query in
    let kept = c.requires.kept in
    let f = c.requires.first.0 in
    let d = c.requires.first.1 in
    let t = c.halves-two in
    let low = t.ensures.halves_are.zero in
    let high = t.ensures.halves_are.one in (
      first_some G g.work.now g.waiting g.r kept f,
      opens_room G ok g.work.now g.waiting g.r kept f d (sym low.lives ∙ not-false t.result.zero.lives c.if-not-zero.false) (sym high.lives ∙ not-false t.result.one.lives c.if-not-one.false),
      kept.heap,
    )

pub overflow_add-result : goal.overflow_add-result
overflow_add-result c =
    let g = c.args in
    let G = ground_of g.asking.now.query in
    let ok = sound g.asking.now.query in
    let kept = c.requires.kept in
    let f = c.requires.first.0 in
    let d = c.requires.first.1 in
    let few = kept.few in
    let n = ok.few in
    omega arith

pub returns : goal.returns
returns c =
    let g = c.args in
    let G = ground_of g.asking.now.query in
    let ok = sound g.asking.now.query in
    let kept = c.requires.kept in
    let f = c.requires.first.0 in
    let d = c.requires.first.1 in
    let t = c.halves-two in
    let low = t.ensures.halves_are.zero in
    let high = t.ensures.halves_are.one in
    let O = c.open_top in record {
      moves = opens_both G ok g.work.now g.waiting g.r kept f d t.result.zero.waits t.result.one.waits low.waits high.waits (sym low.lives ∙ not-false t.result.zero.lives c.if-not-zero.false) (sym high.lives ∙ not-false t.result.one.lives c.if-not-one.false) O.new.work O.ensures;
      leads_2 = t.ensures.leads_2;
    }

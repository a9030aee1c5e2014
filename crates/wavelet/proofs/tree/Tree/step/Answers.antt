use borrow.Author.Tests.{eq-eqb, ne_eqb}
use native.Mathlib.Omega.{arith}
use mathlib.Core.Path.{ap}
use Rattle.wavelet.specs.declared.Halves.{Halves}
use Rattle.wavelet.specs.Spans.{span_at}
use Rattle.wavelet.proofs.Halved.{on_lower, middle_inside, middle_is, halves_fit, halves_are}
use Rattle.wavelet.proofs.tree.Tree.step.Goals as goal

pub map_end-all-requires-clause-before_value : goal.map_end-all-requires-clause-before_value
map_end-all-requires-clause-before_value c =
    let l = c.requires.j_lt_height in
    on_lower c.args.self.now c.args.j l.0 (span_at c.args.p) l.1 c.ones-before.ensures.0 c.map_end-at.ensures

pub overflow_add-middle : goal.overflow_add-middle
overflow_add-middle c =
    let l = c.requires.j_lt_height in
    omega (arith, middle_inside c.args.self.now c.args.j l.0 (span_at c.args.p) l.1 c.map_end-all.ensures, c.args.self.now.stored.few)

pub overflow_add-result : goal.overflow_add-result
overflow_add-result c =
    let g = c.args in
    let l = c.requires.j_lt_height in
    let at = c.map_end-at.ensures in
    let one = (halves_fit g.self.now g.j l.0 (span_at g.p) l.1 at at (middle_is g.self.now g.j l.0 (span_at g.p) l.1 c.map_end-all.ensures)).1 in
    omega (arith, one.to, one.inside)

pub overflow_add-result-else-bit-eq1 : goal.overflow_add-result-else-bit-eq1
overflow_add-result-else-bit-eq1 c =
    let g = c.args in
    let l = c.requires.j_lt_height in
    let at = c.map_end-at.ensures in
    let zero = (halves_fit g.self.now g.j l.0 (span_at g.p) l.1 at at (middle_is g.self.now g.j l.0 (span_at g.p) l.1 c.map_end-all.ensures)).0 in
    omega (arith, zero.to, zero.inside)

pub returns-then-bit-eq1 : goal.returns-then-bit-eq1
returns-then-bit-eq1 c =
    let g = c.args in
    let l = c.requires.j_lt_height in
    let at = c.map_end-at.ensures in
    rw (eq-eqb g.bit 1 c.if-bit-eq1.true)
    (ap (λ (two : Halves). two.one) (halves_are g.self.now g.j l.0 (span_at g.p) l.1 at at (middle_is g.self.now g.j l.0 (span_at g.p) l.1 c.map_end-all.ensures)))

pub returns-else-bit-eq1 : goal.returns-else-bit-eq1
returns-else-bit-eq1 c =
    let g = c.args in
    let l = c.requires.j_lt_height in
    let at = c.map_end-at.ensures in
    rw (ne_eqb g.bit 1 c.if-bit-eq1.false)
    (ap (λ (two : Halves). two.zero) (halves_are g.self.now g.j l.0 (span_at g.p) l.1 at at (middle_is g.self.now g.j l.0 (span_at g.p) l.1 c.map_end-all.ensures)))

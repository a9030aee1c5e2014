-- `put_noted`: the invariant, that the pairs from number i on have their places.
use Prim.Native.Nat.{ℕ, ◌-◌, ◌*◌}
use native.Mathlib.Omega.{arith}
use mathlib.Core.Path.{◌≡◌, refl, subst}
use lib.ListN.{length, get_or}
use lib.Dec.{ltb}
use borrow.Author.Tests.{ltb-true}
use Rattle.model.specs.Queries.{pair_at}
use Rattle.answers.specs.Spread.{Spread}
use Rattle.answers.proofs.Spreads.{spread_begin, spread_end, next_pair, next_step}
use Rattle.listing.proofs.places.put_noted.Goals as goal

pub loop-i-init : goal.loop-i-init
loop-i-init c =
    let g = c.args in
    (omega arith, spread_begin (λ d. get_or g.first.now d 0) g.n g.answers.now)

pub bounds-answers-at : goal.bounds-answers-at
bounds-answers-at c =
    let l = c.loop-i in
    let s = c in
    omega (arith, l.invariant.0, l.invariant.1.size, s.requires.0)

pub bounds-answers-at-in-loop-i : goal.bounds-answers-at-in-loop-i
bounds-answers-at-in-loop-i c =
    let l = c.loop-i in
    let s = c in
    omega (arith, l.invariant.0, l.invariant.1.size, s.requires.0)

pub overflow_cast-place : goal.overflow_cast-place
overflow_cast-place c =
    let l = c.loop-i in
    omega (arith, c.type_inv.answers (2 * (l.i - 1)))

pub offset_bounds-first-document : goal.offset_bounds-first-document
offset_bounds-first-document c =
    let l = c.loop-i in
    omega (arith, c.type_inv.answers (2 * (l.i - 1)))

-- the next document has a place in the table
pub bounds-first-document : goal.bounds-first-document
bounds-first-document c =
    let l = c.loop-i in
    let s = c in
    let g = s.args in
    ltb-true (pair_at l.answers (l.i - 1)).document (length g.first.now)
    (next_pair (λ d. get_or g.first.now d 0) g.n g.answers.now s.requires.0 l.i (omega arith) l.invariant.0 l.answers l.invariant.1 (λ p. ltb p.document (length g.first.now)) s.requires.2)

pub overflow_cast-place-in-loop-i : goal.overflow_cast-place-in-loop-i
overflow_cast-place-in-loop-i c =
    let l = c.loop-i in
    omega (arith, c.type_inv.first (pair_at l.answers (l.i - 1)).document)

pub put_placed-requires : goal.put_placed-requires
put_placed-requires c =
    let l = c.loop-i in
    let s = c in
    (omega (arith, l.invariant.0, l.invariant.1.size, s.requires.0), omega (arith, c.type_inv.first (pair_at l.answers (l.i - 1)).document))

pub loop-i-preserved : goal.loop-i-preserved
loop-i-preserved c =
    let p = c in
    let l = p.loop-i in
    let s = p in
    let g = s.args in (
      omega arith,
      next_step (λ d. get_or g.first.now d 0) g.n g.answers.now s.requires.0 l.i (omega arith) l.invariant.0 l.answers l.invariant.1 (get_or g.first.now (pair_at l.answers (l.i - 1)).document 0) refl p.put_placed.ensures,
    )

pub returns : goal.returns
returns c =
    let l = c.loop-i in
    let g = c.args in
    let e : l.i ≡ 0 = omega arith in
    spread_end (λ d. get_or g.first.now d 0) g.n g.answers.now (subst (λ (j : ℕ). Spread (λ d. get_or g.first.now d 0) g.n j g.answers.now l.answers) e l.invariant.1)

-- `put_first_places`: the invariant, that the pairs from number i on have their places.
use Prim.Native.Nat.{ℕ, ◌-◌, ◌^◌, ◌<◌}
use native.Mathlib.Omega.{arith}
use mathlib.Core.Path.{◌≡◌, sym, subst}
use mathlib.Core.List.{List}
use lib.Dec.{ltb, eqb}
use borrow.Author.Tests.{ltb-true, eqb-true}
use Rattle.bits.specs.Sequences.{occurrences}
use Rattle.model.specs.Lists.{part}
use Rattle.model.specs.Queries.{Pair, pair_at, first_place}
use Rattle.model.proofs.Lists.{within_part}
use Rattle.answers.specs.Spread.{Spread}
use Rattle.answers.proofs.Occurrences.{occurs_lt}
use Rattle.answers.proofs.Spreads.{spread_begin, spread_end, next_pair, next_step}
use Rattle.wavelet.specs.Levels.{entries_in}
use Rattle.wavelet.proofs.Stored.{within_entries_in}
use Rattle.first_places.proofs.spread.put_first_places.Goals as goal

pub loop-i-init : goal.loop-i-init
loop-i-init c =
    let a = c.args in
    spread_begin (first_place a.a (part a.a a.b (entries_in a.tree.now.bytes.now a.tree.now.levels))) a.n a.answers.now

pub first_in-place-requires : goal.first_in-place-requires
first_in-place-requires c =
    let l = c.loop-i in
    let a = c.args in
    let t = a.tree.now in
    let counted = c.requires.n_in_bounds.2 in
    let xs : List ℕ = part a.a a.b (entries_in t.bytes.now t.levels) in
    let p : Pair = pair_at l.answers (l.i - 1) in
    let next = next_pair (first_place a.a xs) a.n a.answers.now c.requires.n_in_bounds.0 l.i (omega arith) l.auto.i l.answers l.invariant in
    let some = ltb-true 0 (occurrences p.document xs) (next (λ p. ltb 0 (occurrences p.document xs)) counted.0) in
    let count = eqb-true p.count (occurrences p.document xs) (next (λ p. eqb p.count (occurrences p.document xs)) counted.1) in
    let low = occurs_lt (2 ^ t.levels.height) p.document xs
    (within_part (2 ^ t.levels.height) a.a a.b (entries_in t.bytes.now t.levels) (within_entries_in t.bytes.now t.levels)) some in
    record { d_bound = (low, c.requires.a_le_b.0, c.requires.a_le_b.1, subst (λ (x : ℕ). 0 < x) (sym count) some, count) }

pub loop-i-preserved : goal.loop-i-preserved
loop-i-preserved c =
    let l = c.loop-i in
    let a = c.args in
    let xs = part a.a a.b (entries_in a.tree.now.bytes.now a.tree.now.levels) in
    next_step (first_place a.a xs) a.n a.answers.now c.requires.n_in_bounds.0 l.i (omega arith) l.auto.i l.answers l.invariant c.first_in-place.result c.first_in-place.ensures.0 c.put_placed.ensures

pub returns : goal.returns
returns c =
    let l = c.loop-i in
    let a = c.args in
    let e : l.i ≡ 0 = omega arith in
    let xs = part a.a a.b (entries_in a.tree.now.bytes.now a.tree.now.levels) in
    spread_end (first_place a.a xs) a.n a.answers.now (subst (λ (j : ℕ). Spread (first_place a.a xs) a.n j a.answers.now l.answers) e l.invariant)

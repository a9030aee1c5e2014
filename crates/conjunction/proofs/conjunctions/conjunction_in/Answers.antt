use Prim.Native.Nat.{ℕ, ◌≤◌}
use native.Mathlib.Numerals.{add-one}
use native.Mathlib.Nat.{le_trans}
use mathlib.Core.Path.{sym, ◌∙◌, subst}
use Rattle.model.specs.Opening.{contents}
use Rattle.archive.proofs.Opened.{fitting, documents-are, documents_fit}
use Rattle.conjunction.proofs.Walks.{walking_size, walking_few, walking_next, walking_end, turn, walk_less, at_fits, found_fits, pair_room}
use Rattle.conjunction.proofs.conjunctions.conjunction_in.Goals as goal

pub next_common-requires-clause-path_len : goal.next_common-requires-clause-path_len
next_common-requires-clause-path_len c =
    let a = c.args.query.now.archive in
    let k = c.loop-next in
    let low : k.at ≤ a.layout.documents = subst (λ (n : ℕ). k.at ≤ n) (documents-are a.bytes.now a.layout a.opened) k.invariant.0.low in
    (k.invariant.2, le_trans low (documents_fit a.bytes.now a.layout a.opened))

pub put_pair-requires : goal.put_pair-requires
put_pair-requires c =
    let q = c.args.query.now in
    let k = c.loop-next in
    let next = c.in-Some.next in
    let said = sym c.in-Some.ensures.0 in
    let turned = turn q k.at next.document next.count said in
    let a = q.archive in
    let room = walking_size (contents a.bytes.now) a.layout.levels.height q.terms.now c.args.answers.now k.invariant.0 in
    let listed = walking_few (contents a.bytes.now) a.layout.levels.height q.terms.now c.args.answers.now k.invariant.0 in
    pair_room turned listed (fitting a.bytes.now a.layout a.opened).documents c.args.answers.now k.answers c.requires.0 room

pub overflow_add-found : goal.overflow_add-found
overflow_add-found c =
    let q = c.args.query.now in
    let k = c.loop-next in
    let next = c.in-Some.next in
    let said = sym c.in-Some.ensures.0 in
    let turned = turn q k.at next.document next.count said in
    let a = q.archive in
    let listed = walking_few (contents a.bytes.now) a.layout.levels.height q.terms.now c.args.answers.now k.invariant.0 in
    found_fits turned listed (fitting a.bytes.now a.layout a.opened).documents

pub overflow_add-at : goal.overflow_add-at
overflow_add-at c =
    let q = c.args.query.now in
    let k = c.loop-next in
    let next = c.in-Some.next in
    let said = sym c.in-Some.ensures.0 in
    let turned = turn q k.at next.document next.count said in
    let a = q.archive in
    at_fits turned (fitting a.bytes.now a.layout a.opened).documents

pub loop-next-smaller : goal.loop-next-smaller
loop-next-smaller c =
    let q = c.args.query.now in
    let k = c.loop-next in
    let next = c.in-Some.next in
    let said = sym c.in-Some.ensures.0 in
    let turned = turn q k.at next.document next.count said in
    walk_less turned

pub loop-next-preserved : goal.loop-next-preserved
loop-next-preserved c =
    let q = c.args.query.now in
    let k = c.loop-next in
    let next = c.in-Some.next in
    let said = sym c.in-Some.ensures.0 in
    let turned = turn q k.at next.document next.count said in
    let a = q.archive in
    let walked = walking_next (contents a.bytes.now) a.layout.levels.height q.terms.now c.args.answers.now k.invariant.0 next.document next.count said
    (rw (documents-are a.bytes.now a.layout a.opened) turned.lt) c.put_pair.ensures in
    (walked, rw (add-one next.document) c.in-Some.ensures.1, c.next_common.auto.path ∙ k.invariant.2)

pub returns-in_default : goal.returns-in_default
returns-in_default c =
    let q = c.args.query.now in
    let a = q.archive in
    walking_end (contents a.bytes.now) a.layout.levels.height q.terms.now c.args.answers.now c.loop-next.invariant.0 (sym c.in_default.ensures.0)
    (rw (documents-are a.bytes.now a.layout a.opened) (documents_fit a.bytes.now a.layout a.opened)) (rw (documents-are a.bytes.now a.layout a.opened) c.requires.0)

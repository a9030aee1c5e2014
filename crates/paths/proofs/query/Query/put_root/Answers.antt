use Prim.Native.Nat.{ℕ, ◌<◌}
use native.Mathlib.Omega.{arith}
use native.Mathlib.Numerals.{add-one}
use mathlib.Core.Path.{sym, ap, ◌∙◌}
use lib.ListN.{get_or}
use Rattle.model.specs.Opening.{contents}
use Rattle.model.specs.Queries.{term_start}
use Rattle.archive.proofs.Opened.{fitting}
use Rattle.paths.specs.Query.{size, spans}
use Rattle.paths.proofs.Roots.{rooting_next}
use Rattle.paths.proofs.TermSpans.{term_known, root-span}
use Rattle.paths.proofs.query.Query.put_root.Goals as goal

pub put_pair-requires : goal.put_pair-requires
put_pair-requires c =
    let a = c.args.self.now.archive in
    let few = (fitting a.bytes.now a.layout a.opened).entries in
    (omega arith, omega arith, omega arith)

pub term_start-a-requires : goal.term_start-a-requires
term_start-a-requires c =
    let m = term_known c.args.self.now c.loop-k.k (omega arith) in
    omega arith

pub term_start-b-requires : goal.term_start-b-requires
term_start-b-requires c =
    let m = term_known c.args.self.now c.loop-k.k (omega arith) in
    omega arith

pub put_pair-requires-in-loop-k : goal.put_pair-requires-in-loop-k
put_pair-requires-in-loop-k c =
    let q = c.args.self.now in
    let a = q.archive in
    let k = c.loop-k in
    let room = k.invariant.room in
    let few = q.chosen.few in
    let n = (fitting a.bytes.now a.layout a.opened).entries in
    (omega arith, omega (arith, c.term_start-a.ensures.1), omega (arith, c.term_start-b.ensures.1))

pub loop-k-preserved : goal.loop-k-preserved
loop-k-preserved c =
    let q = c.args.self.now in
    let l = q.archive.layout in
    let k = c.loop-k in
    let a = c.term_start-a in
    let b = c.term_start-b in
    let t : ℕ = get_or q.terms.now k.k 0 in
    let more : k.k < size q = omega arith in
    rooting_next (spans q) (size q) l.levels.entries q.chosen.few k.invariant c.put_pair-in-loop-k.new.answers a.result b.result more
    (root-span q k.k more ∙ (λ i. record { start = 0; lo = sym a.ensures.0 i; hi = sym (b.ensures.0 ∙ ap (term_start (contents q.archive.bytes.now)) (add-one t)) i; end = l.levels.entries }))
    c.put_pair-in-loop-k.ensures

-- `begin`: the queue is empty, or has the root alone.
use Prim.Native.Nat.{◌-◌, ◌^◌}
use native.Mathlib.Omega.{arith}
use native.Mathlib.Nat.{zero-mul}
use mathlib.Core.Path.{refl, sym, ◌∙◌}
use borrow.Author.Tests.{not-true, not-false}
use Rattle.frontier.proofs.Callers.{heap-zero}
use Rattle.weighted.specs.Grounds.{ground_of}
use Rattle.weighted.proofs.Roots.{root_lives_lem, root_dead}
use Rattle.weighted.proofs.run.begin.Goals as goal

pub half_of-root-requires : goal.half_of-root-requires
half_of-root-requires c =
    let at = c.requires.leads.0 in record {
      path_len = (at.room, omega arith, omega arith, omega arith, omega (arith, zero-mul (2 ^ (c.args.asking.now.query.archive.layout.levels.height - 0))), at.held);
    }

pub returns-then-not-root : goal.returns-then-not-root
returns-then-not-root c =
    let g = c.args in
    let h = c.half_of-root in
    record {
      heap = heap-zero g.work.now;
      order = root_dead (ground_of g.asking.now.query) (sym h.ensures.lives ∙ not-true h.result.lives c.if-not-root.true);
      rest = refl;
      size = refl;
    }

pub push-requires : goal.push-requires
push-requires c = let s = c in (c.requires.leads.1, heap-zero c.args.work.now)

pub returns : goal.returns
returns c =
    let g = c.args in
    let h = c.half_of-root in
    let P = c.push.ensures in
    record {
      heap = P.heap;
      order = P.order
          ∙ root_lives_lem (ground_of g.asking.now.query) h.result.waits h.ensures.waits
          (sym h.ensures.lives ∙ not-false h.result.lives c.if-not-root.false);
      rest = P.rest;
      size = P.size;
    }

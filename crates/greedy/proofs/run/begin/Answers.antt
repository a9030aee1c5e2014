-- `begin`: the queue is empty, or has the root alone.
use native.Mathlib.Omega.{arith}
use mathlib.Core.Path.{refl, ap, ◌∙◌}
use mathlib.Core.List.{[], ◌∷◌}
use Rattle.frontier.specs.declared.Record.{Record}
use Rattle.frontier.proofs.Callers.{heap-zero}
use Rattle.greedy.proofs.Begins.{root-empty, root_waits_lem}
use Rattle.greedy.proofs.run.begin.Goals as goal

pub returns-then-a-b : goal.returns-then-a-b
returns-then-a-b c =
    let s = c in record {
      heap = heap-zero s.args.work.now;
      order = root-empty s.args.s.now (omega arith);
      rest = refl;
      size = refl;
    }

pub record-requires : goal.record-requires
record-requires c =
    let s = c in
    let few = s.args.s.now.searchable.stored.few in
    (omega arith, omega arith, record { from = omega arith; range = s.args.s.now.searchable.ordered; to = s.args.s.now.searchable.inside; inside = omega arith })

pub push-requires : goal.push-requires
push-requires c =
    let s = c in
    let some = s.args.s.now.searchable.some in
    let room = s.requires.documents_in_bounds in
    (omega arith, heap-zero s.args.work.now)

pub returns : goal.returns
returns c =
    let s = c in
    let o = s.args.s.now.searchable.ordered in
    let P = c.push.ensures in
    record {
      heap = P.heap;
      order = P.order ∙ ap (λ (x : Record). x ∷ []) c.record.ensures
          ∙ root_waits_lem s.args.s.now (omega arith);
      rest = P.rest;
      size = P.size;
    }

-- `open`: the halves are those of the first waiting node; which of them wait decides how they go into the heap.
use native.Mathlib.Omega.{arith}
use Rattle.moves.proofs.Kept.{first_some}
use Rattle.greedy.specs.Grounds.{ground_of}
use Rattle.greedy.proofs.Opens.{second_fits, span_fits, opens_high, opens_low, opens_room, opens_both}
use Rattle.greedy.proofs.step.open.Goals as goal

pub halves-requires : goal.halves-requires
halves-requires c =
    let s = c in
    let a = s.args in record {
      second_bound = (
        s.requires.second_bound,
        second_fits a.s.now a.work.now a.waiting a.r s.requires.kept s.requires.first s.requires.second_bound,
        span_fits a.s.now a.work.now a.waiting a.r s.requires.kept s.requires.first s.requires.second_bound,
      );
    }

pub replace_top-requires : goal.replace_top-requires
replace_top-requires c =
    let s = c in
    let a = s.args in
    (first_some (ground_of a.s.now) a.work.now a.waiting a.r s.requires.kept s.requires.first, s.requires.kept.heap)

pub returns-then-zero-eq0 : goal.returns-then-zero-eq0
returns-then-zero-eq0 c =
    let two = c.halves in
    let s = c in
    let a = s.args in
    opens_high a.s.now a.work.now a.waiting a.r s.requires.kept s.requires.first s.requires.second_bound
    two.result.0 two.result.1 two.ensures.zero_value two.ensures.one_value (omega arith) _ c.replace_top.ensures

pub replace_top-requires-then-one-eq0 : goal.replace_top-requires-then-one-eq0
replace_top-requires-then-one-eq0 c =
    let s = c in
    let a = s.args in
    (first_some (ground_of a.s.now) a.work.now a.waiting a.r s.requires.kept s.requires.first, s.requires.kept.heap)

pub returns-then-one-eq0 : goal.returns-then-one-eq0
returns-then-one-eq0 c =
    let two = c.halves in
    let s = c in
    let a = s.args in
    opens_low a.s.now a.work.now a.waiting a.r s.requires.kept s.requires.first s.requires.second_bound
    two.result.0 two.result.1 two.ensures.zero_value two.ensures.one_value (omega arith) (omega arith) _ c.replace_top-then-one-eq0.ensures

pub open_top-requires : goal.open_top-requires
open_top-requires c =
    let two = c.halves in
    let s = c in
    let a = s.args in (
      first_some (ground_of a.s.now) a.work.now a.waiting a.r s.requires.kept s.requires.first,
      opens_room a.s.now a.work.now a.waiting a.r s.requires.kept s.requires.first s.requires.second_bound
          two.result.0 two.result.1 two.ensures.zero_value two.ensures.one_value (omega arith) (omega arith),
      s.requires.kept.heap,
    )

pub overflow_add-result : goal.overflow_add-result
overflow_add-result c =
    let s = c in
    let few = s.requires.kept.few in
    let n = s.args.s.now.searchable.few in
    omega arith

pub returns : goal.returns
returns c =
    let two = c.halves in
    let s = c in
    let a = s.args in
    opens_both a.s.now a.work.now a.waiting a.r s.requires.kept s.requires.first s.requires.second_bound
    two.result.0 two.result.1 two.ensures.zero_value two.ensures.one_value (omega arith) (omega arith) _ c.open_top.ensures

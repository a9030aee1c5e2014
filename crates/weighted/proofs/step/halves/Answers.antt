use Prim.Native.Nat.{ℕ, ◌+◌, ◌-◌, ◌*◌, ◌/◌}
use native.Mathlib.Omega.{arith}
use mathlib.Core.Path.{◌≡◌, ap, ◌∙◌, subst}
use Rattle.model.specs.TopK.{node}
use Rattle.archive.proofs.Opened.{stored}
use Rattle.paths.specs.Query.{size, passes}
use Rattle.paths.specs.Paths.{Whole}
use Rattle.paths.proofs.Frames.{held_at, held-beside}
use Rattle.weighted.specs.Steps.{HalfIs}
use Rattle.weighted.proofs.Starts.{starts}
use Rattle.weighted.proofs.step.halves.Goals as goal

pub overflow_mul-to : goal.overflow_mul-to
overflow_mul-to c =
    let g = c.args in
    let low = (stored g.asking.now.query.archive.bytes.now g.asking.now.query.archive.layout g.asking.now.query.archive.opened).low in
    let st = starts g.asking.now.query.archive.layout.levels.height g.level g.number g.start low c.requires.level_lt_height.0 c.requires.level_lt_height.1 c.requires.level_lt_height.2 in
    omega (arith, st.few)

pub go_to-requires : goal.go_to-requires
go_to-requires c =
    let g = c.args in
    let low = (stored g.asking.now.query.archive.bytes.now g.asking.now.query.archive.layout g.asking.now.query.archive.opened).low in
    let st = starts g.asking.now.query.archive.layout.levels.height g.level g.number g.start low c.requires.level_lt_height.0 c.requires.level_lt_height.1 c.requires.level_lt_height.2 in
    let L = c.requires.leads in
    let less = c.requires.level_lt_height.0 in record {
      path_len = (L.room, L.inside, record { low = omega arith; few = st.low_fits }, omega arith);
      held_whole = L.held;
    }

pub overflow_mul-number : goal.overflow_mul-number
overflow_mul-number c =
    let g = c.args in
    let low = (stored g.asking.now.query.archive.bytes.now g.asking.now.query.archive.layout g.asking.now.query.archive.opened).low in
    let st = starts g.asking.now.query.archive.layout.levels.height g.level g.number g.start low c.requires.level_lt_height.0 c.requires.level_lt_height.1 c.requires.level_lt_height.2 in
    omega (arith, st.few)

pub half_of-zero-requires : goal.half_of-zero-requires
half_of-zero-requires c =
    let g = c.args in
    let low = (stored g.asking.now.query.archive.bytes.now g.asking.now.query.archive.layout g.asking.now.query.archive.opened).low in
    let st = starts g.asking.now.query.archive.layout.levels.height g.level g.number g.start low c.requires.level_lt_height.0 c.requires.level_lt_height.1 c.requires.level_lt_height.2 in
    let w = c.go_to in
    let C = Whole (passes g.asking.now.query) (size g.asking.now.query) in
    let room = w.auto.path ∙ c.requires.leads.room in
    let less = c.requires.level_lt_height.0 in record {
      path_len = (room, omega arith, omega arith, omega (arith, st.inside), st.low-start, held_at C w.new.path (g.level + 1) (2 * g.number) st.low_fits w.ensures);
    }

pub overflow_shl-next : goal.overflow_shl-next
overflow_shl-next c =
    let g = c.args in
    let low = (stored g.asking.now.query.archive.bytes.now g.asking.now.query.archive.layout g.asking.now.query.archive.opened).low in
    let st = starts g.asking.now.query.archive.layout.levels.height g.level g.number g.start low c.requires.level_lt_height.0 c.requires.level_lt_height.1 c.requires.level_lt_height.2 in
    omega (arith, st.few)

pub overflow_add-next : goal.overflow_add-next
overflow_add-next c =
    let g = c.args in
    let low = (stored g.asking.now.query.archive.bytes.now g.asking.now.query.archive.layout g.asking.now.query.archive.opened).low in
    let st = starts g.asking.now.query.archive.layout.levels.height g.level g.number g.start low c.requires.level_lt_height.0 c.requires.level_lt_height.1 c.requires.level_lt_height.2 in
    omega (arith, st.shift, st.inside)

pub overflow_mul-number-2 : goal.overflow_mul-number-2
overflow_mul-number-2 c =
    let g = c.args in
    let low = (stored g.asking.now.query.archive.bytes.now g.asking.now.query.archive.layout g.asking.now.query.archive.opened).low in
    let st = starts g.asking.now.query.archive.layout.levels.height g.level g.number g.start low c.requires.level_lt_height.0 c.requires.level_lt_height.1 c.requires.level_lt_height.2 in
    omega (arith, st.few)

pub overflow_add-number : goal.overflow_add-number
overflow_add-number c =
    let g = c.args in
    let low = (stored g.asking.now.query.archive.bytes.now g.asking.now.query.archive.layout g.asking.now.query.archive.opened).low in
    let st = starts g.asking.now.query.archive.layout.levels.height g.level g.number g.start low c.requires.level_lt_height.0 c.requires.level_lt_height.1 c.requires.level_lt_height.2 in
    omega (arith, st.few)

pub half_of-one-requires : goal.half_of-one-requires
half_of-one-requires c =
    let g = c.args in
    let low = (stored g.asking.now.query.archive.bytes.now g.asking.now.query.archive.layout g.asking.now.query.archive.opened).low in
    let st = starts g.asking.now.query.archive.layout.levels.height g.level g.number g.start low c.requires.level_lt_height.0 c.requires.level_lt_height.1 c.requires.level_lt_height.2 in
    let w = c.go_to in
    let C = Whole (passes g.asking.now.query) (size g.asking.now.query) in
    let room = w.auto.path ∙ c.requires.leads.room in
    let less = c.requires.level_lt_height.0 in
    let beside : 2 * g.number / 2 ≡ (2 * g.number + 1) / 2 = omega arith in record {
      path_len = (
        room,
        omega arith,
        omega arith,
        omega (arith, st.shift, st.inside),
        ap (λ (x : ℕ). g.start + x) st.shift ∙ st.high-start,
        held_at C w.new.path (g.level + 1) (2 * g.number + 1) st.high_fits
            (held-beside C w.new.path (g.level + 1) (2 * g.number) (2 * g.number + 1) beside w.ensures),
      );
    }

pub returns : goal.returns
returns c =
    let g = c.args in
    let low = (stored g.asking.now.query.archive.bytes.now g.asking.now.query.archive.layout g.asking.now.query.archive.opened).low in
    let st = starts g.asking.now.query.archive.layout.levels.height g.level g.number g.start low c.requires.level_lt_height.0 c.requires.level_lt_height.1 c.requires.level_lt_height.2 in
    let w = c.go_to in
    let C = Whole (passes g.asking.now.query) (size g.asking.now.query) in
    let room = w.auto.path ∙ c.requires.leads.room in
    let less = c.requires.level_lt_height.0 in
    let e : g.asking.now.query.archive.layout.levels.height - (g.level + 1) ≡ g.asking.now.query.archive.layout.levels.height - 1 - g.level = omega arith in record {
      halves_are = record {
        zero = subst (λ (k : ℕ). HalfIs g.asking.now.query (node k (2 * g.number)) c.half_of-zero.result) e c.half_of-zero.ensures;
        one = subst (λ (k : ℕ). HalfIs g.asking.now.query (node k (2 * g.number + 1)) c.half_of-one.result) e c.half_of-one.ensures;
      };
      leads_2 = record { room = room; inside = record { low = omega arith; few = st.low_fits }; held = w.ensures };
    }

pub overflow_add-deeper : goal.overflow_add-deeper
overflow_add-deeper c =
    let a = c.args.asking.now.query.archive in
    omega (arith, c.requires.level_lt_height.0, (stored a.bytes.now a.layout a.opened).low)

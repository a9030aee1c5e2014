use Prim.Native.Nat.{ℕ, ◌+◌, ◌*◌, ◌<◌}
use native.Mathlib.Omega.{arith}
use mathlib.Core.Path.{sym, refl, subst}
use mathlib.Core.List.{List}
use Rattle.wavelet.specs.declared.Halves.{Halves}
use Rattle.paths.specs.Paths.{frame_of, passed_in, put_halves, bounds_of, Whole, HeldWhole}
use Rattle.paths.specs.Query.{size, passes, bits}
use Rattle.paths.proofs.Frames.{whole-kept, held_kept, held_at}
use Rattle.paths.proofs.Openings.{Filling, filling_front, filling_start, filling_next_front, filling_next}
use Rattle.paths.proofs.NodeSteps.{known_self}
use Rattle.paths.proofs.PassSteps.{pass_bounds, pass_low, pass_high, pass_ordered, pass_halves}
use Rattle.paths.proofs.query.Query.open_whole.Goals as goal

pub put_bounds-node-requires : goal.put_bounds-node-requires
put_bounds-node-requires c =
    let g = c.args in
    let q = g.self.now in
    let whole = held_at (Whole (passes q) (size q)) g.path.now g.level g.number c.requires.path_len.3 c.requires.held_whole in record {
      path_len = c.requires.path_len;
      bounds = pass_bounds q g.level g.number g.path.now (frame_of g.level g.number) refl whole;
    }

pub loop-k-init : goal.loop-k-init
loop-k-init c =
    let g = c.args in
    let q = g.self.now in
    let r = c.requires in
    let b = c.put_bounds-node in
    let whole = held_at (Whole (passes q) (size q)) g.path.now g.level g.number r.path_len.3 r.held_whole in
    let few = q.chosen.few in
    let deep = r.path_len.2 in
    let two : Halves = bounds_of b.result in
    let put : List ℕ = put_halves two (18 * (g.level + 1)) g.path.now in
    subst (λ (x : List ℕ). Filling (passes q) (size q) g.level g.number x 0 × HeldWhole (passes q) (size q) x g.level g.number) (sym b.ensures.put) (
      filling_start (passes q) (size q) g.level g.number few deep g.path.now two r.path_len.0 whole
          (pass_low q g.level g.number b.result b.ensures.known r.path_len.1 r.path_len.3)
          (pass_high q g.level g.number b.result b.ensures.known r.path_len.1 r.path_len.3),
      held_kept (Whole (passes q) (size q)) g.path.now put (whole-kept (passes q) (size q) few g.path.now put) g.level g.number
          (filling_front (passes q) (size q) g.level g.number few deep g.path.now two r.path_len.0) r.held_whole,
    )

pub pass_term-requires : goal.pass_term-requires
pass_term-requires c =
    let g = c.args in
    let q = g.self.now in
    let k = c.loop-k in
    let b = c.put_bounds-node in
    let f = c.frame_of-frame.ensures in
    let few = q.chosen.few in
    let deep = c.requires.path_len.2 in
    let more : k.k < size q = omega arith in (
      c.requires.path_len.1,
      known_self q g.level g.number b.result b.ensures.known,
      omega arith,
      omega arith,
      k.invariant.0.room,
      pass_ordered q g.level g.number k.path c.frame_of-frame.result f k.invariant.0.whole b.result b.ensures.known k.k more,
    )

pub loop-k-preserved : goal.loop-k-preserved
loop-k-preserved c =
    let g = c.args in
    let q = g.self.now in
    let k = c.loop-k in
    let b = c.put_bounds-node in
    let f = c.frame_of-frame in
    let more : k.k < size q = omega arith in
    let two : Halves = passed_in (bits q g.level) b.result k.path (f.result + 1 + k.k) in
    let e = pass_halves q g.level g.number k.path f.result f.ensures k.invariant.0.whole b.result b.ensures.known k.k more c.requires.path_len.1 c.requires.path_len.3 in
    let put : List ℕ = put_halves two (18 * (g.level + 1) + 1 + k.k) k.path in
    let few = q.chosen.few in
    let deep = c.requires.path_len.2 in
    subst (λ (x : List ℕ). Filling (passes q) (size q) g.level g.number x (k.k + 1) × HeldWhole (passes q) (size q) x g.level g.number) (sym c.pass_term.ensures) (
      filling_next (passes q) (size q) g.level g.number few deep k.invariant.0 more two e,
      held_kept (Whole (passes q) (size q)) k.path put (whole-kept (passes q) (size q) few k.path put) g.level g.number
          (filling_next_front (passes q) (size q) g.level g.number few deep k.invariant.0 more two e) k.invariant.1,
    )

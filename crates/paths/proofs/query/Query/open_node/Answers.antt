use Prim.Native.Nat.{ℕ, ◌+◌, ◌*◌, ◌<◌, min}
use native.Mathlib.Omega.{arith}
use mathlib.Core.Path.{sym, refl, ap, subst}
use mathlib.Core.Logic.{inr}
use mathlib.Core.List.{List}
use Rattle.wavelet.specs.declared.Halves.{Halves}
use Rattle.paths.specs.declared.path.Sides.{Sides}
use Rattle.paths.specs.Paths.{frame_of, halves_in, put_halves, bounds_of}
use Rattle.paths.specs.Query.{size, spans, bits}
use Rattle.paths.proofs.Openings.{Opening, opening-start, opening_next, opening-end}
use Rattle.paths.proofs.NodeSteps.{whole_bounds, known_self, low_bounds, high_bounds, span-ordered_is, span-halves-are}
use Rattle.paths.proofs.query.Query.open_node.Goals as goal

pub put_bounds-node-requires : goal.put_bounds-node-requires
put_bounds-node-requires c =
    let g = c.args in record {
      path_len = c.requires.path_len;
      bounds = whole_bounds g.self.now g.level g.number g.path.now (frame_of g.level g.number) refl c.requires.held.1;
    }

pub loop-k-init : goal.loop-k-init
loop-k-init c =
    let g = c.args in
    let q = g.self.now in
    let r = c.requires in
    let b = c.put_bounds-node in
    subst (λ (x : List ℕ). Opening (spans q) (size q) g.level g.number x 1 1 0) (sym b.ensures.put)
    (opening-start (spans q) (size q) g.level g.number q.chosen.few r.path_len.2 g.path.now (bounds_of b.result) r.path_len.0 r.held.0 r.held.1
    (low_bounds q g.level g.number b.result b.ensures.known r.path_len.1 r.path_len.3) (high_bounds q g.level g.number b.result b.ensures.known r.path_len.1 r.path_len.3))

pub returns-then-one-eq0 : goal.returns-then-one-eq0
returns-then-one-eq0 c =
    let g = c.args in
    let q = g.self.now in
    opening-end (spans q) (size q) g.level g.number q.chosen.few c.requires.path_len.2 c.loop-k.invariant (inr (omega arith, omega arith))

pub part_term-sides-requires : goal.part_term-sides-requires
part_term-sides-requires c =
    let g = c.args in
    let q = g.self.now in
    let k = c.loop-k in
    let b = c.put_bounds-node in
    let f = c.frame_of-frame.ensures in
    let few = q.chosen.few in
    let deep = c.requires.path_len.2 in
    let more : k.k < size q = omega arith in (
      c.requires.path_len.1,
      known_self q g.level g.number b.result b.ensures.known,
      omega arith,
      omega arith,
      k.invariant.filling.room,
      span-ordered_is q g.level g.number k.path c.frame_of-frame.result f k.invariant.filling.whole b.result b.ensures.known k.k more,
    )

pub loop-k-preserved : goal.loop-k-preserved
loop-k-preserved c =
    let g = c.args in
    let q = g.self.now in
    let k = c.loop-k in
    let b = c.put_bounds-node in
    let f = c.frame_of-frame in
    let p = c.part_term-sides in
    let more : k.k < size q = omega arith in
    let two : Halves = halves_in (bits q g.level) b.result k.path (f.result + 1 + k.k) in
    let e = span-halves-are q g.level g.number k.path f.result f.ensures k.invariant.filling.whole b.result b.ensures.known k.k more c.requires.path_len.1 c.requires.path_len.3 in
    let t = opening_next (spans q) (size q) g.level g.number q.chosen.few c.requires.path_len.2 k.invariant more two e p.result.zero p.result.one (ap (λ (x : Sides). x.zero) p.ensures.1) (ap (λ (x : Sides). x.one) p.ensures.1) in
    let put : List ℕ = put_halves two (18 * (g.level + 1) + 1 + k.k) k.path in
    let made : List ℕ → ℕ → ℕ → Type 0 = λ x a b. Opening (spans q) (size q) g.level g.number x a b (k.k + 1) in
    subst (λ (x : List ℕ). made x c.min-zero.result c.min-one.result) (sym p.ensures.0)
    (subst (λ (a : ℕ). made put a c.min-one.result) (sym c.min-zero.ensures) (subst (made put (min k.zero p.result.zero)) (sym c.min-one.ensures) t))

use mathlib.Core.Path.{◌≡◌, refl, ap, ◌∙◌}
use Prim.Native.Nat.{ℕ, ◌+◌, ◌%◌, ◌^◌}
use native.Mathlib.Nat.{mod-lt}
use native.Mathlib.Omega.{arith}
use lib.Count.{ones, ones-le}
use lib.Dec.{ltb}
use lib.Pow.{pow_pos}
use Rattle.bits.specs.Rows.{of_kind}
use Rattle.bits.specs.Sequences.{bit}
use Rattle.bits.proofs.Bits.{count_le}
use Rattle.bits.proofs.Words.{shl_word}
use Rattle.bit_select.proofs.Halving.{narrow_step}
use Rattle.bit_select.proofs.places.narrow.Goals as goal

pub nonzero_rem-from : goal.nonzero_rem-from
nonzero_rem-from c =
    let s = c in
    rw (shl_word s.args.w s.requires.0) (pow_pos s.args.w)

pub of_kind-here-requires : goal.of_kind-here-requires
of_kind-here-requires c =
    let s = c in
    let w = s.args.w in
    let bits = s.args.from.bits in
    omega (arith, c.word_ones.ensures.0, ap (λ (m : ℕ). ones (bits % m)) (shl_word w s.requires.0), ones-le w (bits % 2 ^ w) (mod-lt bits (pow_pos w)))

pub overflow_add-behind : goal.overflow_add-behind
overflow_add-behind c =
    let s = c in
    omega (arith, s.requires, count_le (bit s.args.v) s.args.bits.now s.args.from.place)

pub overflow_add-result-2 : goal.overflow_add-result-2
overflow_add-result-2 c =
    let s = c in
    omega (arith, s.requires, c.times.ensures, c.of_kind-here.ensures, count_le (bit s.args.v) s.args.bits.now s.args.from.place)

pub returns : goal.returns
returns c =
    let s = c in
    let w = s.args.w in
    let f = s.args.from in
    let here = c.of_kind-here.result in
    let e : here ≡ of_kind s.args.v w (ones (f.bits % 2 ^ w))
    = c.of_kind-here.ensures.0 ∙ ap (of_kind s.args.v w) (c.word_ones.ensures.0 ∙ ap (λ (m : ℕ). ones (f.bits % m)) (shl_word w s.requires.0)) in
    rw (c.times-step.ensures.0, c.times.ensures.0)
    (narrow_step s.args.bits.now (λ i. (c.type_inv.bits i).fits) s.args.v s.args.k s.args.j w f.bits f.place f.before here s.requires.1 e (ltb (f.before + here) s.args.j) refl)

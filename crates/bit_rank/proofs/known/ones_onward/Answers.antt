use mathlib.Core.Path.{◌≡◌, ap, ◌∙◌}
use Prim.Native.Nat.{ℕ, ◌/◌, ◌%◌, ◌^◌}
use native.Mathlib.Omega.{arith}
use lib.Count.{ones}
use lib.Pow.{pow_pos}
use Rattle.bits.specs.Rows.{word_at}
use Rattle.bit_rank.proofs.Onward.{ones-onward}
use Rattle.bits.proofs.Words.{shl_word}
use Rattle.bit_rank.proofs.known.ones_onward.Goals as goal

pub nonzero_rem-word : goal.nonzero_rem-word
nonzero_rem-word c =
    let m = c.args.m in
    rw (shl_word m (omega arith)) (pow_pos m)

pub returns : goal.returns
returns c =
    let s = c in
    let row = s.args.row.now in
    let x = s.args.x in
    let m = s.args.m in
    let e : c.word_ones.result ≡ ones (word_at row (x / 8) / 2 ^ (x % 8) % 2 ^ m)
    = c.word_ones.ensures.0 ∙ ap (λ (d : ℕ). ones (c.word.result / 2 ^ (x % 8) % d)) (shl_word m (omega arith)) ∙ ap (λ (w : ℕ). ones (w / 2 ^ (x % 8) % 2 ^ m)) c.word.ensures in
    (omega (arith, ones-onward row (λ i. (c.type_inv.row i).fits) x m s.requires.1), c.word_ones.ensures.1)

use mathlib.Core.Path.{◌≡◌, ap, ◌∙◌}
use Prim.Native.Nat.{ℕ, ◌%◌, ◌^◌}
use native.Mathlib.Omega.{arith}
use lib.Count.{ones}
use lib.Pow.{pow_pos}
use Rattle.bits.specs.Rows.{word_at}
use Rattle.bits.proofs.Bits.{ones_word}
use Rattle.bits.proofs.Words.{shl_word}
use Rattle.bit_rank.proofs.counts.low_word_ones.Goals as goal

pub nonzero_rem-word : goal.nonzero_rem-word
nonzero_rem-word c = rw (shl_word c.args.s c.requires.1) (pow_pos c.args.s)

pub returns : goal.returns
returns c =
    let row = c.args.row.now in
    let k = c.args.k in
    let s = c.args.s in
    let e : c.word_ones.result ≡ ones (word_at row k % 2 ^ s)
    = c.word_ones.ensures.0 ∙ ap (λ (m : ℕ). ones (c.word.result % m)) (shl_word s c.requires.1) ∙ ap (λ (x : ℕ). ones (x % 2 ^ s)) c.word.ensures in
    (omega (arith, ones_word row (λ i. (c.type_inv.row i).fits) k s (omega arith)), c.word_ones.ensures.1)

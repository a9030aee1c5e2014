-- A question with a reading has at most one word more than half of its numbers: 'and' and 'or' stand between any two.
use Prim.Native.Nat.{ℕ, ◌+◌, ◌*◌, ◌≤◌}
use native.Mathlib.Omega.{arith}
use mathlib.Core.Path.{◌≡◌, refl}
use mathlib.Core.List.{List, [], ◌∷◌, map}
use mathlib.Core.Bool.{Bool, true, false, cond}
use lib.ListN.{length, length-append, length-map}
use lib.Dec.{ltb, eqb}
use Rattle.bits.specs.Sequences.{tally, bit}
use Rattle.bits.proofs.Tally.{tally-append}
use Rattle.model.specs.Grammar.{Token, word, and_mark, or_mark, not_mark, opens, closes, neither, token, Expression, Level, Derives, one_conjunction, or, one_negation, and, not, bracket, one_term, IsReading}
use Rattle.model.specs.Boolean.{words_in}
use Rattle.model.proofs.Lists.{length-keep}

is_word : Token → Bool
is_word (word t) = true
is_word and_mark = false
is_word or_mark = false
is_word not_mark = false
is_word opens = false
is_word closes = false
is_word neither = false

abbrev words : List Token → ℕ
words = tally is_word

half : {l : Level} {d : ℕ} {ts : List Token} {e : Expression} → Derives l d ts e → 2 * words ts ≤ length ts + 1
unfolding is_word
half (one_conjunction r) = half r
half (or {ts = ts} {us = us} r s) =
    omega (arith, half r, half s, tally-append is_word ts (or_mark ∷ us), length-append ts (or_mark ∷ us))
half (one_negation r) = half r
half (and {ts = ts} {us = us} r s) =
    omega (arith, half r, half s, tally-append is_word ts (and_mark ∷ us), length-append ts (and_mark ∷ us))
half (not r) = omega (arith, half r)
half (bracket {ts = ts} r) = omega (arith, half r, tally-append is_word ts (closes ∷ []), length-append ts (closes ∷ []))
half one_term = omega arith

word_is : (n : ℕ) → is_word (token n) ≡ ltb n 4096
unfolding is_word
word_is n = by (ltb n 4096) (eqb n 60000) (eqb n 60001) (eqb n 60002) (eqb n 60003) (eqb n 60004)
  where
    by : (a b c d e f : Bool)
        → is_word (cond a (word n) (cond b and_mark (cond c or_mark (cond d not_mark (cond e opens (cond f closes neither)))))) ≡ a
    by true b c d e f = refl
    by false true c d e f = refl
    by false false true d e f = refl
    by false false false true e f = refl
    by false false false false true f = refl
    by false false false false false true = refl
    by false false false false false false = refl

words_are : (question : List ℕ) → words (map token question) ≡ tally (λ n. ltb n 4096) question
words_are [] = refl
words_are (n ∷ ns) = λ i. bit (word_is n i) + words_are ns i

pub few_words : (question : List ℕ) (e : Expression) → IsReading question e → length (words_in question) ≤ 32
few_words question e r =
    omega (arith, half r.reads, r.few, length-keep (λ n. ltb n 4096) question, words_are question, length-map question token)

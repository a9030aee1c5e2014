-- The loop that numbers the words of a question: a word is put among the terms or found there, any other number stays, and there are no more terms than words.
use Prim.Native.Nat.{ℕ, suc, ◌+◌, ◌≤◌, ◌<◌, max}
use native.Mathlib.Numerals.{add-one}
use native.Mathlib.Omega.{arith}
use native.Mathlib.Decide.{ℕ_discrete, dec_le}
use mathlib.Core.Path.{◌≡◌, refl, ap, ◌∙◌}
use mathlib.Core.List.{List, [], ◌∷◌}
use mathlib.Core.Bool.{Bool, ◌||◌}
use Rattle.std.specs.List.{list_any}
use Rattle.model.specs.Lists.{any}
use lib.ListN.{length, get_or, set, take, length-set}
use lib.Seq.{get_or-set_same, get_or-set_other}
use lib.Dec.{ltb}
use borrow.Author.Tests.{lt-ltb, le-ltb}
use Rattle.bits.specs.Sequences.{bit}
use Rattle.bits.proofs.Tally.{tally-take-suc, tally-take_le}
use Rattle.model.specs.Boolean.{words_in}
use Rattle.model.proofs.Lists.{length-keep}
use Rattle.boolean.specs.Words.{Placed, Names, Taken, Numbered}

-- a chain over a list asks each of its numbers
pub any-list : (p : ℕ → Bool) (xs : List ℕ) → list_any p xs ≡ any p xs
any-list p [] = refl
any-list p (x ∷ xs) = ap (λ (b : Bool). p x || b) (any-list p xs)

module _ (question : List ℕ) where
  -- how many of the first numbers are words
  abbrev words : ℕ → ℕ
  words i = length (words_in (take i question))

  words_word : (i : ℕ) → i < length question → get_or question i 0 < 4096 → words (i + 1) ≡ words i + 1
  words_word i l w =
      omega (
        arith,
        ap words (add-one i),
        length-keep (λ n. ltb n 4096) (take (suc i) question),
        length-keep (λ n. ltb n 4096) (take i question),
        tally-take-suc (λ n. ltb n 4096) question i 0 l,
        ap bit (lt-ltb (get_or question i 0) 4096 w),
      )

  words-other : (i : ℕ) → i < length question → 4096 ≤ get_or question i 0 → words (i + 1) ≡ words i
  words-other i l w =
      omega (
        arith,
        ap words (add-one i),
        length-keep (λ n. ltb n 4096) (take (suc i) question),
        length-keep (λ n. ltb n 4096) (take i question),
        tally-take-suc (λ n. ltb n 4096) question i 0 l,
        ap bit (le-ltb (get_or question i 0) 4096 w),
      )

  words_le : (i : ℕ) → words i ≤ length (words_in question)
  words_le i =
      omega (arith, length-keep (λ n. ltb n 4096) (take i question), length-keep (λ n. ltb n 4096) question, tally-take_le (λ n. ltb n 4096) i question)

  later : {to term : ℕ} → Taken question to term → Taken question (to + 1) term
  later t = record { at = t.at; before = omega (arith, t.before); same = t.same; is_word = t.is_word }

  pub numbered_first : (terms numbered : List ℕ) → length terms ≡ 32 → length numbered ≡ 64 → Numbered question 0 terms 0 numbered
  numbered_first terms numbered a b = record {
    room = (a, b);
    few = omega arith;
    named = λ i l. absurd (omega arith);
    taken = λ k l. absurd (omega arith);
  }

  module _ {i size : ℕ} {terms numbered : List ℕ} (o : Numbered question i terms size numbered) (l : i < length question) (few : length question ≤ 64) where
    -- there is room for one word more
    pub room_for : length (words_in question) ≤ 32 → get_or question i 0 < 4096 → size < length terms
    room_for h w = omega (arith, o.room.0, o.few, words_word i l w, words_le (i + 1))

    -- a number where it stood, or at the new place
    write : (P : ℕ → ℕ → Type 0) (name : ℕ) → P (get_or question i 0) name → ((k : ℕ) → k < i → P (get_or question k 0) (get_or numbered k 0))
        → (k : ℕ) → k < i + 1 → P (get_or question k 0) (get_or (set numbered i name) k 0)
    write P name new old k m = go (ℕ_discrete k i)
      where
        go : Dec (k ≡ i) → P (get_or question k 0) (get_or (set numbered i name) k 0)
        go (yes e) = rw (e, get_or-set_same numbered i name 0 (omega (arith, o.room.1))) new
        go (no n) = rw (get_or-set_other numbered i k name 0 n) (old k (omega arith))

    pub numbered_other : 4096 ≤ get_or question i 0 → Numbered question (i + 1) terms size (set numbered i (get_or question i 0))
    numbered_other w = record {
      room = (o.room.0, length-set numbered i (get_or question i 0) ∙ o.room.1);
      few = omega (arith, o.few, words-other i l w);
      named = write (Names terms size) (get_or question i 0) (record { of_word = λ m. absurd (omega arith); of_other = λ m. refl }) o.named;
      taken = λ k m. later (o.taken k m);
    }

    pub numbered_word : (at : ℕ) (terms' : List ℕ) → get_or question i 0 < 4096 → at ≤ size → Placed terms size (get_or question i 0) at terms'
        → Numbered question (i + 1) terms' (max size (at + 1)) (set numbered i at)
    numbered_word at terms' w le p = record {
      room = (p.length_same ∙ o.room.0, length-set numbered i at ∙ o.room.1);
      few = omega (arith, o.few, words_word i l w);
      named = write (Names terms' (max size (at + 1))) at (record { of_word = λ m. (omega arith, p.there); of_other = λ m. absurd (omega arith) }) (λ k m. kept k (o.named k m));
      taken = λ k m. go k m (dec_le size k);
    }
      where
        kept : (k : ℕ) → Names terms size (get_or question k 0) (get_or numbered k 0) → Names terms' (max size (at + 1)) (get_or question k 0) (get_or numbered k 0)
        kept k n = record {
          of_word = λ m. (omega (arith, (n.of_word m).0), p.same (get_or numbered k 0) (n.of_word m).0 ∙ (n.of_word m).1);
          of_other = n.of_other;
        }

        here : Taken question (i + 1) (get_or question i 0)
        here = record { at = i; before = omega arith; same = refl; is_word = w }

        go : (k : ℕ) → k < max size (at + 1) → Dec (size ≤ k) → Taken question (i + 1) (get_or terms' k 0)
        go k m (yes s) =
            let e : k ≡ at = omega arith in
            rw (e, p.there) here
        go k m (no s) = rw (p.same k (omega arith)) (later (o.taken k (omega arith)))

-- A question whose words are numbered is read as the question itself, by the masks of the words; so the documents that the masks tell are those that match.
use Prim.Native.Nat.{ℕ, suc, ◌+◌, ◌-◌, ◌*◌, ◌/◌, ◌%◌, ◌^◌, ◌≤◌, ◌<◌}
use native.Mathlib.Nat.{div-add-mod, mod-lt, zero-add}
use native.Mathlib.Omega.{arith}
use native.Mathlib.Decide.{dec_le}
use mathlib.Core.Path.{◌≡◌, refl, sym, ap, ◌∙◌, fun_ext}
use mathlib.Core.List.{List, [], ◌∷◌, map}
use mathlib.Core.Option
use mathlib.Core.Option.{Option, none, some, none-ne-some}
use mathlib.Core.Bool.{Bool, true, false, cond}
use lib.ListN.{length, get_or, take}
use lib.Seq.{length-take-le, get_or-take}
use lib.Pow.{pow_pos, pow_mono}
use lib.Dec.{eqb}
use borrow.Author.Tests.{lt-ltb, le-ltb}
use Rattle.bits.specs.Sequences.{below}
use Rattle.model.specs.Lists.{keep}
use Rattle.model.specs.Format.{Library}
use Rattle.model.specs.Grammar.{Token, and_mark, or_mark, not_mark, opens, closes, neither, token, Expression}
use Rattle.model.specs.Reading.{evaluate, reading}
use Rattle.model.specs.Boolean.{entered, matches, documents_of}
use Rattle.model.proofs.Boolean.Evaluated.{result_evaluated}
use Rattle.model.proofs.Boolean.Renamed.{SameToken, same_word, same_and, same_or, same_not, same_opens, same_closes, same_neither, SameTokens, same_end, same_more, result_same}
use Rattle.model.proofs.Boolean.Theorem.{short-read}
use Rattle.matching.specs.Sets.{holds, sets_by, set_at}
use Rattle.matching.proofs.Sets.{holds-matches}
use Rattle.bitmaps.specs.Words.{block_height}
use Rattle.bitmaps.specs.Bitmaps.{term_word}
use Rattle.bitmaps.proofs.Blocks.{block_fits, holds_block}
use Rattle.boolean.specs.Words.{Names, Numbered, WordsBelow}
use Rattle.boolean.specs.Blocks.{Filled, set_by, is_a_reading, matched}
use Rattle.boolean.proofs.Readable.{read_some}
use Rattle.boolean.proofs.Matched.{keep_same, block_lt, blocks_most}

-- ---- tokens

module _ (f g : ℕ → ℕ) where
  abbrev Same : Token → Token → Type 0
  Same = SameToken (sets_by f) f g

  same_mark : (n : ℕ) → 4096 ≤ n → Same (token n) (token n)
  same_mark n l = rw (le-ltb n 4096 l) (by (eqb n 60000) (eqb n 60001) (eqb n 60002) (eqb n 60003) (eqb n 60004))
    where
      by : (b c d e x : Bool) → Same (cond b and_mark (cond c or_mark (cond d not_mark (cond e opens (cond x closes neither))))) (cond b and_mark (cond c or_mark (cond d not_mark (cond e opens (cond x closes neither)))))
      by true c d e x = same_and
      by false true d e x = same_or
      by false false true e x = same_not
      by false false false true x = same_opens
      by false false false false true = same_closes
      by false false false false false = same_neither

  same_token : (n m : ℕ) → (n < 4096 → (m < 4096) × (f n ≡ g m)) → (4096 ≤ n → m ≡ n) → Same (token n) (token m)
  same_token n m w o = go (dec_le 4096 n)
    where
      go : Dec (4096 ≤ n) → Same (token n) (token m)
      go (yes l) = rw (o l) (same_mark n l)
      go (no l) =
          let h : n < 4096 = omega arith in
          let p = w h in
          rw (lt-ltb n 4096 h, lt-ltb m 4096 p.0) (same_word p.1)

  same_tokens : (ns ms : List ℕ) → length ns ≡ length ms → ((i : ℕ) → i < length ns → Same (token (get_or ns i 0)) (token (get_or ms i 0)))
      → SameTokens (sets_by f) f g (map token ns) (map token ms)
  same_tokens [] [] e s = same_end
  same_tokens [] (m ∷ ms) e s = absurd (omega (arith, e))
  same_tokens (n ∷ ns) [] e s = absurd (omega (arith, e))
  same_tokens (n ∷ ns) (m ∷ ms) e s = same_more (s 0 (omega arith)) (same_tokens ns ms (omega (arith, e)) (λ i l. s (suc i) (omega arith)))

  -- what two questions come to, where their words stand for the same
  sets_same : (ns ms : List ℕ) → length ns ≤ 64 → length ns ≡ length ms → ((i : ℕ) → i < length ns → Same (token (get_or ns i 0)) (token (get_or ms i 0)))
      → Option.map (evaluate (sets_by f)) (reading ns) ≡ Option.map (evaluate (sets_by g)) (reading ms)
  sets_same ns ms few e s =
      ap (Option.map (evaluate (sets_by f))) (short-read ns few) ∙ sym (result_evaluated (sets_by f) (map token ns))
      ∙ result_same (sets_by f) f g (map token ns) (map token ms) (same_tokens ns ms e s)
      ∙ result_evaluated (sets_by g) (map token ms) ∙ ap (Option.map (evaluate (sets_by g))) (sym (short-read ms (omega (arith, e))))

  -- the other has a reading too, and its set is the same
  pub record Alike (e : Expression) (ms : List ℕ) : Type 0 where
    pub read : Expression
    pub is_read : reading ms ≡ some read
    pub same_set : evaluate (sets_by f) e ≡ evaluate (sets_by g) read

  alike_by : (e : Expression) (ms : List ℕ) (o : Option Expression) → reading ms ≡ o → some (evaluate (sets_by f) e) ≡ Option.map (evaluate (sets_by g)) o → Alike e ms
  alike_by e ms (some x) h p = record { read = x; is_read = h; same_set = cc p }
  alike_by e ms none h p = absurd (none-ne-some (evaluate (sets_by f) e) (sym p))

  pub alike : (ns ms : List ℕ) (e : Expression) → length ns ≤ 64 → length ns ≡ length ms → ((i : ℕ) → i < length ns → Same (token (get_or ns i 0)) (token (get_or ms i 0)))
      → reading ns ≡ some e → Alike e ms
  alike ns ms e few l s h =
      alike_by e ms (reading ms) refl (ap (Option.map (evaluate (sets_by f))) (sym h) ∙ sets_same ns ms few l s)

-- a question whose words are below a number comes to the same, where each number below it stands for the same
pub by_agreement : (f g : ℕ → ℕ) (size : ℕ) → ((t : ℕ) → t < size → f t ≡ g t) → (ns : List ℕ) → length ns ≤ 64 → WordsBelow size ns
    → set_by f (reading ns) ≡ set_by g (reading ns)
by_agreement f g size same ns few words =
    set_by_is f (reading ns)
    ∙ ap or_none (sets_same f g ns ns few refl (λ i l. same_token f g (get_or ns i 0) (get_or ns i 0) (λ w. (w, same (get_or ns i 0) (words i l w))) (λ m. refl)))
    ∙ sym (set_by_is g (reading ns))
  where
    or_none : Option ℕ → ℕ
    or_none none = 0
    or_none (some x) = x

    set_by_is : (f : ℕ → ℕ) (o : Option Expression) → set_by f o ≡ or_none (Option.map (evaluate (sets_by f)) o)
    set_by_is f none = refl
    set_by_is f (some e) = refl

-- ---- a numbered question

module _ (lib : Library) (h : ℕ) (low : h ≤ 12) (question terms numbered masks : List ℕ) (size : ℕ) (few : length question ≤ 64)
    (o : Numbered question (length question) terms size numbered) (small : size ≤ 32) (filled : Filled lib h terms size masks) where
  abbrev named : List ℕ
  named = take (length question) numbered

  pub named-length : length question ≡ length named
  named-length = sym (length-take-le (length question) numbered (omega (arith, o.room.1)))

  -- in each block a word stands for the same set as its number
  alike_in : (b : ℕ) → b < 2 ^ (h - block_height h) → (e : Expression) → reading question ≡ some e → Alike (λ t. term_word lib h t b) (set_at masks b) e named
  alike_in b l e r =
      alike (λ t. term_word lib h t b) (set_at masks b) question named e few named-length
      (λ i m.
      let n = o.named i m in
      rw (get_or-take (length question) numbered i 0 m)
      (same_token (λ t. term_word lib h t b) (set_at masks b) (get_or question i 0) (get_or numbered i 0)
      (λ w.
      let p = n.of_word w in
      (omega (arith, p.0), sym (filled (get_or numbered i 0) b p.0 l ∙ ap (λ (t : ℕ). term_word lib h t b) p.1)))
      n.of_other)) r

  -- its words are numbers of terms
  pub named-below : WordsBelow size named
  named-below i l w =
      let m : i < length question = omega (arith, named-length, l) in
      let e = get_or-take (length question) numbered i 0 m in
      rw e (go i (o.named i m) (dec_le 4096 (get_or question i 0)) (rw e at w))
    where
      go : (i : ℕ) → Names terms size (get_or question i 0) (get_or numbered i 0) → Dec (4096 ≤ get_or question i 0) → get_or numbered i 0 < 4096 → get_or numbered i 0 < size
      go i n (yes p) w = absurd (omega (arith, n.of_other p))
      go i n (no p) w = (n.of_word (omega arith)).0

  -- so it has a reading too
  pub named-read : (e : Expression) → reading question ≡ some e → is_a_reading (reading named) ≡ true
  named-read e r = ap is_a_reading (alike_in 0 (pow_pos (h - block_height h)) e r).is_read

  module _ (N : ℕ) (fits : N ≤ 2 ^ h) (are : lib.documents ≡ N) (e : Expression) (r : reading question ≡ some e) where
    abbrev w : ℕ
    w = 2 ^ block_height h

    -- a document by its block and its place there
    parts : (d : ℕ) → w * (d / w) + d % w ≡ d
    parts d = div-add-mod d w

    place_lt : (d : ℕ) → d % w < w
    place_lt d = mod-lt d (pow_pos (block_height h))

    word_fits : (t b : ℕ) → term_word lib h t b < 2 ^ 64
    word_fits t b =
        let most : 2 ^ (2 ^ block_height h) ≤ 2 ^ 64 = pow_mono {i = 2 ^ block_height h} {j = 64} (blocks_most h low) in
        omega (arith, block_fits (λ d. entered lib d t) (block_height h) (2 ^ block_height h * b))

    -- whether it matches
    told : (d : ℕ) → d < N → (x : Expression) → reading named ≡ some x → holds (evaluate (sets_by (set_at masks (d / w))) x) (d % w) ≡ matches (entered lib d) e
    told d l x rx =
        let b : ℕ = d / w in
        let j : ℕ = d % w in
        let inside : b < 2 ^ (h - block_height h) = block_lt h N b (w * b) fits (omega (arith, parts d)) refl in
        let a = alike_in b inside e r in
        let same : x ≡ a.read = cc (rx, a.is_read) in
        let small : j < 64 = omega (arith, place_lt d, blocks_most h low) in
        ap (λ (y : Expression). holds (evaluate (sets_by (set_at masks b)) y) j) same ∙ ap (λ (set : ℕ). holds set j) (sym a.same_set)
        ∙ holds-matches (λ t. term_word lib h t b) (λ t. word_fits t b) e j small
        ∙ ap (λ (has : ℕ → Bool). matches has e)
        (fun_ext
        (λ t.
        holds_block (λ d. entered lib d t) (block_height h) (w * b) j (place_lt d)
        ∙ ap (λ (n : ℕ). entered lib n t) (parts d)))

    matched_by : (x : Expression) → reading named ≡ some x → matched masks (some x) h N ≡ documents_of lib e
    matched_by x rx =
        keep_same (λ d. holds (evaluate (sets_by (set_at masks (d / w))) x) (d % w)) (λ d. matches (entered lib d) e) 0 N
        (λ j l. rw (zero-add j) (told j l x rx)) ∙ ap (λ (n : ℕ). keep (λ d. matches (entered lib d) e) (below n)) (sym are)

    pub matched-are : matched masks (reading named) h N ≡ documents_of lib e
    matched-are =
        let x = read_some (reading named) (named-read e r) in
        ap (λ (y : Option Expression). matched masks y h N) x.1 ∙ matched_by x.0 x.1

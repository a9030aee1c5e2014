-- The question as a whole: what is known of one that is not refused, the documents that are answered, and what the result of model comes to.
use Prim.Native.Nat.{ℕ, zero, suc, ◌≤◌, ◌<◌}
use native.Mathlib.Nat.{zero-add}
use native.Mathlib.Omega.{arith}
use mathlib.Core.Path.{◌≡◌, refl, sym, ap, ◌∙◌}
use mathlib.Core.List.{List, [], ◌∷◌, ◌++◌}
use mathlib.Core.Option.{Option, none, some}
use mathlib.Core.Bool.{Bool, true, false, ◌&&◌, false≢true}
use lib.ListN.{length, get_or, drop}
use lib.Seq.{sets, sets-eq, take-length}
use lib.Dec.{leb, ltb}
use borrow.Author.Tests.{lt-ltb, le-ltb, leb-false}
use Rattle.bits.specs.Sequences.{below}
use Rattle.bits.proofs.Tally.{length-up_from, tally_le_length}
use Rattle.bits.proofs.Tests.{or_neither}
use Rattle.model.specs.Lists.{any, overwrite}
use Rattle.model.specs.Outcome.{Outcome, answered, refused, refuse}
use Rattle.model.specs.Format.{Library}
use Rattle.model.specs.Opening.{contents}
use Rattle.model.specs.Queries.{PairsResult}
use Rattle.model.specs.Grammar.{Expression, IsReading}
use Rattle.model.specs.Reading.{reading}
use Rattle.model.specs.Boolean.{entered, matches, documents_of, words_in, documents_into, boolean_result}
use Rattle.model.proofs.Any.{any-keep}
use Rattle.model.proofs.Lists.{length-keep}
use Rattle.model.proofs.Boolean.Theorem.{found_reads}
use Rattle.model.proofs.Boolean.Few.{few_words}
use Rattle.archive.specs.declared.Layout.{Layout}
use Rattle.archive.specs.Layout.{Opened}
use Rattle.archive.proofs.Opened.{documents-are, lengths_size}
use Rattle.boolean.specs.Words.{Numbered}
use Rattle.boolean.specs.Blocks.{Below, is_a_reading, Found}
use Rattle.boolean.proofs.Readable.{read_some}

-- ---- what is known of a question with a reading

module _ (question : List ℕ) (h : is_a_reading (reading question) ≡ true) where
  is_reading : IsReading question (read_some (reading question) h).0
  is_reading = found_reads question (read_some (reading question) h).0 (read_some (reading question) h).1

  pub read_few : length question ≤ 64
  read_few = is_reading.few

  pub read-words : length (words_in question) ≤ 32
  read-words = few_words question (read_some (reading question) h).0 is_reading

  pub words_few : {terms numbered : List ℕ} {size : ℕ} → Numbered question (length question) terms size numbered → size ≤ 32
  words_few o = omega (arith, o.few, ap (λ (xs : List ℕ). length (words_in xs)) (take-length question), read-words)

-- ---- its words, where none is missing

any_at : (p : ℕ → Bool) (xs : List ℕ) (i : ℕ) → any p xs ≡ false → i < length xs → p (get_or xs i 0) ≡ false
any_at p [] i e l = absurd (omega arith)
any_at p (x ∷ xs) zero e l = (or_neither (p x) (any p xs) e).0
any_at p (x ∷ xs) (suc i) e l = any_at p xs i (or_neither (p x) (any p xs) e).1 (omega arith)

pub word_known : (W : ℕ) (question : List ℕ) → any (leb W) (words_in question) ≡ false → (i : ℕ) → i < length question → get_or question i 0 < 4096
    → get_or question i 0 < W
word_known W question e i l w =
    let none = any_at (λ n. ltb n 4096 && leb W n) question i (sym (any-keep (leb W) (λ n. ltb n 4096) question) ∙ e) l in
    leb-false W (get_or question i 0) (ap (λ (b : Bool). b && leb W (get_or question i 0)) (sym (lt-ltb (get_or question i 0) 4096 w)) ∙ none)

pub terms_known : (W : ℕ) (question terms numbered : List ℕ) (size : ℕ) → any (leb W) (words_in question) ≡ false
    → Numbered question (length question) terms size numbered → Below W terms size
terms_known W question terms numbered size e o k l =
    let t = o.taken k l in
    let here : get_or question t.at 0 < 4096 = omega (arith, t.same, t.is_word) in
    omega (arith, t.same, word_known W question e t.at t.before here)

-- ---- the documents

pub documents_le : (lib : Library) (e : Expression) → length (documents_of lib e) ≤ lib.documents
documents_le lib e =
    omega (
      arith,
      length-keep (λ d. matches (entered lib d) e) (below lib.documents),
      tally_le_length (λ d. matches (entered lib d) e) (below lib.documents),
      length-up_from 0 lib.documents,
    )

-- in the front of the slice
pub found_front : (lib : Library) (o : Option Expression) (e : Expression) (ds before after : List ℕ) (r : ℕ) → o ≡ some e → ds ≡ documents_of lib e
    → lib.documents ≤ length before → r ≡ length ds → after ≡ sets before 0 ds → Found lib o r before after
found_front lib o e ds before after r h same room er ea =
    rw (h, ← same)
    (er, ea ∙ sets-eq ds before 0 (omega (arith, ap length same, documents_le lib e)) ∙ ap (λ (n : ℕ). ds ++ drop n before) (zero-add (length ds)))

pub found_le : (lib : Library) (o : Option Expression) (r : ℕ) (before after : List ℕ) → Found lib o r before after → r ≤ lib.documents
found_le lib (some e) r before after f = omega (arith, f.0, documents_le lib e)
found_le lib none r before after f = absurd f

-- ---- what the result of model comes to

unread_is : (o : Option Expression) → is_a_reading o ≡ false → o ≡ none
unread_is none h = refl
unread_is (some e) h = absurd (false≢true (sym h))

module _ (bytes : List ℕ) (l : Layout) (o : Opened bytes l) (question answers : List ℕ) where
  abbrev pub Comes : Outcome (List ℕ) → Type 0
  Comes x = documents_into answers x ≡ boolean_result bytes question answers

  pub comes_unread : is_a_reading (reading question) ≡ false → Comes (refused 18)
  comes_unread h = rw (o.accepted, unread_is (reading question) h)

  module _ (h : is_a_reading (reading question) ≡ true) where
    abbrev e : Expression
    e = (read_some (reading question) h).0

    comes : (x : Outcome (List ℕ)) → x ≡ refuse 11 (any (leb l.terms) (words_in question)) (refuse 12 (ltb (length answers) l.documents) (answered (documents_of (contents bytes) e))) → Comes x
    comes x same =
        ap (documents_into answers) same
        ∙ rw (o.accepted, (read_some (reading question) h).1, lengths_size bytes l o)
        (ap (λ (N : ℕ). documents_into answers (refuse 11 (any (leb l.terms) (words_in question)) (refuse 12 (ltb (length answers) N) (answered (documents_of (contents bytes) e)))))
        (sym (documents-are bytes l o)))

    pub comes_missing : any (leb l.terms) (words_in question) ≡ true → Comes (refused 11)
    comes_missing m = comes (refused 11) (rw m)

    module _ (known : any (leb l.terms) (words_in question) ≡ false) where
      pub comes_short : length answers < l.documents → Comes (refused 12)
      comes_short m = comes (refused 12) (rw (known, lt-ltb (length answers) l.documents m))

      front : (r : ℕ) (after : List ℕ) → reading question ≡ some e → Found (contents bytes) (reading question) r answers after
          → (r ≡ length (documents_of (contents bytes) e)) × (after ≡ overwrite (documents_of (contents bytes) e) answers)
      front r after same f = rw same at f

      pub comes_found : l.documents ≤ length answers → (r : ℕ) (after : List ℕ) → Found (contents bytes) (reading question) r answers after
          → ◌≡◌ {A = PairsResult} (record { outcome = answered r; answers = after }) (boolean_result bytes question answers)
      comes_found m r after f =
          let (p, q) = front r after (read_some (reading question) h).1 f in
          (λ i. record { outcome = answered (p i); answers = q i })
          ∙ comes (answered (documents_of (contents bytes) e)) (rw (known, le-ltb (length answers) l.documents m))

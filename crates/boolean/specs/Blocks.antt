-- The documents of a library in blocks, and what the answer comes to block by block.
use Rattle.std.specs.Prelude.{ℕ, ◌+◌, ◌-◌, ◌*◌, ◌/◌, ◌%◌, ◌^◌, ◌<◌, ◌≡◌, List, [], Bool, true, false, length, get_or}
use Rattle.std.proofs.Math.Option.{Option, none, some}
use Rattle.bits.specs.Sequences.{up_from, below}
use Rattle.model.specs.Lists.{keep, overwrite}
use Rattle.model.specs.Format.{Library}
use Rattle.model.specs.Grammar.{Expression}
use Rattle.model.specs.Reading.{evaluate}
use Rattle.model.specs.Boolean.{documents_of}
use Rattle.matching.specs.Sets.{holds, sets_by, set_at}
use Rattle.bitmaps.specs.Words.{block_height}
use Rattle.bitmaps.specs.Bitmaps.{term_word}

-- before the first document of a set stand so many others
pub record First (set before : ℕ) : Type 0 where
  pub few : before < 64
  pub there : holds set before ≡ true
  pub none_before : (j : ℕ) → j < before → holds set j ≡ false

-- the documents of a set of so many from `first` on
abbrev pub members : ℕ → ℕ → ℕ → List ℕ
members set first size = keep (λ d. holds set (d - first)) (up_from first size)

-- the first of some terms are among W terms
abbrev pub Below : ℕ → List ℕ → ℕ → Type 0
Below W terms size = (i : ℕ) → i < size → get_or terms i 0 < W

-- the masks hold the bitmaps of the first terms
abbrev pub Filled : Library → ℕ → List ℕ → ℕ → List ℕ → Type 0
Filled lib h terms size masks =
    (i b : ℕ) → i < size → b < 2 ^ (h - block_height h) → get_or masks (64 * i + b) 0 ≡ term_word lib h (get_or terms i 0) b

-- none of the first terms has a document in a block
abbrev pub Blank : List ℕ → ℕ → ℕ → Type 0
Blank masks terms block = (i : ℕ) → i < terms → set_at masks block i ≡ 0

-- the set of a reading, by the set of each term; of none where there is none
abbrev pub set_by : (ℕ → ℕ) → Option Expression → ℕ
set_by setOf none = 0
set_by setOf (some e) = evaluate (sets_by setOf) e

abbrev pub is_a_reading : Option Expression → Bool
is_a_reading none = false
is_a_reading (some e) = true

-- the documents whose bit is set in their block, in a tree of height h
abbrev pub matched : List ℕ → Option Expression → ℕ → ℕ → List ℕ
matched masks none h documents = []
matched masks (some e) h documents =
    keep (λ d. holds (evaluate (sets_by (set_at masks (d / 2 ^ block_height h))) e) (d % 2 ^ block_height h)) (below documents)

-- so many documents are answered; they stand in the front of the slice, and the rest is as before
abbrev pub Found : Library → Option Expression → ℕ → List ℕ → List ℕ → Type 0
Found lib none r before after = ⊥
Found lib (some e) r before after = (r ≡ length (documents_of lib e)) × (after ≡ overwrite (documents_of lib e) before)

-- The different words of a question, numbered.
use Rattle.std.specs.Prelude.{ℕ, ◌≤◌, ◌<◌, ◌≡◌, List, length, get_or, take}
use Rattle.model.specs.Boolean.{words_in}

-- a word stands among the terms at a place, and the first `size` of them are as before
pub record Placed (before : List ℕ) (size word at : ℕ) (after : List ℕ) : Type 0 where
  pub there : get_or after at 0 ≡ word
  pub same : (k : ℕ) → k < size → get_or after k 0 ≡ get_or before k 0
  pub length_same : length after ≡ length before

-- a number of the question, and what stands for it: of a word, its number among the terms; of any other, itself
pub record Names (terms : List ℕ) (size number name : ℕ) : Type 0 where
  pub of_word : number < 4096 → (name < size) × (get_or terms name 0 ≡ number)
  pub of_other : 4096 ≤ number → name ≡ number

-- a term is a word of the question's first numbers
pub record Taken (question : List ℕ) (to term : ℕ) : Type 0 where
  pub at : ℕ
  pub before : at < to
  pub same : get_or question at 0 ≡ term
  pub is_word : term < 4096

-- the first numbers of a question are numbered, and there are no more terms than words
pub record Numbered (question : List ℕ) (to : ℕ) (terms : List ℕ) (size : ℕ) (numbered : List ℕ) : Type 0 where
  pub room : (length terms ≡ 32) × (length numbered ≡ 64)
  pub few : size ≤ length (words_in (take to question))
  pub named : (i : ℕ) → i < to → Names terms size (get_or question i 0) (get_or numbered i 0)
  pub taken : (k : ℕ) → k < size → Taken question to (get_or terms k 0)

-- the words of a question are below a number
abbrev pub WordsBelow : ℕ → List ℕ → Type 0
WordsBelow size question = (i : ℕ) → i < length question → get_or question i 0 < 4096 → get_or question i 0 < size

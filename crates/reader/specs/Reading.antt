-- What the reader's parts do, from the keys of one level to those of the next, and the answers of the reader.
use Rattle.std.specs.Prelude.{ℕ, ◌+◌, ◌-◌, ◌*◌, ◌/◌, ◌^◌, ◌≤◌, ◌<◌, ◌≡◌, List, map, length, get_or, take, ltb, eqb, Result}
use Rattle.bits.specs.Sequences.{tally}
use Rattle.bits.specs.Bits.{bit_at}
use Rattle.model.specs.Outcome.{Outcome}
use Rattle.model.specs.Format as model
use Rattle.model.specs.Opening.{ReadResult}
use Rattle.wavelet.specs.declared.Levels.{Levels}
use Rattle.wavelet.specs.Levels.{entries_in}
use Rattle.keys.specs.Counters.{Next}
use Rattle.refusals.specs.declared.Refusal.{Refusal}
use Rattle.refusals.specs.Refusals.{outcome_by}
use Rattle.reader.specs.declared.Sizes.{Sizes}

-- the place of entry i where the entries are arranged by their keys
abbrev pub place_of : List ℕ → ℕ → ℕ
place_of keys i = tally (λ k. ltb k (get_or keys i 0)) keys + tally (λ k. eqb k (get_or keys i 0)) (take i keys)

-- keys below some number, the next free place of each, and a row of as many bits as there are keys
pub record Descent (row next keys : List ℕ) : Type 0 where
  pub bound : ℕ
  pub low : bound ≤ 4096
  pub few : length keys ≤ 65535
  pub keys_below : (i : ℕ) → i < length keys → get_or keys i 0 < bound
  pub counters : bound ≤ length next
  pub places : Next 0 bound keys 0 next
  pub size : length keys ≤ 8 * length row

-- each key with its bit of the row
abbrev pub Deepened : List ℕ → List ℕ → List ℕ → Type 0
Deepened row keys after = (i : ℕ) → i < length keys → get_or after i 0 ≡ 2 * get_or keys i 0 + bit_at row (place_of keys i)

-- the keys of level j
abbrev pub keys_at : List ℕ → Levels → ℕ → List ℕ
keys_at bytes t j = map (λ v. v / 2 ^ (t.height - j)) (entries_in bytes t)

-- n, N and W as document 01 has them
abbrev pub sizes_of : Sizes → model.Sizes
sizes_of s = record { entries = s.entries; documents = s.documents; terms = s.terms }

-- n, N and W, or the number of a refusal
abbrev pub reading_of : Result Sizes Refusal → Outcome model.Sizes
reading_of = outcome_by sizes_of

-- the answer, with the final content of the two lists
abbrev pub reading_is : Result Sizes Refusal → List ℕ → List ℕ → ReadResult
reading_is r entries lengths = record { outcome = reading_of r; entries = entries; lengths = lengths }

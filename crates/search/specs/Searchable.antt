-- What both searches ask for: a search holds it.
use Rattle.std.specs.Prelude.{ℕ, ◌≤◌, ◌≡◌, List, [], ◌∷◌}
use Rattle.std.specs.Coded.{×_prop, Unit-prop, le_prop}
use denote.Struct.Props.{props}
use Rattle.wavelet.specs.declared.Levels.{Levels}
use Rattle.wavelet.specs.Levels.{Stored, entries_in}
use Rattle.model.specs.Lists.{Within}
use Rattle.model.specs.Rows.{height}

-- what a search asks: an archive's levels, whose entries are documents, and a range of them
pub record Searchable (bytes : List ℕ) (t : Levels) (documents a b : ℕ) : Type 0 where
  pub stored : Stored bytes t
  pub high : t.height ≡ height documents
  pub some : 1 ≤ documents
  pub few : documents ≤ 4096
  pub within : Within documents (entries_in bytes t)
  pub ordered : a ≤ b
  pub inside : b ≤ t.entries

-- it is known in one way alone
Within-prop : (n : ℕ) (xs : List ℕ) → IsProp (Within n xs)
Within-prop n [] = Unit-prop
Within-prop n (x ∷ xs) = ×_prop le_prop (Within-prop n xs)

pub Searchable-prop : (bytes : List ℕ) (t : Levels) (documents a b : ℕ) → IsProp (Searchable bytes t documents a b)
Searchable-prop bytes t documents a b = Prim.hlevel (props, Within-prop)

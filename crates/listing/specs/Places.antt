-- First places: what the descent notes at the nodes of a range, what a pass over its entries does with that, and what it finds.
use Rattle.std.specs.Prelude.{ℕ, zero, suc, ◌+◌, ◌-◌, ◌*◌, ◌^◌, ◌≤◌, ◌<◌, ◌≡◌, List, cond, get_or, set, eqb}
use Rattle.bits.specs.Sequences.{occurrences}
use Rattle.model.specs.Lists.{part}
use Rattle.model.specs.Queries.{first_place}
use Rattle.model.specs.Walk.{pos, key}
use Rattle.wavelet.specs.declared.Levels.{Levels}
use Rattle.wavelet.specs.declared.Span.{Span}
use Rattle.wavelet.specs.Levels.{level_of}
use Rattle.wavelet.specs.Spans.{halves_of}

-- the number of the node q of level j among all nodes: 1 is the root, and the halves of v are 2 * v and 2 * v + 1
abbrev pub number_of : ℕ → ℕ → ℕ
number_of j q = 2 ^ j + q

-- where the range ends in each node above the leaves that has entries of it, noted at the node's number: at the node q of level j,
-- m rows above the leaves, then in its zero half, then in its one half
abbrev pub noted_from : (ℕ → List ℕ) → ℕ → ℕ → ℕ → Span → List ℕ → List ℕ
noted_from rows zero j q s table = table
noted_from rows (suc m) j q s table =
    let two = halves_of (rows j) s in
    let zeros = noted_from rows m (suc j) (2 * q) two.zero (set table (number_of j q) s.hi) in
    let both = noted_from rows m (suc j) (2 * q + 1) two.one zeros in
    cond (eqb s.lo s.hi) table both

abbrev pub noted_under : List ℕ → Levels → ℕ → ℕ → Span → List ℕ → List ℕ
noted_under bytes t j q s table = noted_from (level_of bytes t) (t.height - j) j q s table

-- the number of the node of level j that holds v
abbrev pub holder : ℕ → ℕ → ℕ → ℕ
holder h j v = number_of j (key h j v)

-- each node that holds entry i has where its entries of the first i + 1 end: behind entry i
abbrev pub Ready : ℕ → List ℕ → ℕ → List ℕ → Type 0
Ready h xs i table =
    (j : ℕ) → j < h → get_or table (holder h j (get_or xs i 0)) 0 ≡ pos h xs j (key h j (get_or xs i 0)) (suc i)

-- one less at the nodes above level k that hold v
abbrev pub back_to : ℕ → ℕ → ℕ → List ℕ → List ℕ
back_to h v zero table = table
back_to h v (suc k) table =
    let above = back_to h v k table in
    set above (holder h k v) (get_or above (holder h k v) 0 - 1)

-- each node that holds an entry of the range a to b has where its entries of the first i end
abbrev pub Cursors : ℕ → List ℕ → ℕ → ℕ → ℕ → List ℕ → Type 0
Cursors h xs a b i table =
    (e j : ℕ) → a ≤ e → e < b → j < h → get_or table (holder h j (get_or xs e 0)) 0 ≡ pos h xs j (key h j (get_or xs e 0)) i

-- each document of the range a to b has its first place there
abbrev pub FirstPlaces : List ℕ → ℕ → ℕ → List ℕ → Type 0
FirstPlaces xs a b first = (d : ℕ) → 0 < occurrences d (part a b xs) → get_or first d 0 ≡ first_place a (part a b xs) d

-- The way of select: down by the bits of a value, and from a place in a half to its place in the node.
use Rattle.std.specs.Prelude.{ℕ, ◌+◌, ◌-◌, List, cond, eqb, ltb}
use Rattle.bits.specs.Sequences.{rank, select}
use Rattle.model.specs.Walk.{rank_from, select_from}

-- how far into the node that starts at s, in a level with the given bits, what stands k into a half stands
abbrev pub up_from_half : List ℕ → ℕ → ℕ → ℕ → ℕ
up_from_half bits s bit k = cond (eqb bit 1) (select 1 bits (rank 1 bits s + k + 1) - s) (select 0 bits ((s - rank 1 bits s) + k + 1) - s)

-- by m more rows, the next of them row j: how far into the node from s to e the entry v stands that has k like it before it; the node's size where it has none
abbrev pub offset_from : (ℕ → List ℕ) → ℕ → ℕ → ℕ → ℕ → ℕ → ℕ → ℕ
offset_from rows v m j s e k = cond (ltb k (rank_from rows v m j s e e)) (select_from rows v m j s e k) (e - s)

-- What a row with its samples holds, after document 01, "Bit rows".
use Rattle.std.specs.Prelude.{ℕ, List}
use Rattle.bits.specs.Bits.{bits_of}
use Rattle.bits.specs.declared.row.Row.{Row}

-- the bits of a row
abbrev pub content : Row → List ℕ
content row = bits_of row.n row.bits.now

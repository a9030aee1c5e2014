-- `put_matching` meets its contract: each turn of the loop is a law of Matched.
use Rattle.std.proofs.Common.{◌≡◌, ◌*◌, ◌^◌, min}
use mathlib.Core.Option.{some}
use Rattle.model.specs.Grammar.{Expression}
use Rattle.model.specs.Reading.{reading}
use Rattle.bitmaps.specs.Words.{block_height}
use Rattle.boolean.proofs.Matched.{Coming}
use Rattle.boolean.proofs.blocks.put_matching.Given as goal

abbrev pub invariant-loop-block : goal.invariant-loop-block
invariant-loop-block l =
    (e : Expression) → reading l.question ≡ some e
    → Coming l.masks e l.l.levels.height l.l.documents l.initial.answers l.found l.block (min (2 ^ block_height l.l.levels.height * l.block) l.l.documents) l.answers

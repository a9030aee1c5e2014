-- `set_of` meets its contract.
use mathlib.Core.Path.{◌∙◌}
use Rattle.boolean.proofs.Blanks.{blank_set}
use Rattle.boolean.proofs.blocks.set_of.Goals as goal

pub returns-then-is_blank : goal.returns-then-is_blank
returns-then-is_blank c =
    let s = c in
    let g = s.args in
    s.requires.words_below.1 ∙ blank_set g.masks.now g.terms g.block (c.is_blank.ensures c.if-is_blank.true) g.question.now s.requires.terms_in_bounds.3 s.requires.words_below.0

use mathlib.Core.Path.{◌∙◌}
use Rattle.wavelet_select.proofs.Places.{select-root}
use Rattle.wavelet_select.proofs.ascent.select.Goals as goal

pub returns : goal.returns
returns c =
    let tree = c.args.tree.now in
    c.offset_of.ensures ∙ select-root tree.bytes.now tree.levels c.args.d c.args.i c.requires.d_bound.0 c.requires.d_bound.1

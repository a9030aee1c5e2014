use native.Mathlib.Omega.{arith}
use mathlib.Core.Path.{sym, ap, subst}
use mathlib.Core.List.{List}
use lib.ListN.{length}
use Rattle.model.specs.Queries.{Pair}
use Rattle.wavelet.specs.Levels.{entries_in}
use Rattle.answers.specs.Written.{Written}
use Rattle.answers.proofs.Stores.{written-front}
use Rattle.listing.specs.Places.{Cursors}
use Rattle.listing.proofs.Listed.{pairs-root}
use Rattle.listing.proofs.Noted.{noted-root}
use Rattle.listing.proofs.lists.list_range.Goals as goal

pub list_node-requires : goal.list_node-requires
list_node-requires c =
    let s = c in
    let g = s.args in record {
      j_le_height = (
        omega arith,
        omega arith,
        record { from = omega arith; range = s.requires.a_le_b.0; to = s.requires.a_le_b.1; inside = omega arith },
        omega (arith, s.requires.a_le_b.2, ap length (pairs-root g.tree.now.bytes.now g.tree.now.levels g.a g.b s.requires.a_le_b.0 s.requires.a_le_b.1)),
        s.requires.a_le_b.3,
      );
    }

pub returns : goal.returns
returns c =
    let k = c in
    let s = k in
    let g = s.args in record {
      lists = written-front s.requires.a_le_b.2
          (subst (λ (ps : List Pair). Written ps 0 g.answers.now k.list_node.new.answers k.list_node.result)
          (pairs-root g.tree.now.bytes.now g.tree.now.levels g.a g.b s.requires.a_le_b.0 s.requires.a_le_b.1) k.list_node.ensures.written);
      cursors = subst (Cursors g.tree.now.levels.height (entries_in g.tree.now.bytes.now g.tree.now.levels) g.a g.b g.b) (sym k.list_node.ensures.cursors_after)
          (noted-root g.tree.now.bytes.now g.tree.now.levels g.a g.b s.requires.a_le_b.0 s.requires.a_le_b.1 g.cursors.now s.requires.a_le_b.3);
    }

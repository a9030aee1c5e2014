use native.Mathlib.Omega.{arith}
use lib.Dec.{eqb}
use Rattle.wavelet_select.proofs.Places.{before_nth, nth_after, nth_up}
use Rattle.wavelet_select.proofs.ascent.up.Goals as goal

pub select_bit-requires : goal.select_bit-requires
select_bit-requires c =
    let g = c.args in
    let l = c.requires.j_lt_height in record {
      j_lt_height = (
        l.0,
        l.1,
        l.2,
        rw (c.select_unpredictable-like.ensures, c.requires.before_value.0)
            (before_nth g.tree.now.bytes.now g.tree.now.levels g.j l.0 (eqb g.bit 1) g.start g.k (omega arith)),
      );
    }

pub overflow_sub-result : goal.overflow_sub-result
overflow_sub-result c =
    let g = c.args in
    rw (c.select_bit.ensures, c.select_unpredictable-like.ensures, c.requires.before_value.0)
    (nth_after g.tree.now.bytes.now g.tree.now.levels g.j c.requires.j_lt_height.0 (eqb g.bit 1) g.start g.k (omega arith))

pub returns : goal.returns
returns c =
    let g = c.args in
    rw (c.select_bit.ensures, c.select_unpredictable-like.ensures, c.requires.before_value.0)
    (nth_up g.tree.now.bytes.now g.tree.now.levels g.j c.requires.j_lt_height.0 (eqb g.bit 1) g.start g.k)

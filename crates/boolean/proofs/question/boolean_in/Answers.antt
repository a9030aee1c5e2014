-- `boolean_in` meets its contract: the numbered question is read as the question itself, and its masks are those of the words.
use Prim.Native.Nat.{◌≤◌}
use native.Mathlib.Omega.{arith}
use mathlib.Core.Path.{refl, sym, ap, ◌∙◌}
use lib.ListN.{length, take}
use lib.Seq.{length-take-le, length-sets}
use Rattle.model.specs.Opening.{contents}
use Rattle.model.specs.Reading.{reading}
use Rattle.archive.proofs.Opened.{stored, documents_fit, documents-are}
use Rattle.boolean.specs.Blocks.{matched}
use Rattle.boolean.proofs.Filling.{filled_front, below_front}
use Rattle.boolean.proofs.Readable.{read_some}
use Rattle.boolean.proofs.Renaming.{named-length, named-below, named-read, matched-are}
use Rattle.boolean.proofs.Answered.{read_few, read-words, words_few, terms_known, found_front}
use Rattle.boolean.proofs.question.boolean_in.Goals as goal

pub number_words-size-requires : goal.number_words-size-requires
number_words-size-requires c =
    let s = c in
    let g = s.args in
    (read_few g.question.now s.requires.question_value.0, read-words g.question.now s.requires.question_value.0, refl, refl)

pub slice_bounds-terms-end : goal.slice_bounds-terms-end
slice_bounds-terms-end c =
    let n = c.number_words-size.ensures in
    omega (arith, words_few c.args.question.now c.requires.question_value.0 n, n.room.0)

pub slice_bounds-put_bitmaps-end : goal.slice_bounds-put_bitmaps-end
slice_bounds-put_bitmaps-end c =
    let n = c.number_words-size.ensures in
    sym (length-take-le c.number_words-size.result c.number_words-size.new.terms (omega (arith, words_few c.args.question.now c.requires.question_value.0 n, n.room.0)))

pub put_bitmaps-requires : goal.put_bitmaps-requires
put_bitmaps-requires c =
    let w = c.number_words-size in
    let few = words_few c.args.question.now c.requires.question_value.0 w.ensures in
    let room : w.result ≤ length w.new.terms = omega (arith, few, w.ensures.room.0) in record {
      few = (omega (arith, few, length-take-le w.result w.new.terms room), refl);
      below = below_front c.args.archive.now.layout.terms w.result w.new.terms room
          (terms_known c.args.archive.now.layout.terms c.args.question.now w.new.terms w.new.numbered w.result c.requires.question_value.1 w.ensures);
    }

pub slice_bounds-numbered-end : goal.slice_bounds-numbered-end
slice_bounds-numbered-end c =
    let s = c in
    let g = s.args in
    omega (arith, read_few g.question.now s.requires.question_value.0, c.number_words-size.ensures.room.1)

pub slice_bounds-put_matching-end : goal.slice_bounds-put_matching-end
slice_bounds-put_matching-end c =
    let s = c in
    let g = s.args in
    sym (length-take-le (length g.question.now) c.number_words-size.new.numbered (omega (arith, read_few g.question.now s.requires.question_value.0, c.number_words-size.ensures.room.1)))

pub put_matching-requires : goal.put_matching-requires
put_matching-requires c =
    let s = c in
    let g = s.args in
    let o = g.archive.now.opened in
    let n = c.number_words-size in
    let filled = filled_front (contents g.archive.now.bytes.now) g.archive.now.layout.levels.height (stored g.archive.now.bytes.now g.archive.now.layout o).low n.new.terms n.result c.put_bitmaps.new.masks
    (omega (arith, words_few g.question.now s.requires.question_value.0 n.ensures, n.ensures.room.0)) c.put_bitmaps.ensures in
    let x = read_some (reading g.question.now) s.requires.question_value.0 in
    let read = named-read (contents g.archive.now.bytes.now) g.archive.now.layout.levels.height (stored g.archive.now.bytes.now g.archive.now.layout o).low g.question.now n.new.terms n.new.numbered
    c.put_bitmaps.new.masks n.result (read_few g.question.now s.requires.question_value.0) n.ensures (words_few g.question.now s.requires.question_value.0 n.ensures)
    filled x.0 x.1 in
    let low = (stored g.archive.now.bytes.now g.archive.now.layout o).low in
    let few = read_few g.question.now s.requires.question_value.0 in
    let small = words_few g.question.now s.requires.question_value.0 n.ensures in
    let below = named-below (contents g.archive.now.bytes.now) g.archive.now.layout.levels.height low g.question.now n.new.terms n.new.numbered
    c.put_bitmaps.new.masks n.result few n.ensures small filled in
    let same = named-length (contents g.archive.now.bytes.now) g.archive.now.layout.levels.height low g.question.now n.new.terms n.new.numbered
    c.put_bitmaps.new.masks n.result few n.ensures small filled in record {
      height_bound = (low, documents_fit g.archive.now.bytes.now g.archive.now.layout o, s.requires.question_value.2);
      terms_in_bounds = (omega (arith, small), small, omega (arith, same, few), below);
      question_value = read;
    }

pub shape_of-answers : goal.shape_of-answers
shape_of-answers c =
    let s = c in
    let g = s.args in
    ap length c.put_matching.ensures.1 ∙ length-sets g.answers.now 0
    (matched c.put_bitmaps.new.masks (reading (take (length g.question.now) c.number_words-size.new.numbered)) g.archive.now.layout.levels.height g.archive.now.layout.documents)

pub returns : goal.returns
returns c =
    let s = c in
    let g = s.args in
    let o = g.archive.now.opened in
    let n = c.number_words-size in
    let filled = filled_front (contents g.archive.now.bytes.now) g.archive.now.layout.levels.height (stored g.archive.now.bytes.now g.archive.now.layout o).low n.new.terms n.result c.put_bitmaps.new.masks
    (omega (arith, words_few g.question.now s.requires.question_value.0 n.ensures, n.ensures.room.0)) c.put_bitmaps.ensures in
    let m = c.put_matching in
    let x = read_some (reading g.question.now) s.requires.question_value.0 in
    let same = matched-are (contents g.archive.now.bytes.now) g.archive.now.layout.levels.height (stored g.archive.now.bytes.now g.archive.now.layout o).low g.question.now n.new.terms n.new.numbered
    c.put_bitmaps.new.masks n.result (read_few g.question.now s.requires.question_value.0) n.ensures (words_few g.question.now s.requires.question_value.0 n.ensures)
    filled
    g.archive.now.layout.documents (documents_fit g.archive.now.bytes.now g.archive.now.layout o) (documents-are g.archive.now.bytes.now g.archive.now.layout o) x.0 x.1 in
    let room : (contents g.archive.now.bytes.now).documents ≤ length g.answers.now = omega (arith, s.requires.question_value.2, documents-are g.archive.now.bytes.now g.archive.now.layout o) in
    found_front (contents g.archive.now.bytes.now) (reading g.question.now) x.0
    (matched c.put_bitmaps.new.masks (reading (take (length g.question.now) c.number_words-size.new.numbered)) g.archive.now.layout.levels.height g.archive.now.layout.documents) g.answers.now m.new.answers m.result x.1 same room m.ensures.0 m.ensures.1

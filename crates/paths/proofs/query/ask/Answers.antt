use native.Mathlib.Omega.{arith}
use mathlib.Core.Path.{◌≡◌, sym, ◌∙◌}
use borrow.Author.Rules.{rules}
use lib.ListN.{length, take}
use lib.Seq.{length-take-le}
use Rattle.model.proofs.Format.Valid.{within_any}
use Rattle.paths.proofs.query.ask.Goals as goal

pub invariant_of-result : goal.invariant_of-result
invariant_of-result c =
    let q = c.args.q.now in
    let eight : length q.numbers ≡ 8 = search rules in
    let size : length (take q.size q.numbers) ≡ q.size = length-take-le q.size q.numbers (omega arith) in
    record {
      chosen = record {
        some = omega arith;
        few = omega arith;
        known = within_any c.args.archive.now.layout.terms (take q.size q.numbers) (sym c.term_missing.ensures ∙ c.if-term_missing.false);
      };
    }

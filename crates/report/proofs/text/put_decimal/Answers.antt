-- `put_decimal`: the digits that were made are the decimal ones.
use mathlib.Core.Path.{◌∙◌, ap, subst}
use Prim.Native.Nat.{ℕ}
use mathlib.Core.List.{List}
use Rattle.report.specs.Report.{decimal}
use Rattle.report.specs.Types.{Types}
use Rattle.report.proofs.Decimals.{fewest_decimal}
use Rattle.report.proofs.text.put_decimal.Goals as goal

pub returns : goal.returns
returns c =
    let s = c.args in
    let d = c.decimal-n in
    let t = c.put_text in
    subst (λ (text : List ℕ). Types text s.at s.output.now t.result t.new.output)
    (d.ensures.digits ∙ fewest_decimal c.from.result d.result d.ensures.len ∙ ap decimal c.from.ensures) t.ensures

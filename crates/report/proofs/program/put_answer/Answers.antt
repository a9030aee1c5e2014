-- `put_answer`: by the cases of the answer.
use Rattle.std.proofs.Common.{sym, ap, ◌∙◌, subst, Result, Ok}
use Rattle.moves.specs.declared.Ended.{Ended}
use Rattle.moves.specs.Results.{top_k_of}
use Rattle.refusals.specs.declared.Refusal.{Refusal}
use Rattle.report.specs.Types.{Types, text_in, Listed}
use Rattle.report.proofs.Typing.{types_append}
use Rattle.report.proofs.program.put_answer.Goals as goal

pub put_lines-at-requires : goal.put_lines-at-requires
put_lines-at-requires c =
    let e = c.in-Ok-Done.is ∙ ap Ok (rw c.in-Ok-Done.is at c.in-Ok-Done.field-0-is) in
    (subst (λ (x : Result Ended Refusal). Listed (top_k_of x)) e c.requires.listed, c.requires.in_bounds)

pub put_lines-at-requires-in-Ok-Spent : goal.put_lines-at-requires-in-Ok-Spent
put_lines-at-requires-in-Ok-Spent c =
    let e = c.in-Ok-Spent.is ∙ ap Ok (rw c.in-Ok-Spent.is at c.in-Ok-Spent.field-0-is) in
    (subst (λ (x : Result Ended Refusal). Listed (top_k_of x)) e c.requires.listed, c.requires.in_bounds)

pub returns-in-Ok-Done : goal.returns-in-Ok-Done
returns-in-Ok-Done c =
    let e = c.in-Ok-Done.is ∙ ap Ok (rw c.in-Ok-Done.is at c.in-Ok-Done.field-0-is) in
    let put = c.put_last in
    subst (λ (x : Result Ended Refusal). Types (text_in (top_k_of x) c.args.answers.now) 0 c.args.output.now put.result put.new.output) (sym e)
    (types_append c.put_lines-at.ensures put.ensures)

pub returns-in-Ok-Spent : goal.returns-in-Ok-Spent
returns-in-Ok-Spent c =
    let e = c.in-Ok-Spent.is ∙ ap Ok (rw c.in-Ok-Spent.is at c.in-Ok-Spent.field-0-is) in
    let put = c.put_last-in-Ok-Spent in
    subst (λ (x : Result Ended Refusal). Types (text_in (top_k_of x) c.args.answers.now) 0 c.args.output.now put.result put.new.output) (sym e)
    (types_append c.put_lines-at-in-Ok-Spent.ensures put.ensures)

pub returns-in-Err : goal.returns-in-Err
returns-in-Err c =
    let put = c.put_last-in-Err in
    subst (λ (x : Result Ended Refusal). Types (text_in (top_k_of x) c.args.answers.now) 0 c.args.output.now put.result put.new.output) (sym c.in-Err.is)
    (rw c.from.ensures at put.ensures)

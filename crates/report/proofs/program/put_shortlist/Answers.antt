-- `put_shortlist`: the answer of the search is that of the shortlist, and its text follows.
use native.Mathlib.Omega.{arith}
use mathlib.Core.Path.{◌≡◌, sym, ap, ◌∙◌, subst}
use Prim.Native.Nat.{ℕ, ◌-◌}
use mathlib.Core.List.{List}
use lib.ListN.{length, take, drop, length-drop}
use lib.Seq.{take-length}
use Rattle.moves.specs.Results.{top_k_of}
use Rattle.report.specs.Report.{shortlist_of, text_of}
use Rattle.report.specs.Types.{Types}
use Rattle.report.proofs.Reported.{reported, reported_few}
use Rattle.report.proofs.program.put_shortlist.Goals as goal

-- the archive as the code lends it
abbrev archive_in : List ℕ → List ℕ
archive_in input = take (length input - 16) (drop 16 input)

archive_is : (input : List ℕ) → archive_in input ≡ drop 16 input
archive_is input = ap (λ (n : ℕ). take n (drop 16 input)) (sym (length-drop 16 input)) ∙ take-length (drop 16 input)

pub put_answer-requires : goal.put_answer-requires
put_answer-requires c =
    let s = c in
    let found = c.greedy_terms-r in
    let few =
    reported_few (archive_in s.args.input.now) c.number-f.result c.number-l.result c.number-k.result c.number-allowance.result
    s.args.answers.now s.args.work.now s.requires.in_bounds_2.0 s.requires.in_bounds_2.1 (top_k_of found.result) found.new.answers found.new.work found.ensures
    in record {
      listed = few;
      in_bounds = omega (arith, found.auto.answers);
    }

pub returns : goal.returns
returns c =
    let s = c in
    let input = s.args.input.now in
    let found = c.greedy_terms-r in
    let put = c.put_answer in
    let f = c.number-f in
    let l = c.number-l in
    let k = c.number-k in
    let allowance = c.number-allowance in
    let text =
    reported (archive_in input) f.result l.result k.result allowance.result s.args.answers.now s.args.work.now
    s.requires.in_bounds_2.0 s.requires.in_bounds_2.1 (top_k_of found.result) found.new.answers found.new.work found.ensures
    in
    subst (λ (t : List ℕ). Types t 0 s.args.output.now put.result put.new.output) (text ∙ (λ i. text_of (shortlist_of (archive_is input i) (f.ensures.0 i) (l.ensures.0 i) (k.ensures.0 i) (allowance.ensures.0 i)))) put.ensures

-- `word_missing` meets its contract: it asks for a number that is a word and no term.
use Rattle.std.proofs.Common.{ℕ, sym, ◌∙◌, rules, tests, Bool, ◌&&◌, leb, ltb}
use Rattle.std.proofs.lemmas.Iterator.{YieldsList-from_slice}
use Rattle.std.proofs.lemmas.Iterator.Search.{any_from_yields_List}
use Rattle.model.proofs.Any.{any-keep}
use Rattle.boolean.proofs.Numbering.{any-list}
use Rattle.boolean.proofs.words.word_missing.Goals as goal

abbrev missing : ℕ → ℕ → Bool
missing W n = ltb n 4096 && leb W n

pub returns : goal.returns
returns c =
    let W = c.args.l.terms in
    let xs = c.args.question.now in
    any_from_yields_List (missing W) _ _ _ c.any.ensures.ran (YieldsList-from_slice xs cc) (λ x b q k. search (rules, tests))
    ∙ any-list (missing W) xs ∙ sym (any-keep (leb W) (λ n. ltb n 4096) xs)

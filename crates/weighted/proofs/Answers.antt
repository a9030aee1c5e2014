-- The answer that is read off the moves: of the ground, of the definitions' search, and the one of the definitions.
use Prim.Native.Nat.{ℕ, ◌+◌, ◌^◌}
use mathlib.Core.Path.{◌≡◌, sym, ap, ◌∙◌}
use mathlib.Core.List.{List}
use Rattle.model.specs.Opening.{contents}
use Rattle.model.specs.Rows.{height}
use Rattle.model.specs.Queries.{flat}
use Rattle.model.specs.TopK.{found_of}
use Rattle.model.specs.Search.{Waiting, answer_of, moves_from}
use Rattle.model.specs.Weighted.{Weighed, score_in, lives_in, weighted_top_k, weighted_found}
use Rattle.model.proofs.Weighted.Theorem.{all_within_le, weighted_begin_lem, weighted}
use Rattle.archive.specs.declared.Layout.{Layout}
use Rattle.archive.specs.Layout.{Opened}
use Rattle.archive.proofs.Opened.{documents_fit, documents-are}
use Rattle.paths.specs.declared.query.Query.{Query}
use Rattle.moves.specs.Results.{found_by}
use Rattle.weighted.specs.Grounds.{weighed_in, ground_of, found_in}
use Rattle.weighted.proofs.Nodes.{terms_within}

module _ (q : Query) (k allowance : ℕ) where
  abbrev bytes : List ℕ
  bytes = q.archive.bytes.now

  abbrev l : Layout
  l = q.archive.layout

  abbrev o : Opened bytes l
  o = q.archive.opened

  abbrev ws : List Weighed
  ws = weighed_in q

  -- the root waits first with the score that the weights and the terms' lengths give
  pub found_moves : found_by (ground_of q) k allowance ≡ found_in q k allowance
  found_moves =
      ap (λ (w : List Waiting). found_of flat l.documents (answer_of (moves_from (score_in ws) (lives_in ws) (k + allowance) k allowance w)))
      (sym (weighted_begin_lem l.levels.height ws (all_within_le l.documents (2 ^ l.levels.height) (documents_fit bytes l o) ws (terms_within q))))

  pub found-answer : found_in q k allowance ≡ weighted_found (contents bytes) q.terms.now k allowance
  found-answer =
      ap (found_of flat l.documents)
      (weighted l.levels.height l.documents (documents_fit bytes l o) ws (terms_within q) k allowance
      ∙ ap (λ (h : ℕ). weighted_top_k ws h l.documents k allowance) (ap (λ (x : Layout). x.levels.height) o.shape))
      ∙ ap (λ (N : ℕ). found_of flat N (weighted_top_k ws (height N) N k allowance)) (sym (documents-are bytes l o))

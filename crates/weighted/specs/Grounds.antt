-- The ground of a weighted search: the tree of an opened archive, with the scores of its nodes by the terms of the question.
use Rattle.std.specs.Prelude.{ℕ, List}
use Rattle.model.specs.Opening.{contents}
use Rattle.model.specs.Queries.{flat}
use Rattle.model.specs.TopK.{Ended, Found, found_of}
use Rattle.model.specs.Search.{answer_of}
use Rattle.model.specs.Weighted.{Weighed, weighed, score_in, lives_in, weighted_moves}
use Rattle.paths.specs.declared.query.Query.{Query}
use Rattle.moves.specs.Ground.{Ground}

-- the terms with their weights
abbrev pub weighed_in : Query → List Weighed
weighed_in q = weighed (contents q.archive.bytes.now) q.terms.now

abbrev pub ground_of : Query → Ground
ground_of q = record {
  height = q.archive.layout.levels.height;
  documents = q.archive.layout.documents;
  count = score_in (weighed_in q);
  lives = lives_in (weighed_in q);
  third = λ n. 0;
  fourth = λ n. 0;
}

-- what is to be found: the answer that is read off the moves. It is the one of `weighted_result` (`model/proofs/Weighted/Theorem`)
abbrev pub found_in : Query → ℕ → ℕ → Found Ended
found_in q k allowance = found_of flat q.archive.layout.documents (answer_of (weighted_moves (weighed_in q) q.archive.layout.levels.height k allowance))

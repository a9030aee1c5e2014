-- The answer that is read off the moves is the one of the definitions.
use Prim.Native.Nat.{ℕ}
use mathlib.Core.Path.{◌≡◌, ap, ◌∙◌}
use Rattle.model.specs.Queries.{flat}
use Rattle.model.specs.TopK.{top_k, found_of}
use Rattle.model.proofs.Greedy.Theorem.{greedy}
use Rattle.search.specs.declared.Search.{Search}
use Rattle.search.specs.Sought.{range_of, entries_of, greedy_pairs}
use Rattle.greedy.specs.Grounds.{found_in}
use Rattle.greedy.proofs.Grounds.{range_within, documents_fit}

pub found-answer : (s : Search) → (k allowance : ℕ)
    → found_in s k allowance ≡ greedy_pairs k allowance (entries_of s)
found-answer s k allowance =
    ap (found_of flat s.documents)
    (greedy s.tree.levels.height s.documents (documents_fit s) (range_of s) (range_within s) k allowance
    ∙ ap (λ (h : ℕ). top_k h s.documents (range_of s) k allowance) s.searchable.high)

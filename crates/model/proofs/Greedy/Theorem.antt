-- The theorem: the answer read off the moves of the greedy search is `top_k`, and what follows from it.
use Prim.Native.Nat.{ℕ, zero, suc, ◌+◌, ◌^◌, ◌≤◌, ◌<◌}
use native.Mathlib.Omega.{arith}
use mathlib.Core.Path.{◌≡◌, refl, sym, ap, ◌∙◌}
use mathlib.Core.List.{List, []}
use mathlib.Core.Bool.{Bool, true, false, not, cond}
use lib.ListN.{length, take, length-take}
use lib.Seq.{take-take}
use lib.Dec.{leb}
use Rattle.bits.specs.Sequences.{tally}
use Rattle.model.specs.Lists.{any, Within}
use Rattle.model.specs.Queries.{Pair}
use Rattle.model.specs.TopK.{Node, node, count_in, full_list, need, covered, done, spent, top_k, pairs_of}
use Rattle.model.specs.Search.{Waiting, is_opening, is_spent, answer_of, wait, moves_from, occupied, search_moves}
use Rattle.model.proofs.Lists.{within_le}
use Rattle.model.proofs.Greedy.Abstract.{Counted, need_by, answer_by, need_for, top_k_of}
use Rattle.model.proofs.Greedy.Moves.{wait-join, moves_visits, answer_moves, toll_of, pairs_in}
use Rattle.model.proofs.Greedy.Order.{root, order, order-ends, order-need, order-ranking}
use Rattle.model.proofs.Greedy.Answers.{answer_by_same, answer_by_mono, figure_of, is_done, figure-answer, done_answer}
use Rattle.model.proofs.Greedy.Counts.{counted, outside, begin-root, top_k-answer_by, top_k_of-top_k}

-- over any count that never rises from a node to its halves, where of the numbers below 2 ^ h only those below N live
pub greedy-of : (count : Node → ℕ) (lives : Node → Bool) → Counted count lives → (h N : ℕ) → N ≤ 2 ^ h
    → ((d : ℕ) → N ≤ d → d < 2 ^ h → lives (node zero d) ≡ false) → (k allowance : ℕ)
    → answer_of (moves_from count lives (k + allowance) k allowance (wait count lives (node h 0) [])) ≡ top_k_of count lives h N k allowance
greedy-of count lives counted h N fits out k allowance =
    let f = k + allowance in
    let ns = order count lives h f in
    ap (λ (w : List Waiting). answer_of (moves_from count lives f k allowance w)) (wait-join count lives (node h 0) [])
    ∙ ap answer_of (moves_visits count lives f (f + 2 ^ suc h) k allowance (root count lives h) (omega arith) (omega arith))
    ∙ answer_moves count k allowance ns (order-ends count lives counted h f)
    ∙ sym (answer_by_same (need_by (need_for count lives h)) (toll_of ns) allowance (take k (pairs_in count ns))
    (λ m l.
    let b : m ≤ k = omega (arith, length-take k (pairs_in count ns)) in
    rw (take-take m k (pairs_in count ns) b) (order-need count lives counted h f m)))
    ∙ ap (λ (ps : List Pair). answer_by (need_by (need_for count lives h)) allowance (take k ps)) (order-ranking count lives counted h f N fits out)

-- for the count of entries
pub greedy : (h N : ℕ) → N ≤ 2 ^ h → (xs : List ℕ) → Within N xs → (k allowance : ℕ)
    → answer_of (search_moves h xs k allowance) ≡ top_k h N xs k allowance
greedy h N fits xs within k allowance =
    ap (λ (w : List Waiting). answer_of (moves_from (count_in xs) (occupied xs) (k + allowance) k allowance w))
    (begin-root h xs (within_le N (2 ^ h) fits xs within))
    ∙ greedy-of (count_in xs) (occupied xs) (counted xs) h N fits (λ d l u. outside N xs within d l) k allowance
    ∙ top_k_of-top_k xs h N k allowance

-- ---- what follows

module _ (h N : ℕ) (fits : N ≤ 2 ^ h) (xs : List ℕ) (within : Within N xs) (k allowance : ℕ) where
  -- the openings figure is the number of moves that opened a node
  pub openings : figure_of (top_k h N xs k allowance) ≡ tally is_opening (search_moves h xs k allowance)
  openings = ap figure_of (sym (greedy h N fits xs within k allowance)) ∙ figure-answer (search_moves h xs k allowance)

  -- no move finds the allowance spent exactly where it covers the need of the full list
  pub done_covered : not (any is_spent (search_moves h xs k allowance)) ≡ leb (need h xs (full_list N k xs)) allowance
  done_covered = sym (done_answer (search_moves h xs k allowance)) ∙ ap is_done (greedy h N fits xs within k allowance) ∙ go (leb cost allowance)
    where
      full : List Pair
      full = full_list N k xs

      cost : ℕ
      cost = need h xs full

      go : (b : Bool) → is_done (cond b (done full cost) (spent (covered h xs allowance full (length full)) allowance)) ≡ b
      go true = refl
      go false = refl

-- a larger allowance never shortens the list
pub top_k_mono : (h N : ℕ) (xs : List ℕ) (k a b : ℕ) → a ≤ b → length (pairs_of (top_k h N xs k a)) ≤ length (pairs_of (top_k h N xs k b))
top_k_mono h N xs k a b l =
    rw (top_k-answer_by xs h N k a, top_k-answer_by xs h N k b) (answer_by_mono (need h xs) (full_list N k xs) a b l)

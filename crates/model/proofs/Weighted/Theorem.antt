-- The theorem: the answer read off the moves of the search over scores is the weighted answer. The weights of a library, and the bounds of its scores.
use Prim.Native.Nat.{ℕ, zero, suc, ◌+◌, ◌-◌, ◌^◌, ◌≤◌}
use lib.Dec.{ltb}
use native.Mathlib.Omega.{arith}
use mathlib.Core.Path.{◌≡◌, refl, sym, ap, ap₂, ◌∙◌, fun_ext}
use mathlib.Core.List.{List, [], ◌∷◌, map}
use mathlib.Core.Bool.{Bool, cond}
use lib.ListN.{length, take, drop, length-map, length-take, length-drop}
use Rattle.bits.specs.Sequences.{tally, up_from, below, occurrences}
use Rattle.bits.proofs.Tally.{tally_le_length, tally-append, up_from-append, length-up_from}
use Rattle.model.specs.Lists.{keep, Within}
use Rattle.model.specs.Format.{Library}
use Rattle.model.specs.Queries.{Pair, term_start, under}
use Rattle.model.specs.TopK.{Node, node, ranking, need_by, answer_by}
use Rattle.model.specs.Search.{Waiting, answer_of, wait, moves_from}
use Rattle.model.specs.Weighted.{Weighed, documents_in, weighed_term, weighed, score_in, lives_in, weighted_need, weighted_top_k, weighted_begin, weighted_moves}
use Rattle.model.proofs.Lists.{within_le, within_part}
use Rattle.model.proofs.Greedy.Abstract.{top_k_of}
use Rattle.model.proofs.Greedy.Counts.{count_leaf, outside}
use Rattle.model.proofs.Greedy.Theorem.{greedy-of}
use Rattle.model.proofs.Weighted.Weights.{weight_le_48}
use Rattle.model.proofs.Weighted.Scores.{AllWithin, scored, score_leaf, lives_leaf, not_living, score-root, lives_root, AllFew, score_lt}

-- ---- the search

pub weighted_begin_lem : (h : ℕ) (ws : List Weighed) → AllWithin (2 ^ h) ws → weighted_begin ws h ≡ wait (score_in ws) (lives_in ws) (node h 0) []
weighted_begin_lem h ws a =
    ap₂ (λ (b : Bool) (c : ℕ). cond b (record { block = node h 0; count = c } ∷ []) []) (sym (lives_root h ws a)) (sym (score-root h ws a))

-- by documents and not by leaves
pub top_k_of_weighted : (ws : List Weighed) (h N k allowance : ℕ)
    → top_k_of (score_in ws) (lives_in ws) h N k allowance ≡ weighted_top_k ws h N k allowance
top_k_of_weighted ws h N k allowance =
    ap₂ (λ (f : ℕ → Pair) (p : ℕ → Bool). answer_by (need_by (weighted_need ws h)) allowance (take k (ranking (map f (keep p (below N))))))
    (fun_ext (λ d. ap (λ (c : ℕ). record { document = d; count = c }) (score_leaf ws d))) (fun_ext (lives_leaf ws))

pub all_within_le : (m n : ℕ) → m ≤ n → (ws : List Weighed) → AllWithin m ws → AllWithin n ws
all_within_le m n l [] a = tt
all_within_le m n l (w ∷ ws) a = (within_le m n l w.entries a.0, all_within_le m n l ws a.1)

module _ (h N : ℕ) (fits : N ≤ 2 ^ h) (ws : List Weighed) (within : AllWithin N ws) where
  pub weighted : (k allowance : ℕ) → answer_of (weighted_moves ws h k allowance) ≡ weighted_top_k ws h N k allowance
  weighted k allowance =
      ap (λ (w : List Waiting). answer_of (moves_from (score_in ws) (lives_in ws) (k + allowance) k allowance w))
      (weighted_begin_lem h ws (all_within_le N (2 ^ h) fits ws within))
      ∙ greedy-of (score_in ws) (lives_in ws) (scored ws) h N fits (λ d l u. not_living N ws within d l) k allowance
      ∙ top_k_of_weighted ws h N k allowance

-- ---- of a library

module _ (lib : Library) (within : Within lib.documents lib.entries) where
  pub weighed_within : (ts : List ℕ) → AllWithin lib.documents (weighed lib ts)
  weighed_within [] = tt
  weighed_within (t ∷ ts) = (within_part lib.documents (term_start lib t) (term_start lib (suc t)) lib.entries within, weighed_within ts)

-- a library has at most 4,096 documents and 65,535 entries
module _ (lib : Library) (documents : lib.documents ≤ 4096) (entries : length lib.entries ≤ 65535) where
  pub weighed_few : (ts : List ℕ) → AllFew 48 65535 (weighed lib ts)
  weighed_few [] = tt
  weighed_few (t ∷ ts) = (
    weight_le_48 lib.documents (documents_in lib.documents (under lib t)) documents,
    omega (
      arith,
      length-take (term_start lib (suc t) - term_start lib t) (drop (term_start lib t) lib.entries),
      length-drop (term_start lib t) lib.entries,
    ),
    weighed_few ts,
  )

  pub weighed-score : (ts : List ℕ) → length ts ≤ 8 → (n : Node) → score_in (weighed lib ts) n ≤ 25165440
  weighed-score ts l n =
      score_lt (weighed lib ts) (omega (arith, length-map ts (weighed_term lib))) (weighed_few ts) n

-- df is at most N
pub documents_le : (N : ℕ) (xs : List ℕ) → documents_in N xs ≤ N
documents_le N xs = omega (arith, tally_le_length (λ d. ltb 0 (occurrences d xs)) (below N), length-up_from 0 N)

-- numbers from N up are no documents, wherever one counts to
pub documents_within : (N M : ℕ) (xs : List ℕ) → N ≤ M → Within N xs → documents_in M xs ≡ documents_in N xs
documents_within N M xs l w =
    let e : N + (M - N) ≡ M = omega arith in
    let z : 0 + N ≡ N = omega arith in
    omega (
      arith,
      ap (λ (m : ℕ). documents_in m xs) (sym e),
      ap (tally found) (up_from-append 0 N (M - N)),
      tally-append found (below N) (up_from (0 + N) (M - N)),
      none (M - N) (0 + N) (omega arith),
    )
  where
    found : ℕ → Bool
    found d = ltb 0 (occurrences d xs)

    none : (n s : ℕ) → N ≤ s → tally found (up_from s n) ≡ 0
    none zero s m = refl
    none (suc n) s m = rw (sym (ap (ltb 0) (count_leaf xs s)) ∙ outside N xs w s m) (omega (arith, none n (suc s) (omega arith)))

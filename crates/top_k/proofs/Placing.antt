-- What a search lists has entries in the range, and their count, so that each document gets its first place there.
use Prim.Native.Nat.{ℕ, ◌*◌, ◌≤◌, min}
use native.Mathlib.Omega.{arith}
use mathlib.Core.Path.{◌≡◌, refl, sym, ap, ◌∙◌, subst}
use mathlib.Core.List.{List}
use mathlib.Core.Bool.{Bool, true, false, cond}
use lib.ListN.{length, take}
use lib.Dec.{leb, ltb, eqb}
use Rattle.std.specs.Prelude.{Ok}
use Rattle.bits.specs.Sequences.{occurrences}
use Rattle.model.specs.Lists.{overwrite}
use Rattle.model.specs.Outcome.{answered}
use Rattle.model.specs.Rows.{height}
use Rattle.model.specs.Queries.{Pair, flat, pairs_in, first_place}
use Rattle.model.specs.TopK.{full_list, need, covered, Answer, done, spent, top_k, Ended, ended_of, pairs_of, with_places, SearchResult, found_into}
use Rattle.model.proofs.Sorting.{every_take}
use Rattle.answers.specs.Spread.{Counted}
use Rattle.answers.proofs.Spreads.{pairs-written, length-written, placed_written}
use Rattle.model.proofs.Listed.{length-full, length-top_k}
use Rattle.moves.specs.declared.Ended as moves
use Rattle.moves.specs.Results.{listed_by, ended_is, result_is, top_k_is}
use Rattle.search.specs.declared.Search.{Search}
use Rattle.search.specs.Sought.{range_of, entries_of, greedy_pairs, probing_pairs, greedy_of, probing_of}
use Rattle.probing.specs.Full.{listed_is}
use Rattle.top_k.specs.Asked.{probed_is}
use Rattle.top_k.proofs.Demand3.FullList.{of_the_range, exact_count, longest_covered}

answered_is : {A : Type 0} {m n : A} → answered m ≡ answered n → m ≡ n
answered_is e = cc

module _ (N k : ℕ) (xs : List ℕ) where
  full-counted : Counted xs (full_list N k xs)
  full-counted = (of_the_range N k xs, exact_count N k xs)

  -- a front part of the full list has no others
  front-counted : (m : ℕ) → Counted xs (take m (full_list N k xs))
  front-counted m = (
    every_take (λ p. ltb 0 (occurrences p.document xs)) m (full_list N k xs) (of_the_range N k xs),
    every_take (λ p. eqb p.count (occurrences p.document xs)) m (full_list N k xs) (exact_count N k xs),
  )

  greedy-counted : (h allowance : ℕ) → Counted xs (pairs_of (top_k h N xs k allowance))
  greedy-counted h allowance = go (leb (need h xs (full_list N k xs)) allowance)
    where
      go : (b : Bool)
          → Counted xs (pairs_of (cond b (done (full_list N k xs) (need h xs (full_list N k xs))) (spent (covered h xs allowance (full_list N k xs) (length (full_list N k xs))) allowance)))
      go true = full-counted
      go false =
          let L = longest_covered h xs allowance (full_list N k xs) (length (full_list N k xs)) in
          subst (Counted xs) (sym L.is) (front-counted L.size)

-- ---- how many are listed

pub listed-length : (a : Answer) → listed_by (ended_of a) ≡ length (pairs_of a)
listed-length (done ps openings) = refl
listed-length (spent ps allowance) = refl

-- ---- what spreading asks of the pairs that a search has left

module _ (N k : ℕ) (few : N ≤ 4096) (xs : List ℕ) (ps : List Pair) (short : length ps ≤ min k N) (out : List ℕ) (room : 3 * min k N ≤ length out) where
  spread_ready : (n : ℕ) → n ≡ length ps → Counted xs ps
      → (3 * n ≤ length (overwrite (flat ps) out)) × (n ≤ 4096) × Counted xs (pairs_in (overwrite (flat ps) out) n)
  spread_ready n e every =
      rw e (omega (arith, length-written ps out (omega arith)), omega arith, subst (Counted xs) (sym (pairs-written ps out)) every)

-- ---- from the pairs of a search to the answer with first places

module _ (s : Search) (k : ℕ) (out work : List ℕ) (room : 3 * min k s.documents ≤ length out) where
  abbrev N : ℕ
  N = s.documents

  abbrev xs : List ℕ
  xs = range_of s

  -- the slice that a search leaves, spread
  module _ (ps : List Pair) (after : List ℕ) (left : after ≡ overwrite (flat ps) out) (n : ℕ) (many : n ≡ length ps) where
    spread : (final : List ℕ) → final ≡ overwrite (with_places s.a xs (pairs_in after n)) after → final ≡ overwrite (with_places s.a xs ps) out
    spread final e =
        e ∙ (λ i. overwrite (with_places s.a xs (pairs_in (left i) (many i))) (left i)) ∙ placed_written ps out (first_place s.a xs)

    ready : length ps ≤ min k N → Counted xs ps → (3 * n ≤ length after) × (n ≤ 4096) × Counted xs (pairs_in after n)
    ready short every = rw left (spread_ready N k s.searchable.few xs ps short out room n many every)

  module _ (allowance : ℕ) (r : moves.Ended) (after working : List ℕ)
      (promise : result_is r after working ≡ found_into out work (answered (greedy_pairs k allowance (entries_of s)))) (n : ℕ) (many : n ≡ listed_by (ended_is r)) where
    abbrev answer : Answer
    answer = top_k (height N) N xs k allowance

    left : after ≡ overwrite (flat (pairs_of answer)) out
    left = ap (λ (x : SearchResult Ended). x.answers) promise

    ended : ended_is r ≡ ended_of answer
    ended = answered_is (ap (λ (x : SearchResult Ended). x.outcome) promise)

    listed_is_lem : n ≡ length (pairs_of answer)
    listed_is_lem = many ∙ ap listed_by ended ∙ listed-length answer

    pub greedy_ready : (3 * n ≤ length after) × (n ≤ 4096) × Counted xs (pairs_in after n)
    greedy_ready = ready (pairs_of answer) after left n listed_is_lem (length-top_k (height N) N xs k allowance) (greedy-counted N k xs (height N) allowance)

    pub greedy_placed : (final : List ℕ) → final ≡ overwrite (with_places s.a xs (pairs_in after n)) after
        → top_k_is (Ok r) final working ≡ found_into out work (answered (greedy_of k allowance (entries_of s)))
    greedy_placed final e = λ i. record {
      outcome = answered (ended i);
      answers = spread (pairs_of answer) after left n listed_is_lem final e i;
      work = ap (λ (x : SearchResult Ended). x.work) promise i;
    }

  module _ (n : ℕ) (after working : List ℕ) (promise : listed_is n after working ≡ found_into out work (answered (probing_pairs k (entries_of s)))) where
    abbrev full : List Pair
    full = full_list N k xs

    full-left : after ≡ overwrite (flat full) out
    full-left = ap (λ (x : SearchResult ℕ). x.answers) promise

    full-listed : n ≡ length full
    full-listed = answered_is (ap (λ (x : SearchResult ℕ). x.outcome) promise)

    full-short : length full ≤ min k N
    full-short = length-full N k xs

    pub probing_few : n ≤ 4096
    probing_few = omega (arith, full-listed, full-short, s.searchable.few)

    pub probing_ready : (3 * n ≤ length after) × (n ≤ 4096) × Counted xs (pairs_in after n)
    probing_ready = ready full after full-left n full-listed full-short (full-counted N k xs)

    pub probing_placed : (final : List ℕ) → final ≡ overwrite (with_places s.a xs (pairs_in after n)) after
        → probed_is (Ok n) final working ≡ found_into out work (answered (probing_of k (entries_of s)))
    probing_placed final e = λ i. record {
      outcome = answered (full-listed i);
      answers = spread full after full-left n full-listed final e i;
      work = ap (λ (x : SearchResult ℕ). x.work) promise i;
    }

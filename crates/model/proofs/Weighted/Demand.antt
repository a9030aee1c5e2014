-- M-100 as one theorem: `weighted_result` yields the record of its sentences (`specs/WeightedDemand`).
use Prim.Native.Nat.{ℕ, suc, ◌+◌, ◌*◌, ◌^◌, ◌≤◌, ◌<◌, min}
use native.Mathlib.Omega.{arith}
use native.Mathlib.Nat.{zero-add}
use mathlib.Core.Path.{◌≡◌, refl, sym, ap, ap₂, ◌∙◌, fun_ext}
use mathlib.Core.Logic.{◌⊎◌, inl, inr}
use mathlib.Core.List.{List, [], ◌∷◌, map-map}
use mathlib.Core.Bool.{Bool, true, false, ◌&&◌, ◌||◌}
use lib.ListN.{length, get_or, take}
use lib.Dec.{leb, ltb, eqb}
use borrow.Author.Tests.{lt-ltb, le-ltb, ne_eqb}
use Rattle.bits.specs.Sequences.{bit, tally, below, occurrences}
use Rattle.bits.specs.Bits.{sum}
use Rattle.bits.proofs.Tests.{le_or_lt, bit_eq}
use Rattle.bits.proofs.Tally.{tally_none, length-up_from, get_or-up_from}
use Rattle.model.specs.Lists.{any, Within}
use Rattle.model.specs.Outcome.{answered, refuse}
use Rattle.model.specs.Rows.{height}
use Rattle.model.specs.Format.{Library, Sizes}
use Rattle.model.specs.Opening.{contents, opening}
use Rattle.model.specs.Queries.{Pair, flat, term_start, under}
use Rattle.model.specs.TopK.{Node, node, start, count_in, inner_nodes, need_by, answer_by, Answer, Ended, found_of, found_into, SearchResult}
use Rattle.model.specs.Search.{wait, moves_from}
use Rattle.model.specs.Weighted.{Weighed, documents_in, weight, weighed_term, weighed, score_of, is_found, score_in, lives_in, weighted_top_k, weighted_moves, weighted_found, weighted_result}
use Rattle.model.specs.Demand3.{Room}
use Rattle.model.specs.RarestFirst.{rarest_first, RarestFirst}
use Rattle.model.specs.WeightedDemand.{WeightedDemand, has_entry, node_has_entry, score, node_score}
use Rattle.model.proofs.Lists.{within_part, tally-take_lt}
use Rattle.model.proofs.Any.{any-map}
use Rattle.model.proofs.Height.{le_pow-height}
use Rattle.model.proofs.Format.Valid.{any_within}
use Rattle.model.proofs.Format.WriteBack as opened
use Rattle.model.proofs.RarestFirst.Order.{rarest_first_lem}
use Rattle.model.proofs.FullList.{full_by, exactly_k, different, all_pass, exact_count, in_order, others_after}
use Rattle.model.proofs.Covering as covering
use Rattle.model.proofs.Greedy.Answers.{figure_of, figure-answer}
use Rattle.model.proofs.Weighted.Weights.{weight-largest}
use Rattle.model.proofs.Weighted.Scores.{lives_leaf, not_living}
use Rattle.model.proofs.Weighted.Theorem.{weighted_begin_lem, all_within_le, weighted, weighed_within, documents_le}

-- ---- weights

-- where there are entries, some document has one
documents_some : (N : ℕ) (xs : List ℕ) → Within N xs → 0 < length xs → 1 ≤ documents_in N xs
documents_some N [] w l = absurd (omega arith)
documents_some N (x ∷ xs) w l =
    let here : has (get_or (below N) x 0) ≡ true
    = ap has (get_or-up_from 0 N x 0 w.0 ∙ zero-add x) ∙ lt-ltb 0 (occurrences x (x ∷ xs)) (omega (arith, bit_eq x x refl)) in
    omega (arith, tally-take_lt has (below N) x 0 (let h = w.0 in omega (arith, length-up_from 0 N)) here)
  where
    has : ℕ → Bool
    has d = ltb 0 (occurrences d (x ∷ xs))

-- where there are none, none has
documents_none : (N : ℕ) (xs : List ℕ) → length xs ≡ 0 → documents_in N xs ≡ 0
documents_none N [] e = tally_none (λ d. ltb 0 (occurrences d [])) (λ d. refl) (below N)
documents_none N (x ∷ xs) e = absurd (omega arith)

-- ---- scores, term by term

module _ (lib : Library) (terms : List ℕ) where
  abbrev N : ℕ
  N = lib.documents

  abbrev h : ℕ
  h = height N

  abbrev ws : List Weighed
  ws = weighed lib terms

  abbrev weight_of : ℕ → ℕ
  weight_of t = weight N (documents_in N (under lib t))

  abbrev total : ℕ → ℕ
  total = score lib terms weight_of

  abbrev has : ℕ → Bool
  has = has_entry lib terms

  abbrev node_total : Node → ℕ
  node_total = node_score lib terms weight_of

  abbrev node_has : Node → Bool
  node_has = node_has_entry lib terms

  abbrev need : List Pair → ℕ
  need =
      need_by
      (λ p. tally (λ n. node_has n && (ltb p.count (node_total n) || eqb (node_total n) p.count && leb (start n) p.document)) (inner_nodes h))

  total_is : score_of ws ≡ total
  total_is = fun_ext (λ d. ap sum (map-map (λ w. w.weight * occurrences d w.entries) (weighed_term lib) terms))

  has_is : is_found ws ≡ has
  has_is = fun_ext (λ d. any-map (λ w. ltb 0 (occurrences d w.entries)) (weighed_term lib) terms)

  node_total_is : score_in ws ≡ node_total
  node_total_is = fun_ext (λ n. ap sum (map-map (λ w. w.weight * count_in w.entries n) (weighed_term lib) terms))

  node_has_is : lives_in ws ≡ node_has
  node_has_is = fun_ext (λ n. any-map (λ w. ltb 0 (count_in w.entries n)) (weighed_term lib) terms)

  answer_is : (k allowance : ℕ) → weighted_top_k ws h N k allowance ≡ answer_by need allowance (full_by N k total has)
  answer_is k allowance i =
      let needAt : Pair → ℕ
      = λ p.
      tally (λ n. node_has_is i n && (ltb p.count (node_total_is i n) || eqb (node_total_is i n) p.count && leb (start n) p.document)) (inner_nodes h) in
      answer_by (need_by needAt) allowance (full_by N k (total_is i) (has_is i))

  module _ (within : Within N lib.entries) where
    under_within : (t : ℕ) → Within N (under lib t)
    under_within t = within_part N (term_start lib t) (term_start lib (suc t)) lib.entries within

    -- numbers from N up have no entry
    has_lt : (d : ℕ) → has d ≡ true → d < N
    has_lt d e = go (le_or_lt N d)
      where
        go : (N ≤ d) ⊎ (d < N) → d < N
        go (inl l) =
            let none : is_found ws d ≡ false = sym (lives_leaf ws d) ∙ not_living N ws (weighed_within lib within terms) d l in
            absurd (omega (arith, ap bit (sym e ∙ ap (λ (f : ℕ → Bool). f d) (sym has_is) ∙ none)))
        go (inr l) = l

    -- ---- what is found

    module _ (k allowance : ℕ) (out work : List ℕ) (r : SearchResult Ended)
        (promise : r ≡ found_into out work (answered (weighted_found lib terms k allowance))) (given : List ℕ) (once : RarestFirst lib given terms) where
      abbrev full : List Pair
      full = full_by N k total has

      by_need : r ≡ found_into out work (answered (found_of flat N (answer_by need allowance full)))
      by_need = promise ∙ ap (λ (a : Answer). found_into out work (answered (found_of flat N a))) (answer_is k allowance)

      found : WeightedDemand lib given k allowance out work r
      found =
          let L = covering.longest_front need refl allowance full in
          record {
            terms = terms;
            terms_rarest_first = once;
            weight_of = weight_of;
            weighs = λ t l. weight-largest N (documents_in N (under lib t)) (documents_some N (under lib t) (under_within t) l) (documents_le N (under lib t));
            weighs_none = λ t e. ap (weight N) (documents_none N (under lib t) e);
            full = full;
            exactly_k = exactly_k N k total has;
            different = different N k total has;
            of_the_terms = all_pass N k total has;
            exact_score = exact_count N k total has;
            in_order = in_order N k total has;
            others_after = λ d e. others_after N k total has d (has_lt d e) e;
            need_of = need;
            needs = λ p ps. refl;
            needs_none = refl;
            done = covering.left_done flat need refl allowance full N out work r by_need;
            exactly_when = covering.done_exactly flat need refl allowance full N out work r by_need;
            front = L.size;
            front_part = L.within;
            front_covered = L.covers;
            front_longest = L.longest;
            spent = covering.left_spent flat need refl allowance full N out work r by_need;
            moves = weighted_moves ws h k allowance;
            openings = covering.left-figure flat need refl allowance full N out work r by_need
                ∙ ap figure_of (sym (answer_is k allowance) ∙ sym (weighted h N (le_pow-height N) ws (weighed_within lib within terms) k allowance))
                ∙ figure-answer (weighted_moves ws h k allowance);
            moves_are = refl;
            moves_begin = ap (moves_from (score_in ws) (lives_in ws) (k + allowance) k allowance)
                (weighted_begin_lem h ws (all_within_le N (2 ^ h) (le_pow-height N) ws (weighed_within lib within terms)))
                ∙ ap₂ (λ (c : Node → ℕ) (l : Node → Bool). moves_from c l (k + allowance) k allowance (wait c l (node h 0) [])) node_total_is node_has_is;
            working = covering.left_work flat need refl allowance full N out work r by_need;
          }

-- ---- the theorem

-- for every accepted archive `bytes`, one to eight terms that it has, k and allowance, and whatever stands in lent slices as long as document 01 asks
module _ (bytes : List ℕ) (s : Sizes) (archive : opening bytes ≡ answered s) (numbers : List ℕ) (size : ℕ) (some : 1 ≤ size) (few : size ≤ 8)
    (known : Within (length (contents bytes).lengths) (take size numbers)) (k allowance : ℕ) (out work : List ℕ)
    (room : Room 2 (contents bytes).documents k out work) where
  abbrev held : Library
  held = contents bytes

  abbrev terms : List ℕ
  terms = take size numbers

  not_refused : weighted_result bytes numbers size k allowance out work ≡ found_into out work (answered (weighted_found held (rarest_first held terms) k allowance))
  not_refused =
      let none : eqb size 0 ≡ false = ne_eqb size 0 (λ e. omega arith) in
      let more : ltb 8 size ≡ false = le-ltb 8 size few in
      let past : any (leb (length held.lengths)) terms ≡ false = any_within (length held.lengths) terms known in
      let short : ltb (length out) (2 * min k held.documents) ≡ false = le-ltb (length out) (2 * min k held.documents) room.answers in
      let tight : ltb (length work) (4 * held.documents) ≡ false = le-ltb (length work) (4 * held.documents) room.working in
      rw archive
      (λ i.
      found_into out work
      (refuse 10 (none i || more i)
      (refuse 11 (past i) (refuse 12 (short i) (refuse 13 (tight i) (answered (weighted_found held (rarest_first held terms) k allowance)))))))

  pub weighted_demand : (r : SearchResult Ended) → r ≡ weighted_result bytes numbers size k allowance out work
      → WeightedDemand (contents bytes) (take size numbers) k allowance out work r
  weighted_demand r promise =
      found held (rarest_first held terms) (opened.accepted bytes s archive).0.within k allowance out work r (promise ∙ not_refused) terms (rarest_first_lem held terms)

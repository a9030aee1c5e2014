-- Demand 2, its second sentence, over what the questions promise: each answers over the plain list of a library, as the cited papers have it.
-- An accepted archive answers over what it holds, and one that was written over the library that was given to the writer.
use Prim.Native.Nat.{ℕ, suc, ◌-◌, ◌*◌, ◌≤◌, ◌<◌}
use native.Mathlib.Omega.{arith}
use mathlib.Core.Path.{◌≡◌, sym, ap, ap₂, ◌∙◌}
use mathlib.Core.List.{List}
use mathlib.Core.Bool.{Bool, ◌||◌}
use lib.ListN.{length, get_or, take}
use lib.Dec.{leb, ltb}
use borrow.Author.Tests.{le-ltb, lt-leb, ne_eqb}
use Rattle.bits.specs.Sequences.{occurrences, rank, select}
use Rattle.bits.proofs.Sequences.{select_is_place}
use Rattle.model.specs.Lists.{part, overwrite}
use Rattle.model.specs.Outcome.{Outcome, answered, refuse, and_then}
use Rattle.model.specs.Format.{Library}
use Rattle.model.specs.Distinct.{distinct}
use Rattle.model.specs.Queries.{Range, of_entries, of_terms, Bounds, bounds_of, term_start, quantile, Pair, flat, PairsResult, pairs_into, Placed, first_place, flat_placed, placed_into, access_result, rank_result, select_result, quantile_result, list_result, conjunction_result}
use Rattle.model.specs.Papers.{listed, intersection}
use Rattle.model.proofs.Lists.{length_part}
use Rattle.model.proofs.Format.Valid.{any_within}
use Rattle.model.specs.Demand2.{AnswersOver}
use Rattle.std.specs.Prelude.{Result, Ok, Err}
use Rattle.refusals.specs.declared.Refusal.{Refusal}
use Rattle.answers.specs.Answers.{number_of, pairs_of}
use Rattle.paths.specs.declared.terms.Terms.{Terms}
use Rattle.paths.specs.Chosen.{Asked}

-- so many pairs are answered; they stand in the front of the answers, and the rest is untouched
pub record Pairs (ps : List Pair) (r : Result ℕ Refusal) (before after : List ℕ) : Type 0 where
  pub how_many : r ≡ Ok (length ps)
  pub stored : after ≡ overwrite (flat ps) before

number_is : (r : Result ℕ Refusal) (n : ℕ) → number_of r ≡ answered n → r ≡ Ok n
number_is (Ok x) n e = cc
number_is (Err refusal) n e = let z : ◌≡◌ {A = ℕ} 0 1 = cc in absurd (omega arith)

pairs-are : (ps : List Pair) (r : Result ℕ Refusal) (before after : List ℕ) → pairs_of r after ≡ pairs_into before (answered ps) → Pairs ps r before after
pairs-are ps r before after e = record {
  how_many = number_is r (length ps) (ap (λ (p : PairsResult). p.outcome) e);
  stored = ap (λ (p : PairsResult). p.answers) e;
}

-- the same with their places, three numbers a document (M-108)
pub record PlacedPairs (ps : Placed) (r : Result ℕ Refusal) (before after : List ℕ) : Type 0 where
  pub how_many : r ≡ Ok (length ps.pairs)
  pub stored : after ≡ overwrite (flat_placed ps.place ps.pairs) before

placed_are : (ps : Placed) (r : Result ℕ Refusal) (before after : List ℕ) → pairs_of r after ≡ placed_into before (answered ps) → PlacedPairs ps r before after
placed_are ps r before after e = record {
  how_many = number_is r (length ps.pairs) (ap (λ (p : PairsResult). p.outcome) e);
  stored = ap (λ (p : PairsResult). p.answers) e;
}

-- no refusal of a range applies
module _ (lib : Library) where
  entries_inside : (a b : ℕ) → a ≤ b → b ≤ length lib.entries → bounds_of lib (of_entries a b) ≡ answered (record { from = a; to = b })
  entries_inside a b order inside =
      ap₂ (λ (c d : Bool). refuse 11 (c || d) (answered (record { from = a; to = b }))) (le-ltb b a order) (le-ltb (length lib.entries) b inside)

  terms_inside : (f l : ℕ) → f ≤ l → l < length lib.lengths
      → bounds_of lib (of_terms f l) ≡ answered (record { from = term_start lib f; to = term_start lib (suc l) })
  terms_inside f l order known = λ i.
      refuse 11 (le-ltb l f order i || lt-leb (length lib.lengths) f (omega arith) i || lt-leb (length lib.lengths) l known i)
      (answered (record { from = term_start lib f; to = term_start lib (suc l) }))

module _ (bytes : List ℕ) (lib : Library) (over : AnswersOver bytes lib) where
  abbrev xs : List ℕ
  xs = lib.entries

  -- access: the entry at a place
  pub entry : (p : ℕ) (r : Result ℕ Refusal) → number_of r ≡ access_result bytes p → p < length xs → r ≡ Ok (get_or xs p 0)
  entry p r promise l =
      number_is r (get_or xs p 0) (promise ∙ over.entries p ∙ ap (λ (c : Bool). refuse 11 c (answered (get_or xs p 0))) (lt-leb (length xs) p l))

  -- rank: "Counts .."
  pub count : (d p : ℕ) (r : Result ℕ Refusal) → number_of r ≡ rank_result bytes d p → d < lib.documents → p ≤ length xs → r ≡ Ok (rank d xs p)
  count d p r promise known l =
      number_is r (rank d xs p)
      (promise ∙ over.counts d p
      ∙ ap₂ (λ (b c : Bool). refuse 11 (b || c) (answered (rank d xs p))) (lt-leb lib.documents d known) (le-ltb (length xs) p l))

  -- select: ".. places .."
  pub place : (d j : ℕ) (r : Result ℕ Refusal) → number_of r ≡ select_result bytes d j → d < lib.documents → 1 ≤ j → r ≡ Ok (select d xs j)
  place d j r promise known l =
      number_is r (select d xs j)
      (promise ∙ over.places d j
      ∙ ap₂ (λ (b c : Bool). refuse 11 (b || c) (answered (select d xs j))) (lt-leb lib.documents d known) (ne_eqb j 0 (λ e. omega arith)))

  -- "The place question now answers n where it answered 'none'" (M-102): where there are fewer than j, and only there
  pub place-missing : (d j : ℕ) (r : Result ℕ Refusal) → number_of r ≡ select_result bytes d j → d < lib.documents → 1 ≤ j → occurrences d xs < j
      → r ≡ Ok (length xs)
  place-missing d j r promise known l few = place d j r promise known l ∙ ap Ok ((select_is_place d xs j l).missing few)

  pub place-at-end : (d j : ℕ) (r : Result ℕ Refusal) → number_of r ≡ select_result bytes d j → d < lib.documents → 1 ≤ j → r ≡ Ok (length xs)
      → occurrences d xs < j
  place-at-end d j r promise known l end =
      let e : Ok (select d xs j) ≡ Ok (length xs) = sym (place d j r promise known l) ∙ end in
      let n : select d xs j ≡ length xs = cc in
      (select_is_place d xs j l).only_missing n

  -- quantile and quantile_terms: ".. ranks .."
  rank_in : (range : Range) (z : Bounds) → bounds_of lib range ≡ answered z → (t : ℕ) (r : Result ℕ Refusal) → number_of r ≡ quantile_result bytes range t
      → t < length (part z.from z.to xs) → r ≡ Ok (quantile t (part z.from z.to xs))
  rank_in range z inside t r promise l =
      let ys : List ℕ = part z.from z.to xs in
      number_is r (quantile t ys)
      (promise ∙ over.ranks range t
      ∙ ap (λ (o : Outcome Bounds). and_then (and_then o (λ y. answered (part y.from y.to xs))) (λ zs. refuse 11 (leb (length zs) t) (answered (quantile t zs)))) inside
      ∙ ap (λ (c : Bool). refuse 11 c (answered (quantile t ys))) (lt-leb (length ys) t l))

  pub rank_in_entries : (a b t : ℕ) (r : Result ℕ Refusal) → number_of r ≡ quantile_result bytes (of_entries a b) t → a ≤ b → b ≤ length xs → t < b - a
      → r ≡ Ok (quantile t (part a b xs))
  rank_in_entries a b t r promise order inside l =
      rank_in (of_entries a b) (record { from = a; to = b }) (entries_inside lib a b order inside) t r promise (omega (arith, length_part a b xs inside))

  pub rank_in_terms : (f l t : ℕ) (r : Result ℕ Refusal) → number_of r ≡ quantile_result bytes (of_terms f l) t → f ≤ l → l < length lib.lengths
      → t < length (part (term_start lib f) (term_start lib (suc l)) xs) → r ≡ Ok (quantile t (part (term_start lib f) (term_start lib (suc l)) xs))
  rank_in_terms f l t r promise order known i =
      rank_in (of_terms f l) (record { from = term_start lib f; to = term_start lib (suc l) }) (terms_inside lib f l order known) t r promise i

  -- list and list_terms: ".. listings ..", with the first places (M-108; `first_places` of `AnswersOver` says that each is a select)
  abbrev listed_in : Bounds → Placed
  listed_in z = record { pairs = listed xs z.from z.to; place = first_place z.from (part z.from z.to xs) }

  listing_in : (range : Range) (z : Bounds) → bounds_of lib range ≡ answered z → (r : Result ℕ Refusal) (before after : List ℕ)
      → pairs_of r after ≡ list_result bytes range before → 3 * lib.documents ≤ length before → PlacedPairs (listed_in z) r before after
  listing_in range z inside r before after promise room =
      placed_are (listed_in z) r before after
      (promise ∙ over.listings range before
      ∙ ap (λ (o : Outcome Bounds). placed_into before (and_then o (λ y. refuse 12 (ltb (length before) (3 * lib.documents)) (answered (listed_in y))))) inside
      ∙ ap (λ (c : Bool). placed_into before (refuse 12 c (answered (listed_in z)))) (le-ltb (length before) (3 * lib.documents) room))

  pub listing-of-entries : (a b : ℕ) (r : Result ℕ Refusal) (before after : List ℕ) → pairs_of r after ≡ list_result bytes (of_entries a b) before
      → a ≤ b → b ≤ length xs → 3 * lib.documents ≤ length before → PlacedPairs (listed_in (record { from = a; to = b })) r before after
  listing-of-entries a b r before after promise order inside room =
      listing_in (of_entries a b) (record { from = a; to = b }) (entries_inside lib a b order inside) r before after promise room

  pub listing-of-terms : (f l : ℕ) (r : Result ℕ Refusal) (before after : List ℕ) → pairs_of r after ≡ list_result bytes (of_terms f l) before
      → f ≤ l → l < length lib.lengths → 3 * lib.documents ≤ length before
      → PlacedPairs (listed_in (record { from = term_start lib f; to = term_start lib (suc l) })) r before after
  listing-of-terms f l r before after promise order known room =
      listing_in (of_terms f l) (record { from = term_start lib f; to = term_start lib (suc l) }) (terms_inside lib f l order known) r before after promise room

  -- conjunction: ".. and the all-words question"
  pub all-terms : (q : Terms) (r : Result ℕ Refusal) (before after : List ℕ) → pairs_of r after ≡ conjunction_result bytes q.numbers q.size before
      → length q.numbers ≡ 8 → Asked (length lib.lengths) q → 2 * lib.documents ≤ length before
      → Pairs (intersection lib (distinct (take q.size q.numbers))) r before after
  all-terms q r before after promise eight a room =
      let terms : List ℕ = take q.size q.numbers in
      let some : q.size ≡ 0 → ⊥ = λ e. let l = a.some in omega arith in
      pairs-are (intersection lib (distinct terms)) r before after
      (promise ∙ over.conjunctions q.numbers q.size before (omega arith)
      ∙ (λ i.
      pairs_into before
      (refuse 10 (ne_eqb q.size 0 some i || le-ltb 8 q.size a.few i)
      (refuse 11 (any_within (length lib.lengths) terms a.known i)
      (refuse 12 (le-ltb (length before) (2 * lib.documents) room i) (answered (intersection lib (distinct terms))))))))

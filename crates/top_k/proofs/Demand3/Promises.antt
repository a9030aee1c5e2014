-- Demand 3, sentence by sentence, of what both searches promise where a question is accepted: `x` is what is searched.
use Prim.Native.Nat.{ℕ, ◌*◌, ◌≤◌, ◌<◌}
use mathlib.Core.Path.{◌≡◌, refl, sym, ap, ap₂, ◌∙◌}
use mathlib.Core.List.{List}
use lib.ListN.{length, take, drop, replicate}
use lib.Seq.{take-append_seam}
use lib.Dec.{leb}
use Rattle.bits.specs.Sequences.{tally}
use Rattle.model.specs.Lists.{overwrite, Within}
use Rattle.model.specs.Outcome.{Outcome, answered, refused, and_then}
use Rattle.model.specs.Rows.{height}
use Rattle.model.specs.Queries.{Pair, Range, first_place}
use Rattle.model.specs.TopK.{full_list, need, covered_by, answer_by, Answer, top_k, Ended, done_with, spent_with, pairs_of, SearchResult, found_of, with_places, found_into, greedy_result, probing_result}
use Rattle.model.specs.Search.{is_opening, search_moves}
use Rattle.model.specs.Demand3.{is_done, figure}
use Rattle.model.proofs.Height.{le_pow-height}
use Rattle.model.proofs.FirstPlaces.{length-flat_placed}
use Rattle.model.proofs.Covering as any-need
use Rattle.model.proofs.Covering.{Longest, longest_front}
use Rattle.model.proofs.Greedy.Answers.{figure_of}
use Rattle.model.proofs.Greedy.Counts.{top_k-answer_by}
use Rattle.model.proofs.Greedy.Theorem.{openings, top_k_mono}
use Rattle.search.specs.Sought.{Asked, greedy_of, probing_of}
use Rattle.top_k.specs.Asked.{asked}
use Rattle.moves.specs.Results.{listed_by}
use Rattle.top_k.proofs.Asking.{search_asked}
use Rattle.top_k.proofs.Placing.{listed-length}

-- ---- an accepted question

-- pairs as they are written, with their first places in what is searched
abbrev pub written : Asked → List Pair → List ℕ
written x = with_places x.from x.entries

module _ (k : ℕ) (x : Asked) where
  abbrev pub full : List Pair
  full = full_list x.documents k x.entries

  abbrev pub needed : List Pair → ℕ
  needed = need (height x.documents) x.entries

  abbrev pub cost : ℕ
  cost = needed full

  -- the longest front part of the full list whose own need the allowance covers
  abbrev pub front : (allowance : ℕ) → Longest needed allowance full (length full) (covered_by needed allowance full (length full))
  front allowance = longest_front needed refl allowance full

-- what the public operations promise is what is found: the statements below are about that
module _ (bytes : List ℕ) (range : Range) (k : ℕ) (out work : List ℕ) (x : Asked) (accepted : asked bytes range k (length out) (length work) ≡ answered x) where
  pub greedy_accepted : (allowance : ℕ) → greedy_result bytes range k allowance out work ≡ found_into out work (answered (greedy_of k allowance x))
  greedy_accepted allowance =
      search_asked bytes range k out work (λ N from xs. greedy_of k allowance (record { documents = N; from = from; entries = xs }))
      ∙ ap (λ (o : Outcome Asked). found_into out work (and_then o (λ y. answered (greedy_of k allowance y)))) accepted

  pub probing_accepted : probing_result bytes range k out work ≡ found_into out work (answered (probing_of k x))
  probing_accepted =
      search_asked bytes range k out work (λ N from xs. probing_of k (record { documents = N; from = from; entries = xs }))
      ∙ ap (λ (o : Outcome Asked). found_into out work (and_then o (λ y. answered (probing_of k y)))) accepted

-- ---- what an answer says

-- how many pairs it lists
abbrev pub listed : Outcome Ended → ℕ
listed (answered e) = listed_by e
listed (refused number) = 0

-- ---- the greedy search

module _ (k allowance : ℕ) (x : Asked) (out work : List ℕ) (r : SearchResult Ended) (promise : r ≡ found_into out work (answered (greedy_of k allowance x))) where
  abbrev N : ℕ
  N = x.documents

  by_need : r ≡ found_into out work (answered (found_of (written x) N (answer_by (needed k x) allowance (full k x))))
  by_need = promise ∙ ap (λ (a : Answer). found_into out work (answered (found_of (written x) N a))) (top_k-answer_by x.entries (height N) N k allowance)

  -- "The shortlist answers 'done' with the full list and its need exactly when the allowance covers that need"
  pub done_exactly : is_done r.outcome ≡ leb (cost k x) allowance
  done_exactly = any-need.done_exactly (written x) (needed k x) refl allowance (full k x) N out work r by_need

  pub greedy_done : cost k x ≤ allowance
      → (r.outcome ≡ answered (done_with (length (full k x)) (cost k x))) × (r.answers ≡ overwrite (written x (full k x)) out)
  greedy_done = any-need.left_done (written x) (needed k x) refl allowance (full k x) N out work r by_need

  -- "and otherwise 'spent' with the allowance and the longest front part of the full list whose own need it covers"
  pub greedy_spent : allowance < cost k x
      → (r.outcome ≡ answered (spent_with (front k x allowance).size allowance)) × (r.answers ≡ overwrite (written x (take (front k x allowance).size (full k x))) out)
  greedy_spent = any-need.left_spent (written x) (needed k x) refl allowance (full k x) N out work r by_need

  -- "Either number is how many moves opened a block"
  pub greedy_openings : Within N x.entries → figure r.outcome ≡ tally is_opening (search_moves (height N) x.entries k allowance)
  greedy_openings within =
      any-need.left-figure (written x) (needed k x) refl allowance (full k x) N out work r by_need
      ∙ ap figure_of (sym (top_k-answer_by x.entries (height N) N k allowance))
      ∙ openings (height N) N (le_pow-height N) x.entries within k allowance

  -- the first 4 * N numbers of the work slice are 0, and the rest is untouched
  pub greedy_work : r.work ≡ overwrite (replicate (4 * N) 0) work
  greedy_work = any-need.left_work (written x) (needed k x) refl allowance (full k x) N out work r by_need

  pub greedy-listed : listed r.outcome ≡ length (pairs_of (top_k (height N) N x.entries k allowance))
  greedy-listed = ap (λ (y : SearchResult Ended). listed y.outcome) promise ∙ listed-length (top_k (height N) N x.entries k allowance)

-- a larger allowance never shortens the list, whatever is lent
pub never_shorter : (k a b : ℕ) (x : Asked) (out work out' work' : List ℕ) (r s : SearchResult Ended)
    → r ≡ found_into out work (answered (greedy_of k a x)) → s ≡ found_into out' work' (answered (greedy_of k b x)) → a ≤ b
    → listed r.outcome ≤ listed s.outcome
never_shorter k a b x out work out' work' r s p q l =
    rw (greedy-listed k a x out work r p, greedy-listed k b x out' work' s q) (top_k_mono (height x.documents) x.documents x.entries k a b l)

-- ---- probing

module _ (k : ℕ) (x : Asked) (out work : List ℕ) (r : SearchResult ℕ) (promise : r ≡ found_into out work (answered (probing_of k x))) where
  -- "The probing shortlist, which has no allowance, answers the full list"
  pub probing-full : (r.outcome ≡ answered (length (full k x))) × (r.answers ≡ overwrite (written x (full k x)) out)
  probing-full = (ap (λ (y : SearchResult ℕ). y.outcome) promise, ap (λ (y : SearchResult ℕ). y.answers) promise)

  pub probing_work : r.work ≡ overwrite (replicate (4 * x.documents) 0) work
  probing_work = ap (λ (y : SearchResult ℕ). y.work) promise

-- ---- both

-- both searches answer the same full list, where the allowance covers its need
module _ (k allowance : ℕ) (x : Asked) (covers : cost k x ≤ allowance) (out work out' work' : List ℕ)
    (g : SearchResult Ended) (greedily : g ≡ found_into out work (answered (greedy_of k allowance x)))
    (p : SearchResult ℕ) (probing : p ≡ found_into out' work' (answered (probing_of k x))) where
  -- so many pairs
  pub both_count : (g.outcome ≡ answered (done_with (length (full k x)) (cost k x))) × (p.outcome ≡ answered (length (full k x)))
  both_count = ((greedy_done k allowance x out work g greedily covers).0, (probing-full k x out' work' p probing).0)

  -- the same numbers, whatever stood in the slices
  pub both_numbers : take (3 * length (full k x)) g.answers ≡ take (3 * length (full k x)) p.answers
  both_numbers = seam out g.answers (greedy_done k allowance x out work g greedily covers).1 ∙ sym (seam out' p.answers (probing-full k x out' work' p probing).1)
    where
      seam : (before after : List ℕ) → after ≡ overwrite (written x (full k x)) before → take (3 * length (full k x)) after ≡ written x (full k x)
      seam before after e =
          ap₂ (λ (n : ℕ) (l : List ℕ). take n l) (sym (length-flat_placed (first_place x.from x.entries) (full k x))) e ∙ take-append_seam (written x (full k x)) (drop (length (written x (full k x))) before)

  -- the same slices, where the same were lent
  pub both_slices : out ≡ out' → work ≡ work' → (g.answers ≡ p.answers) × (g.work ≡ p.work)
  both_slices e f = (
    (greedy_done k allowance x out work g greedily covers).1 ∙ ap (overwrite (written x (full k x))) e ∙ sym (probing-full k x out' work' p probing).1,
    greedy_work k allowance x out work g greedily ∙ ap (overwrite (replicate (4 * x.documents) 0)) f ∙ sym (probing_work k x out' work' p probing),
  )

-- Demand 3 as one theorem: the promises of the operations yield the record of its sentences.
use Prim.Native.Nat.{ℕ, suc, ◌*◌, ◌≤◌, ◌<◌, min}
use native.Mathlib.Omega.{arith}
use mathlib.Core.Path.{◌≡◌, ap, ap₂, ◌∙◌}
use mathlib.Core.List.{List}
use mathlib.Core.Bool.{Bool, ◌||◌}
use lib.ListN.{length}
use borrow.Author.Tests.{le-ltb, lt-leb}
use Rattle.model.specs.Lists.{part, Within}
use Rattle.model.specs.Outcome.{Outcome, answered, refuse, and_then}
use Rattle.model.specs.Rows.{height}
use Rattle.model.specs.Format.{Sizes}
use Rattle.model.specs.Opening.{contents, opening}
use Rattle.model.specs.Queries.{Pair, Range, of_entries, of_terms, Bounds, bounds_of, term_start}
use Rattle.model.specs.TopK.{full_list, need, Ended, SearchResult, greedy_result, probing_result, found_into}
use Rattle.model.specs.Demand3.{Room, Demand3}
use Rattle.model.proofs.Lists.{within_part}
use Rattle.model.proofs.Format.WriteBack as opened
use Rattle.search.specs.Sought.{Asked, greedy_of, probing_of}
use Rattle.std.specs.Prelude.{Result}
use Rattle.refusals.specs.declared.Refusal.{Refusal}
use Rattle.moves.specs.declared.Ended as moves
use Rattle.moves.specs.Results.{top_k_of}
use Rattle.top_k.specs.Asked.{probed_of, with_room, asked}
use Rattle.top_k.proofs.Demand3.FullList as shown
use Rattle.top_k.proofs.Demand3.Promises.{front, greedy_accepted, probing_accepted, done_exactly, greedy_done, greedy_spent, greedy_openings, probing-full}

-- ---- what is found

module _ (k allowance : ℕ) (x : Asked) (within : Within x.documents x.entries) (out work out' work' : List ℕ)
    (g : SearchResult Ended) (greedily : g ≡ found_into out work (answered (greedy_of k allowance x)))
    (p : SearchResult ℕ) (by_probing : p ≡ found_into out' work' (answered (probing_of k x))) where
  abbrev N : ℕ
  N = x.documents

  abbrev xs : List ℕ
  xs = x.entries

  found : Demand3 N k allowance x.from xs out g out' p
  found =
      let full : List Pair = full_list N k xs in
      let L = front k x allowance in
      record {
        full = full;
        exactly_k = shown.exactly_k N k xs;
        different = shown.different N k xs;
        of_the_range = shown.of_the_range N k xs;
        exact_count = shown.exact_count N k xs;
        in_order = shown.in_order N k xs;
        others_after = shown.others_after N k xs within;
        need_of = need (height N) xs;
        needs = shown.needs (height N) xs;
        needs_none = shown.needs_none (height N) xs;
        done = greedy_done k allowance x out work g greedily;
        exactly_when = done_exactly k allowance x out work g greedily;
        front = L.size;
        front_part = L.within;
        front_covered = L.covers;
        front_longest = L.longest;
        spent = greedy_spent k allowance x out work g greedily;
        openings = greedy_openings k allowance x out work g greedily within;
        probed = probing-full k x out' work' p by_probing;
      }

-- ---- the theorem

-- "For every accepted archive, range, k and allowance, and whatever stands in lent slices as long as document 01 asks": `bytes` is the archive,
-- `r` the ends of the range, which is one of entries or of terms
module _ (bytes : List ℕ) (s : Sizes) (archive : opening bytes ≡ answered s) (range : Range) (r : Bounds)
    (accepted : bounds_of (contents bytes) range ≡ answered r) (k allowance : ℕ) where
  abbrev searched : Asked
  searched = record { documents = (contents bytes).documents; from = r.from; entries = part r.from r.to (contents bytes).entries }

  asked_is : (out work : List ℕ) → Room 3 searched.documents k out work → asked bytes range k (length out) (length work) ≡ answered searched
  asked_is out work room =
      ap (λ (o : Outcome Sizes).
      and_then (and_then o (λ z. answered (contents bytes)))
      (λ y.
      and_then (bounds_of y range)
      (λ z. with_room k (length out) (length work) (record { documents = y.documents; from = z.from; entries = part z.from z.to y.entries })))) archive
      ∙ ap (λ (o : Outcome Bounds).
      and_then o
      (λ z.
      with_room k (length out) (length work) (record { documents = searched.documents; from = z.from; entries = part z.from z.to (contents bytes).entries })))
      accepted
      ∙ ap₂ (λ (c d : Bool). refuse 12 c (refuse 13 d (answered searched)))
      (le-ltb (length out) (3 * min k searched.documents) room.answers) (le-ltb (length work) (4 * searched.documents) room.working)

  pub demand_3 : (out work : List ℕ) → Room 3 (contents bytes).documents k out work
      → (greedy : SearchResult Ended) → greedy ≡ greedy_result bytes range k allowance out work
      → (out' work' : List ℕ) → Room 3 (contents bytes).documents k out' work'
      → (probing : SearchResult ℕ) → probing ≡ probing_result bytes range k out' work'
      → Demand3 (contents bytes).documents k allowance r.from (part r.from r.to (contents bytes).entries) out greedy out' probing
  demand_3 out work room g promise out' work' room' p promise' =
      found k allowance searched (within_part searched.documents r.from r.to (contents bytes).entries (opened.accepted bytes s archive).0.within)
      out work out' work'
      g (promise ∙ greedy_accepted bytes range k out work searched (asked_is out work room) allowance)
      p (promise' ∙ probing_accepted bytes range k out' work' searched (asked_is out' work' room'))

-- ---- the operations

-- what `greedy_entries`, `greedy_terms`, `probing_entries` and `probing_terms` promise, each of the answer and of what the lent slices hold after it
abbrev pub Greedily : List ℕ → Range → ℕ → ℕ → List ℕ → List ℕ → Result moves.Ended Refusal → List ℕ → List ℕ → Type 0
Greedily bytes range k allowance out work answer after working =
    ◌≡◌ {A = SearchResult Ended} (record { outcome = top_k_of answer; answers = after; work = working }) (greedy_result bytes range k allowance out work)

abbrev pub ByProbing : List ℕ → Range → ℕ → List ℕ → List ℕ → Result ℕ Refusal → List ℕ → List ℕ → Type 0
ByProbing bytes range k out work answer after working =
    ◌≡◌ {A = SearchResult ℕ} (record { outcome = probed_of answer; answers = after; work = working }) (probing_result bytes range k out work)

module _ (bytes : List ℕ) (s : Sizes) (archive : opening bytes ≡ answered s) (k allowance : ℕ)
    (out work : List ℕ) (room : Room 3 (contents bytes).documents k out work) (answer : Result moves.Ended Refusal) (after working : List ℕ)
    (out' work' : List ℕ) (room' : Room 3 (contents bytes).documents k out' work') (probed : Result ℕ Refusal) (after' working' : List ℕ) where
  abbrev Demanded : ℕ → List ℕ → Type 0
  Demanded from xs =
      Demand3 (contents bytes).documents k allowance from xs
      out (record { outcome = top_k_of answer; answers = after; work = working })
      out' (record { outcome = probed_of probed; answers = after'; work = working' })

  -- the entries a up to but without b
  pub of-entries : (a b : ℕ) → a ≤ b → b ≤ length (contents bytes).entries
      → Greedily bytes (of_entries a b) k allowance out work answer after working → ByProbing bytes (of_entries a b) k out' work' probed after' working'
      → Demanded a (part a b (contents bytes).entries)
  of-entries a b order inside g p =
      let n : ℕ = length (contents bytes).entries in
      let r : Bounds = record { from = a; to = b } in
      let accepted : bounds_of (contents bytes) (of_entries a b) ≡ answered r
      = ap₂ (λ (c d : Bool). refuse 11 (c || d) (answered r)) (le-ltb b a order) (le-ltb n b inside) in
      demand_3 bytes s archive (of_entries a b) r accepted k allowance
      out work room (record { outcome = top_k_of answer; answers = after; work = working }) g
      out' work' room' (record { outcome = probed_of probed; answers = after'; work = working' }) p

  -- the terms f to l, both included
  pub of-terms : (f l : ℕ) → f ≤ l → l < length (contents bytes).lengths
      → Greedily bytes (of_terms f l) k allowance out work answer after working → ByProbing bytes (of_terms f l) k out' work' probed after' working'
      → Demanded (term_start (contents bytes) f) (part (term_start (contents bytes) f) (term_start (contents bytes) (suc l)) (contents bytes).entries)
  of-terms f l order known g p =
      let W : ℕ = length (contents bytes).lengths in
      let r : Bounds = record { from = term_start (contents bytes) f; to = term_start (contents bytes) (suc l) } in
      let accepted : bounds_of (contents bytes) (of_terms f l) ≡ answered r
      = (λ i. refuse 11 (le-ltb l f order i || lt-leb W f (omega arith) i || lt-leb W l known i) (answered r)) in
      demand_3 bytes s archive (of_terms f l) r accepted k allowance
      out work room (record { outcome = top_k_of answer; answers = after; work = working }) g
      out' work' room' (record { outcome = probed_of probed; answers = after'; work = working' }) p

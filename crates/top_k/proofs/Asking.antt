-- The question as the code holds it is the one that is asked, and the results of model follow from what it searches.
use Prim.Native.Nat.{ℕ, ◌*◌, ◌≤◌, ◌<◌, min}
use mathlib.Core.Path.{◌≡◌, refl, sym, ap, ◌∙◌, subst}
use mathlib.Core.List.{List}
use mathlib.Core.Bool.{Bool, true, false}
use lib.ListN.{length}
use lib.Dec.{ltb}
use borrow.Author.Tests.{lt-ltb, le-ltb}
use Rattle.model.specs.Lists.{part, Within}
use Rattle.model.specs.Outcome.{Outcome, answered, refused, refuse, and_then}
use Rattle.model.specs.Format.{Library}
use Rattle.model.specs.Opening.{opened, contents}
use Rattle.model.specs.Queries as model
use Rattle.model.specs.Queries.{Bounds, bounds_of}
use Rattle.model.specs.TopK.{Found, found_into, search_result, greedy_result, probing_result}
use Rattle.std.specs.Prelude.{Result, Ok}
use Rattle.refusals.specs.declared.Refusal.{Refusal}
use Rattle.wavelet.specs.declared.Levels.{Levels}
use Rattle.wavelet.specs.Levels.{entries_in}
use Rattle.archive.specs.declared.Layout.{Layout}
use Rattle.archive_ranges.specs.declared.Entries.{Entries}
use Rattle.archive_ranges.specs.Ranges.{bounds_in}
use Rattle.archive.specs.Layout.{Opened}
use Rattle.archive.proofs.Opened.{limits, stored, entries-are, entries_within, documents-are}
use Rattle.search.specs.Searchable.{Searchable}
use Rattle.search.specs.Sought.{Asked, greedy_of, probing_of}
use Rattle.top_k.specs.Asked.{with_room, asked, posed, greedy_found, probing_found}

-- ---- the results of model

module _ {A : Type 0} (bytes : List ℕ) (r : model.Range) (k : ℕ) (answers work : List ℕ) (search : ℕ → ℕ → List ℕ → Found A) where
  abbrev then : Asked → Outcome (Found A)
  then x = answered (search x.documents x.from x.entries)

  room_then : (N from : ℕ) (xs : List ℕ) (b c : Bool)
      → refuse 12 b (refuse 13 c (answered (search N from xs)))
      ≡ and_then (refuse 12 b (refuse 13 c (answered (record { documents = N; from = from; entries = xs })))) then
  room_then N from xs true c = refl
  room_then N from xs false true = refl
  room_then N from xs false false = refl

  -- a search finds what it finds in what is asked
  pub search_asked : search_result bytes r k answers work search
      ≡ found_into answers work (and_then (asked bytes r k (length answers) (length work)) then)
  search_asked = ap (found_into answers work) (from (opened bytes))
    where
      inside : (lib : Library) (o : Outcome Bounds)
          → and_then o
          (λ ends.
          refuse 12 (ltb (length answers) (3 * min k lib.documents))
          (refuse 13 (ltb (length work) (4 * lib.documents)) (answered (search lib.documents ends.from (part ends.from ends.to lib.entries)))))
          ≡ and_then
          (and_then o
          (λ ends. with_room k (length answers) (length work) (record { documents = lib.documents; from = ends.from; entries = part ends.from ends.to lib.entries })))
          then
      inside lib (answered ends) =
          room_then lib.documents ends.from (part ends.from ends.to lib.entries) (ltb (length answers) (3 * min k lib.documents))
          (ltb (length work) (4 * lib.documents))
      inside lib (refused number) = refl

      from : (o : Outcome Library)
          → and_then o
          (λ lib.
          and_then (bounds_of lib r)
          (λ ends.
          refuse 12 (ltb (length answers) (3 * min k lib.documents))
          (refuse 13 (ltb (length work) (4 * lib.documents)) (answered (search lib.documents ends.from (part ends.from ends.to lib.entries))))))
          ≡ and_then
          (and_then o
          (λ lib.
          and_then (bounds_of lib r)
          (λ ends. with_room k (length answers) (length work) (record { documents = lib.documents; from = ends.from; entries = part ends.from ends.to lib.entries }))))
          then
      from (answered lib) = inside lib (bounds_of lib r)
      from (refused number) = refl

-- ---- the question

-- an archive's entries are documents, and a range inside them can be searched
pub searchable : (bytes : List ℕ) (l : Layout) → Opened bytes l → (a b : ℕ) → a ≤ b → b ≤ l.levels.entries → Searchable bytes l.levels l.documents a b
searchable bytes l o a b ordered inside = record {
  stored = stored bytes l o;
  high = ap (λ (x : Layout). x.levels.height) o.shape;
  some = (limits bytes l o).some_document;
  few = (limits bytes l o).documents;
  within = subst (Within l.documents) (sym (entries-are bytes l o)) (entries_within bytes l o);
  ordered = ordered;
  inside = inside;
}

-- a range that is not refused, as the code goes about it
module _ (bytes : List ℕ) (l : Layout) (o : Opened bytes l) (k answers work : ℕ) (range : Result Entries Refusal) (r : Entries) (e : range ≡ Ok r) where
  asks : posed bytes k answers work (bounds_in range)
      ≡ with_room k answers work (record { documents = l.documents; from = r.from; entries = part r.from r.to (entries_in bytes l.levels) })
  asks =
      ap (λ (x : Result Entries Refusal). posed bytes k answers work (bounds_in x)) e
      ∙ (λ i. with_room k answers work (record { documents = documents-are bytes l o i; from = r.from; entries = part r.from r.to (sym (entries-are bytes l o) i) }))

  pub short_answers : answers < 3 * min k l.documents → refused 12 ≡ posed bytes k answers work (bounds_in range)
  short_answers h = rw (asks, lt-ltb answers (3 * min k l.documents) h)

  pub short_work : 3 * min k l.documents ≤ answers → work < 4 * l.documents → refused 13 ≡ posed bytes k answers work (bounds_in range)
  short_work g h = rw (asks, le-ltb answers (3 * min k l.documents) g, lt-ltb work (4 * l.documents) h)

  pub enough_room : 3 * min k l.documents ≤ answers → 4 * l.documents ≤ work → (b : List ℕ) (t : Levels) → b ≡ bytes → t ≡ l.levels
      → answered (record { documents = l.documents; from = r.from; entries = part r.from r.to (entries_in b t) }) ≡ posed bytes k answers work (bounds_in range)
  enough_room g h b t x y =
      rw (x, y, asks, le-ltb answers (3 * min k l.documents) g, le-ltb work (4 * l.documents) h)

-- what is asked of an opened archive, by the ends of its range
module _ (bytes : List ℕ) (l : Layout) (o : Opened bytes l) (r : model.Range) (bounds : Outcome Bounds) (e : bounds ≡ bounds_of (contents bytes) r) where
  posed_asked : (k answers work : ℕ) → posed bytes k answers work bounds ≡ asked bytes r k answers work
  posed_asked k answers work = rw (o.accepted, ← e)

  module _ (k : ℕ) (answers work : List ℕ) where
    pub greedy_posed : (allowance : ℕ) → found_into answers work (greedy_found k allowance (posed bytes k (length answers) (length work) bounds)) ≡ greedy_result bytes r k allowance answers work
    greedy_posed allowance =
        ap (λ (x : Outcome Asked). found_into answers work (greedy_found k allowance x)) (posed_asked k (length answers) (length work))
        ∙ sym (search_asked bytes r k answers work (λ N from xs. greedy_of k allowance (record { documents = N; from = from; entries = xs })))

    pub probing_posed : found_into answers work (probing_found k (posed bytes k (length answers) (length work) bounds)) ≡ probing_result bytes r k answers work
    probing_posed =
        ap (λ (x : Outcome Asked). found_into answers work (probing_found k x)) (posed_asked k (length answers) (length work))
        ∙ sym (search_asked bytes r k answers work (λ N from xs. probing_of k (record { documents = N; from = from; entries = xs })))

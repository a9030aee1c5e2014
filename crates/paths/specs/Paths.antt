-- The path of a search with several terms: frames of places in a list, one for each of the two halves of every level.
use Rattle.std.specs.Prelude.{ℕ, zero, suc, ◌+◌, ◌-◌, ◌*◌, ◌/◌, ◌%◌, ◌<◌, ◌≡◌, List, [], ◌∷◌, cond, get_or, take, leb}
use Rattle.std.proofs.lemmas.List.Edits.{sets}
use Rattle.model.specs.Opening.{contents}
use Rattle.model.specs.Queries.{term_start}
use Rattle.wavelet.specs.declared.Span.{Span}
use Rattle.wavelet.specs.declared.Halves.{Halves}
use Rattle.wavelet.specs.declared.Ranked.{Ranked}
use Rattle.wavelet.specs.Levels.{entries_in}
use Rattle.wavelet.specs.Spans.{Ordered, span_of, span_in, halves_of}
use Rattle.archive.specs.declared.Layout.{Layout}
use Rattle.paths.specs.declared.terms.TermList.{TermList}
use Rattle.paths.specs.declared.path.Sides.{Sides}

-- the terms that it holds
abbrev pub terms_of : TermList → List ℕ
terms_of q = take q.size q.numbers

-- ---- frames

-- the pair that the frame of a node starts with: a frame has nine pairs, of the node's bounds and of a range for each of eight terms
abbrev pub frame_of : ℕ → ℕ → ℕ
frame_of level number = 18 * level + 9 * (number % 2)

-- the k-th range of a frame, in the node's bounds
abbrev pub range_in : List ℕ → ℕ → ℕ → Span
range_in path frame k = record {
  start = get_or path (2 * frame) 0;
  lo = get_or path (2 * (frame + 1 + k)) 0;
  hi = get_or path (2 * (frame + 1 + k) + 1) 0;
  end = get_or path (2 * frame + 1) 0;
}

-- its entries
abbrev pub count_at : List ℕ → ℕ → ℕ → ℕ
count_at path frame k = (range_in path frame k).hi - (range_in path frame k).lo

-- a pair of the path as a range in a node, and that range in the halves of the node, whose level has the given bits
abbrev pub pair_in : Ranked → List ℕ → ℕ → Span
pair_in node path pair = span_in node (get_or path (2 * pair) 0) (get_or path (2 * pair + 1) 0)

abbrev pub halves_in : List ℕ → Ranked → List ℕ → ℕ → Halves
halves_in bits node path pair = halves_of bits (pair_in node path pair)

-- a range in both halves of a node: one pair in the frame of each
abbrev pub put_halves : Halves → ℕ → List ℕ → List ℕ
put_halves two pair path =
    sets (sets path (2 * pair) (two.zero.lo ∷ two.zero.hi ∷ [])) (2 * (pair + 9)) (two.one.lo ∷ two.one.hi ∷ [])

-- the bounds of both halves of a node, each as a range
abbrev pub bounds_of : Ranked → Halves
bounds_of node = record { zero = record { start = 0; lo = node.start; hi = node.middle; end = 0 }; one = record { start = 0; lo = node.middle; hi = node.end; end = 0 } }

abbrev pub sides_of : Halves → Sides
sides_of two = record { zero = two.zero.hi - two.zero.lo; one = two.one.hi - two.one.lo }

-- the places of the k-th term in the node of a level
abbrev pub term_span : List ℕ → Layout → List ℕ → ℕ → ℕ → ℕ → Span
term_span bytes l terms level number k =
    span_of l.levels.height (entries_in bytes l.levels) (term_start (contents bytes) (get_or terms k 0))
    (term_start (contents bytes) (suc (get_or terms k 0))) level number

-- ---- a walk with all terms: the range of a term that has no entry in a node goes into both halves as it is

-- the range in a half, by the one in the node
abbrev pub passing : Span → Span → Span
passing here half = cond (leb here.hi here.lo) (record { start = half.start; lo = here.lo; hi = here.hi; end = half.end }) half

abbrev pub passing_both : Span → Halves → Halves
passing_both here two = record { zero = passing here two.zero; one = passing here two.one }

-- a pair of the path in the halves of its node
abbrev pub passed_in : List ℕ → Ranked → List ℕ → ℕ → Halves
passed_in bits node path pair = passing_both (pair_in node path pair) (halves_in bits node path pair)

-- the places that such a walk holds, by those that the terms have
abbrev pub passed_of : (ℕ → ℕ → ℕ → Span) → ℕ → ℕ → ℕ → Span
passed_of span zero number k = span 0 number k
passed_of span (suc level) number k = passing (passed_of span level (number / 2) k) (span (suc level) number k)

abbrev pub passed_span : List ℕ → Layout → List ℕ → ℕ → ℕ → ℕ → Span
passed_span bytes l terms = passed_of (term_span bytes l terms)

-- in order, unless the range is empty: its places say nothing then
abbrev pub OrderedIfAny : ℕ → Span → Type 0
OrderedIfAny n s = s.lo < s.hi → Ordered n s

-- ---- what a path holds, by the places that the terms have

-- a claim on the frame of a node
abbrev pub Claim : Type 1
Claim = List ℕ → ℕ → ℕ → Type 0

-- it holds of a node and of the nodes above it, each with the other half beside it
abbrev pub HeldBy : Claim → List ℕ → ℕ → ℕ → Type 0
HeldBy C path zero number = C path 0 0
HeldBy C path (suc level) number = C path (suc level) (2 * (number / 2)) × C path (suc level) (2 * (number / 2) + 1) × HeldBy C path level (number / 2)

module _ (span : ℕ → ℕ → ℕ → Span) (size : ℕ) where
  -- the places of all terms in a node
  abbrev pub Whole : List ℕ → ℕ → ℕ → Type 0
  Whole path level number = (k : ℕ) → k < size → range_in path (frame_of level number) k ≡ span level number k

  -- the same as far as every term before has an entry in the node
  abbrev pub Right : List ℕ → ℕ → ℕ → Type 0
  Right path level number =
      (k : ℕ) → k < size → ((i : ℕ) → i < k → (span level number i).lo < (span level number i).hi)
      → range_in path (frame_of level number) k ≡ span level number k

  -- for a search that leaves a node where one of the terms has no entry
  abbrev pub Held : List ℕ → ℕ → ℕ → Type 0
  Held = HeldBy Right

  -- for one that asks for all terms
  abbrev pub HeldWhole : List ℕ → ℕ → ℕ → Type 0
  HeldWhole = HeldBy Whole

-- The listing of a range, by its ends or their refusal, and the descent that gives it.
use Rattle.std.specs.Prelude.{ℕ, zero, suc, ◌+◌, ◌-◌, ◌*◌, List, [], ◌∷◌, ◌++◌, length, ltb}
use Rattle.model.specs.Lists.{keep, part}
use Rattle.model.specs.Outcome.{Outcome, answered, refuse, and_then}
use Rattle.model.specs.Format.{Library}
use Rattle.model.specs.Queries.{Pair, present, Bounds, PairsResult, placed_listing, placed_into}
use Rattle.wavelet.specs.declared.Levels.{Levels}
use Rattle.wavelet.specs.declared.Span.{Span}
use Rattle.wavelet.specs.Levels.{level_of}
use Rattle.wavelet.specs.Spans.{halves_of}

-- the result of model is this of the range as given
abbrev pub list_of : Library → Outcome Bounds → List ℕ → PairsResult
list_of lib ends answers =
    placed_into answers
    (and_then ends
    (λ r. refuse 12 (ltb (length answers) (3 * lib.documents)) (answered (placed_listing lib.documents r.from (part r.from r.to lib.entries)))))

-- the documents below the node q of level j with the range's places in it, m rows above the leaves: of the zero half, then of the one half
abbrev pub pairs_from : (ℕ → List ℕ) → ℕ → ℕ → ℕ → Span → List Pair
pairs_from rows zero j q s = keep present (record { document = q; count = s.hi - s.lo } ∷ [])
pairs_from rows (suc m) j q s =
    pairs_from rows m (suc j) (2 * q) (halves_of (rows j) s).zero ++ pairs_from rows m (suc j) (2 * q + 1) (halves_of (rows j) s).one

abbrev pub pairs_under : List ℕ → Levels → ℕ → ℕ → Span → List Pair
pairs_under bytes t j q s = pairs_from (level_of bytes t) (t.height - j) j q s

-- The nodes that hold a value, and the way down from one to another.
use Rattle.std.specs.Prelude.{ℕ, ◌≤◌, ◌≡◌, List, take, eqb}
use Rattle.bits.specs.Sequences.{tally}
use Rattle.model.specs.Walk.{key}
use Rattle.wavelet.specs.declared.Levels.{Levels}
use Rattle.wavelet.specs.declared.Span.{Span}
use Rattle.wavelet.specs.declared.Place.{Place}
use Rattle.wavelet.specs.Levels.{entries_in}
use Rattle.wavelet.specs.Spans.{span_of, span_at}

-- at depth j: the node that holds v, with the range of the entries a up to but without b
pub record Toward (bytes : List ℕ) (t : Levels) (a b v j : ℕ) (s : Span) : Type 0 where
  pub deep : j ≤ t.height
  pub reached : s ≡ span_of t.height (entries_in bytes t) a b j (key t.height j v)

-- whichever place of the list is at p in the node of depth j that holds v, it is at r in the one of depth k
abbrev pub Leads : List ℕ → Levels → ℕ → ℕ → Place → ℕ → Place → Type 0
Leads bytes t v j p k r = (i : ℕ) → i ≤ t.entries → Toward bytes t i i v j (span_at p) → Toward bytes t i i v k (span_at r)

-- .. and so many of the entries before it are in the node of depth k
abbrev pub CountsUnder : List ℕ → Levels → ℕ → ℕ → Place → ℕ → ℕ → Type 0
CountsUnder bytes t v j p k r =
    (i : ℕ) → i ≤ t.entries → Toward bytes t i i v j (span_at p)
    → r ≡ tally (λ x. eqb (key t.height k x) (key t.height k v)) (take i (entries_in bytes t))

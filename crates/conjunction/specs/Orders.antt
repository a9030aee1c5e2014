-- Where the search for common documents stands, and the order of its nodes.
use Rattle.std.specs.Prelude.{ℕ, zero, suc, ◌+◌, ◌/◌, ◌%◌, List, Option, Some, None, cond, eqb}
use Rattle.wavelet.specs.declared.Span.{Span}
use Rattle.paths.specs.Paths.{Held}
use Rattle.paths.specs.declared.Node.{Node}
use Rattle.conjunction.specs.declared.common.Common.{Common}

module _ (span : ℕ → ℕ → ℕ → Span) (size : ℕ) (path : List ℕ) where
  -- where documents before `from` have been searched: at the root, or at the leaf before
  abbrev pub Ready : ℕ → ℕ → Type 0
  Ready h zero = Held span size path 0 0
  Ready h (suc d) = Held span size path h d

  -- at the leaf that was found
  abbrev pub HeldAt : ℕ → Option Common → Type 0
  HeldAt h (Some c) = Held span size path h c.document
  HeldAt h None = Unit {0}

-- ---- the order of the search

abbrev pub at : ℕ → ℕ → Node
at level number = record { level = level; number = number }

-- the node to the right of one that is done with: its other half or that of the nearest node above; past the root where there is none
abbrev pub after_of : ℕ → ℕ → Node
after_of zero number = at 0 1
after_of (suc level) number = cond (eqb (number % 2) 1) (after_of level (number / 2)) (at (suc level) (number + 1))

-- the first node without documents before `from`
abbrev pub resume_of : ℕ → ℕ → Node
resume_of h zero = at 0 0
resume_of h (suc d) = after_of h d

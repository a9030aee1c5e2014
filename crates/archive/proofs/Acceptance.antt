-- Refusals 1 to 3, and what follows them.
use Prim.Native.Nat.{ℕ, ◌≤◌, ◌<◌}
use mathlib.Core.Path.{◌≡◌, sym, ap}
use mathlib.Core.List.{List}
use mathlib.Core.Bool.{true, false}
use lib.ListN.{length}
use borrow.Author.Tests.{lt-ltb, le-ltb, ne_eqb}
use Rattle.bits.specs.Bits.{number_at}
use Rattle.model.specs.Outcome.{refused}
use Rattle.model.specs.Format.{within_limits}
use Rattle.model.specs.Opening.{sizes_at, entries_at, opening}
use Rattle.wavelet.specs.Levels.{entries_in}
use Rattle.archive.specs.declared.Layout.{Layout}
use Rattle.archive.specs.Layout.{layout_of}
use Rattle.archive.specs.Opening.{parts_outcome}

module _ (bytes : List ℕ) where
  pub short_refused : length bytes < 40 → opening bytes ≡ refused 1
  unfolding opening
  short_refused l = rw (lt-ltb (length bytes) 40 l)

  pub edition_refused : 40 ≤ length bytes → (number_at bytes 0 ≡ 1 → ⊥) → opening bytes ≡ refused 2
  unfolding opening
  edition_refused long other = rw (le-ltb (length bytes) 40 long, ne_eqb (number_at bytes 0) 1 other)

  pub limits_refused : 40 ≤ length bytes → number_at bytes 0 ≡ 1 → within_limits (sizes_at bytes) ≡ false → opening bytes ≡ refused 3
  unfolding opening
  limits_refused long edition limits = rw (le-ltb (length bytes) 40 long, edition, limits)

  -- what is left to look at
  pub opening_parts : (l : Layout) → 40 ≤ length bytes → number_at bytes 0 ≡ 1 → within_limits (sizes_at bytes) ≡ true → l ≡ layout_of (sizes_at bytes)
      → opening bytes ≡ parts_outcome bytes l
  unfolding opening entries_at entries_in
  opening_parts l long edition limits e = rw (le-ltb (length bytes) 40 long, edition, limits) (ap (parts_outcome bytes) (sym e))

-- What the result of model comes to for an opened archive.
use Prim.Native.Nat.{ℕ, ◌≤◌, ◌<◌}
use native.Mathlib.Omega.{arith}
use mathlib.Core.Path.{◌≡◌, ap}
use mathlib.Core.List.{List, [], ◌∷◌}
use mathlib.Core.Bool.{Bool, true, false}
use lib.ListN.{length, take, length-take}
use lib.Dec.{leb, ltb}
use borrow.Author.Tests.{lt-ltb, le-ltb}
use Rattle.bits.proofs.Tests.{or_right}
use Rattle.bits.proofs.Tally.{tally_le_length}
use Rattle.model.specs.Lists.{any}
use Rattle.model.specs.Outcome.{answered, refused}
use Rattle.model.specs.Opening.{contents}
use Rattle.model.specs.RankSet.{ascending, member, rank_set, rank_set_result}
use Rattle.model.proofs.RankSet.Counts.{rank-set-empty}
use Rattle.archive.specs.declared.Layout.{Layout}
use Rattle.archive.specs.Layout.{Opened}
use Rattle.archive.proofs.Opened.{entries-size, documents-are}

-- a count before a place is at most that place
pub rank-set_le : (set xs : List ℕ) (p : ℕ) → rank_set set xs p ≤ p
rank-set_le set xs p = omega (arith, tally_le_length (member set) (take p xs), length-take p xs)

-- a set of no documents counts none
pub empty-counts : (set xs : List ℕ) (p : ℕ) → length set ≡ 0 → rank_set set xs p ≡ 0
empty-counts [] xs p e = rank-set-empty xs p
empty-counts (d ∷ ds) xs p e = absurd (omega arith)

module _ (bytes : List ℕ) (l : Layout) (o : Opened bytes l) (set : List ℕ) (p : ℕ) where
  abbrev n : ℕ
  n = l.levels.entries

  -- documents by the bytes' own N
  by_contents : (b : Bool) → any (leb l.documents) set ≡ b → any (leb (contents bytes).documents) set ≡ b
  by_contents b e = rw (documents-are bytes l o) e

  pub too_long : 64 < length set → refused 19 ≡ rank_set_result bytes set p
  too_long h = rw (o.accepted, lt-ltb 64 (length set) h)

  module _ (few : length set ≤ 64) where
    pub not_ascending : ascending set ≡ false → refused 19 ≡ rank_set_result bytes set p
    not_ascending e = rw (o.accepted, le-ltb 64 (length set) few, e)

    module _ (up : ascending set ≡ true) where
      pub no_document : any (leb l.documents) set ≡ true → refused 11 ≡ rank_set_result bytes set p
      no_document e = rw (o.accepted, le-ltb 64 (length set) few, up, by_contents true e)

      pub past_end : n < p → refused 11 ≡ rank_set_result bytes set p
      past_end h =
          rw (o.accepted, le-ltb 64 (length set) few, up, entries-size bytes l o, or_right (any (leb (contents bytes).documents) set) (ltb n p) (lt-ltb n p h))

      pub count_is : (r : ℕ) → any (leb l.documents) set ≡ false → p ≤ n → r ≡ rank_set set (contents bytes).entries p → answered r ≡ rank_set_result bytes set p
      count_is r e h is =
          rw (o.accepted, le-ltb 64 (length set) few, up, by_contents false e, entries-size bytes l o, le-ltb n p h) (ap answered is)

-- M-103, the theorem: for every accepted archive, range and node (block) of two or more numbers, the steps of document 004 give the counts of its two halves.
use Prim.Native.Nat.{ℕ, suc, ◌+◌, ◌^◌, ◌≤◌, ◌<◌}
use native.Mathlib.Omega.{arith}
use mathlib.Core.Path.{◌≡◌, refl, subst}
use mathlib.Core.List.{List}
use lib.ListN.{length}
use Rattle.model.specs.Lists.{part}
use Rattle.model.specs.Outcome.{Outcome, answered, refused, and_then}
use Rattle.model.specs.Format.{Sizes, row_count}
use Rattle.model.specs.Opening.{sizes_at, row_at, entries_at, contents, opening}
use Rattle.model.specs.Queries.{Range, Bounds, bounds_of, range_result}
use Rattle.model.specs.Halving.{row_of, steps_at, GiveCounts}
use Rattle.model.proofs.Wavelet.Rows.{RowsOf}
use Rattle.model.proofs.Format.WriteBack.{accepted, contents_valid}
use Rattle.model.proofs.Wavelet.Decode.{decoded_bits}
use Rattle.model.proofs.Wavelet.Halving.{give_counts}
use Rattle.model.proofs.Questions.{range_inside}

module _ (bytes : List ℕ) where
  -- the entries have the rows that stand in the bytes
  rows_are : RowsOf (row_count (sizes_at bytes)) (sizes_at bytes).entries (contents bytes).entries (row_of bytes)
  unfolding entries_at
  rows_are = decoded_bits (row_count (sizes_at bytes)) (sizes_at bytes).entries (row_at bytes (sizes_at bytes))

  -- an accepted range is inside the entries of an accepted archive
  inside : (range : Range) (r : Bounds) → range_result bytes range ≡ answered r → (r.from ≤ r.to) × (r.to ≤ length (contents bytes).entries)
  inside range r e = go (opening bytes) refl e
    where
      go : (o : Outcome Sizes) → opening bytes ≡ o → and_then (and_then o (λ s. answered (contents bytes))) (λ lib. bounds_of lib range) ≡ answered r
          → (r.from ≤ r.to) × (r.to ≤ length (contents bytes).entries)
      go (answered s) a f = range_inside (contents bytes) (contents_valid bytes (accepted bytes s a).0) range r f
      go (refused number) a f = absurd (let z : ◌≡◌ {A = ℕ} 0 1 = cc in omega arith)

  pub halving : (range : Range) (r : Bounds) → range_result bytes range ≡ answered r → (l q j : ℕ) → j + suc l ≡ row_count (sizes_at bytes) → q < 2 ^ j
      → GiveCounts (part r.from r.to (contents bytes).entries) l q (steps_at bytes r.from r.to j q)
  halving range r e l q j d m =
      let (order, ends) = inside range r e in
      give_counts rows_are r.from r.to order (subst (λ (n : ℕ). r.to ≤ n) rows_are.size ends) l q j d m

-- What is read fits the out-parameters: n, N and W are within their limits.
use Prim.Native.Nat.{ℕ, ◌^◌, ◌<◌}
use native.Mathlib.Omega.{arith}
use mathlib.Core.Path.{◌≡◌, refl, subst}
use mathlib.Core.List.{List}
use mathlib.Core.Bool.{Bool, true, false, ◌||◌}
use lib.ListN.{length}
use lib.Dec.{ltb}
use Rattle.model.specs.Outcome.{Outcome, answered, refused, refuse, and_then}
use Rattle.model.specs.Format.{Sizes}
use Rattle.model.specs.Opening.{opening, read_into, read_result}
use Rattle.model.proofs.Format.Valid.{Limits}
use Rattle.model.proofs.Format.WriteBack.{accepted}
use Rattle.std.specs.Prelude.{Result, Ok, Err}
use Rattle.refusals.specs.declared.Refusal.{Refusal}
use Rattle.reader.specs.declared.Sizes.{Sizes as Read}
use Rattle.reader.specs.Reading.{sizes_of, reading_of}
use Rattle.ffi.specs.Left.{Narrow}

pub limits_narrow : (s : Sizes) → Limits s → (s.entries < 2 ^ 32) × (s.documents < 2 ^ 32) × (s.terms < 2 ^ 32)
limits_narrow s l = (omega (arith, l.entries), omega (arith, l.documents), omega (arith, l.terms))

module _ (bytes entries lengths : List ℕ) where
  -- what is read is what was opened
  read-limits : (s : Sizes) → answered s ≡ (read_result bytes entries lengths).outcome → Limits s
  read-limits s = go (opening bytes) refl
    where
      inner : (z : Sizes) (b : Bool) → Limits z → answered s ≡ (read_into bytes entries lengths (refuse 12 b (answered z))).outcome → Limits s
      inner z true l q = absurd (let e : ◌≡◌ {A = ℕ} 0 1 = cc in omega arith)
      inner z false l q = let e : z ≡ s = cc in subst Limits e l

      go : (o : Outcome Sizes) → opening bytes ≡ o
          → answered s ≡ (read_into bytes entries lengths (and_then o (λ z. refuse 12 (ltb (length entries) z.entries || ltb (length lengths) z.terms) (answered z)))).outcome
          → Limits s
      go (answered z) e q =
          let a = accepted bytes z e in
          inner z (ltb (length entries) z.entries || ltb (length lengths) z.terms) (subst Limits a.1 a.0.limits) q
      go (refused number) e q = absurd (let z : ◌≡◌ {A = ℕ} 0 1 = cc in omega arith)

  pub read_narrow : (r : Result Read Refusal) → reading_of r ≡ (read_result bytes entries lengths).outcome → Narrow r
  read_narrow (Ok s) q = limits_narrow (sizes_of s) (read-limits (sizes_of s) q)
  read_narrow (Err refusal) q = tt

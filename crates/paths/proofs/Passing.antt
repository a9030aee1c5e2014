-- Laws of ranges that are passed down as they are where they are empty: they have the right bounds, and as many entries.
use Prim.Native.Nat.{ℕ, zero, suc, ◌+◌, ◌-◌, ◌*◌, ◌/◌, ◌≤◌, ◌<◌}
use native.Mathlib.Omega.{arith}
use mathlib.Core.Path.{◌≡◌, refl, sym, ap, ◌∙◌}
use mathlib.Core.Logic.{◌⊎◌, inl, inr}
use mathlib.Core.List.{List, [], ◌∷◌}
use lib.Seq.{sets}
use borrow.Author.Tests.{le-leb, lt-leb}
use Rattle.bits.proofs.Tests.{le_or_lt}
use Rattle.wavelet.specs.declared.Span.{Span}
use Rattle.wavelet.specs.declared.Halves.{Halves}
use Rattle.wavelet.specs.declared.Ranked.{Ranked}
use Rattle.paths.specs.Paths.{pair_in, halves_in, put_halves, passing, passed_in, passed_of}

module _ (here half : Span) where
  pub passing-empty : here.hi ≤ here.lo → passing here half ≡ record { start = half.start; lo = here.lo; hi = here.hi; end = half.end }
  passing-empty m = rw (le-leb here.hi here.lo m)

  pub passing-full : here.lo < here.hi → passing here half ≡ half
  passing-full m = rw (lt-leb here.hi here.lo m)

  passing_bounds : ((passing here half).start ≡ half.start) × ((passing here half).end ≡ half.end)
  passing_bounds = go (le_or_lt here.hi here.lo)
    where
      go : (here.hi ≤ here.lo) ⊎ (here.lo < here.hi) → ((passing here half).start ≡ half.start) × ((passing here half).end ≡ half.end)
      go (inl m) = (ap (λ (s : Span). s.start) (passing-empty m), ap (λ (s : Span). s.end) (passing-empty m))
      go (inr m) = (ap (λ (s : Span). s.start) (passing-full m), ap (λ (s : Span). s.end) (passing-full m))

-- a pair of the path
module _ (bits : List ℕ) (node : Ranked) (path : List ℕ) (pair : ℕ) where
  abbrev here : Span
  here = pair_in node path pair

  abbrev two : Halves
  two = halves_in bits node path pair

  pub pass_full : here.lo < here.hi → two ≡ passed_in bits node path pair
  pass_full m = λ i. record { zero = sym (passing-full here two.zero m) i; one = sym (passing-full here two.one m) i }

  pub put-empty : (to : ℕ) → here.hi ≤ here.lo
      → sets (sets path (2 * to) (here.lo ∷ here.hi ∷ [])) (2 * (to + 9)) (here.lo ∷ here.hi ∷ []) ≡ put_halves (passed_in bits node path pair) to path
  put-empty to m = λ i. put_halves (record { zero = sym (passing-empty here two.zero m) i; one = sym (passing-empty here two.one m) i }) to path

-- by the places that the terms have
module _ (span : ℕ → ℕ → ℕ → Span) where
  pub passed_bounds : (j number k : ℕ) → ((passed_of span j number k).start ≡ (span j number k).start) × ((passed_of span j number k).end ≡ (span j number k).end)
  passed_bounds zero number k = (refl, refl)
  passed_bounds (suc j) number k = passing_bounds (passed_of span j (number / 2) k) (span (suc j) number k)

  -- a range with entries is the term's
  pub passed-full : (j number k : ℕ) → (passed_of span j number k).lo < (passed_of span j number k).hi → passed_of span j number k ≡ span j number k
  passed-full zero number k m = refl
  passed-full (suc j) number k m = go (le_or_lt here.hi here.lo)
    where
      here : Span
      here = passed_of span j (number / 2) k

      go : (here.hi ≤ here.lo) ⊎ (here.lo < here.hi) → passed_of span (suc j) number k ≡ span (suc j) number k
      go (inl n) =
          let e = passing-empty here (span (suc j) number k) n in
          absurd (omega (arith, ap (λ (s : Span). s.lo) e, ap (λ (s : Span). s.hi) e))
      go (inr n) = passing-full here (span (suc j) number k) n

  -- where no entry in a node is none in its halves
  module _ (h : ℕ) (none : (j number k : ℕ) → j < h → (span j (number / 2) k).hi ≤ (span j (number / 2) k).lo → (span (suc j) number k).hi ≤ (span (suc j) number k).lo) where
    pub passed-entries : (j number k : ℕ) → j ≤ h → (passed_of span j number k).hi - (passed_of span j number k).lo ≡ (span j number k).hi - (span j number k).lo
    passed-entries zero number k l = refl
    passed-entries (suc j) number k l = go (passed-entries j (number / 2) k (omega arith)) (le_or_lt here.hi here.lo)
      where
        here : Span
        here = passed_of span j (number / 2) k

        go : here.hi - here.lo ≡ (span j (number / 2) k).hi - (span j (number / 2) k).lo → (here.hi ≤ here.lo) ⊎ (here.lo < here.hi)
            → (passed_of span (suc j) number k).hi - (passed_of span (suc j) number k).lo ≡ (span (suc j) number k).hi - (span (suc j) number k).lo
        go e (inl n) =
            ap (λ (s : Span). s.hi - s.lo) (passing-empty here (span (suc j) number k) n)
            ∙ omega (arith, none j number k l (omega arith))
        go e (inr n) = ap (λ (s : Span). s.hi - s.lo) (passing-full here (span (suc j) number k) n)

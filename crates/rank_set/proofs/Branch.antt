-- At the lowest node that all documents of a set are under, where the set has not every document of it: the parts of the set under the halves.
use Prim.Native.Nat.{ℕ, ◌+◌, ◌-◌, ◌^◌, ◌≤◌, ◌<◌}
use native.Mathlib.Omega.{arith}
use mathlib.Core.Path.{◌≡◌, subst}
use mathlib.Core.List.{List}
use lib.ListN.{length, get_or, take, drop, length-drop}
use lib.Seq.{take_all}
use Rattle.model.specs.Walk.{key}
use Rattle.wavelet.specs.declared.Levels.{Levels}
use Rattle.wavelet.specs.declared.Place.{Place}
use Rattle.wavelet.specs.Levels.{level_of}
use Rattle.wavelet.specs.Spans.{halves_of, span_at}
use Rattle.wavelet.specs.Descents.{Leads}
use Rattle.rank_set.specs.declared.Places.{Places}
use Rattle.rank_set.specs.Sets.{Front}
use Rattle.rank_set.specs.Nodes.{Under, Reached, IsLowest, places_of, CountsAt}
use Rattle.rank_set.proofs.Parts.{under_inner, under-front, under_rest}
use Rattle.rank_set.proofs.Counted.{counts_fit, reached_down, counts_up, reached_zero, reached_one, counts-halves}

module _ (bytes : List ℕ) (t : Levels) (set : List ℕ) (j : ℕ) (p : Place) (at : Reached bytes t set j p) (depth : ℕ) (low : IsLowest t.height j set depth)
    (short : length set ≡ 2 ^ (t.height - depth) → ⊥) where
  abbrev h : ℕ
  h = t.height

  pub lowest_inner : depth < h
  lowest_inner = under_inner h depth set low.under short

  module _ (node : Place) (leads : Leads bytes t (get_or set 0 0) j p depth node) where
    lowest_reached : Reached bytes t set depth node
    lowest_reached = reached_down bytes t set j p depth node leads at

    module _ (two : Places) (is : places_of two ≡ halves_of (level_of bytes t depth) (span_at node)) (size : ℕ) (f : Front set (h - depth - 1) size) where
      front : Front set (h - (depth + 1)) size
      front = let e : h - depth - 1 ≡ h - (depth + 1) = omega arith in subst (λ (n : ℕ). Front set n size) e f

      apart : key h (depth + 1) (get_or set 0 0) ≡ key h (depth + 1) (get_or set (length set - 1) 0) → ⊥
      apart = low.part lowest_inner

      -- the rest of the set, as the code takes it
      rest_is : take (length set - size) (drop size set) ≡ drop size set
      rest_is = take_all (length set - size) (drop size set) (omega (arith, length-drop size set))

      pub front-asked : Under h (depth + 1) (take size set) × Reached bytes t (take size set) (depth + 1) two.zero
      front-asked = (
        under-front h depth set low.under lowest_inner size front apart,
        reached_zero bytes t set depth low.under lowest_inner size front apart node two is lowest_reached,
      )

      pub rest-asked : Under h (depth + 1) (take (length set - size) (drop size set))
          × Reached bytes t (take (length set - size) (drop size set)) (depth + 1) two.one
      rest-asked = rw rest_is (
        under_rest h depth set low.under lowest_inner size front apart,
        reached_one bytes t set depth low.under lowest_inner size front apart node two is lowest_reached,
      )

      module _ (zeros ones : ℕ) (a : CountsAt bytes t (take size set) (depth + 1) two.zero zeros)
          (b : CountsAt bytes t (take (length set - size) (drop size set)) (depth + 1) two.one ones) where
        pub parts_fit : zeros + ones ≤ t.entries + t.entries
        parts_fit =
            omega (
              arith,
              counts_fit bytes t (take size set) (depth + 1) two.zero zeros front-asked.1 a,
              counts_fit bytes t (take (length set - size) (drop size set)) (depth + 1) two.one ones rest-asked.1 b,
            )

        pub parts_count : CountsAt bytes t set j p (zeros + ones)
        parts_count =
            counts_up bytes t set j p depth node (zeros + ones) leads
            (counts-halves bytes t set depth low.under lowest_inner size front apart node two is zeros ones a
            (subst (λ (s : List ℕ). CountsAt bytes t s (depth + 1) two.one ones) rest_is b))

-- The pass over a range, as its loop keeps it: the entries from i on have been placed.
use Prim.Native.Nat.{ℕ, suc, ◌-◌, ◌^◌, ◌≤◌, ◌<◌}
use native.Mathlib.Omega.{arith}
use mathlib.Core.Path.{◌≡◌, refl, sym, ap, ◌∙◌, subst}
use mathlib.Core.List.{List}
use lib.ListN.{length, get_or, set, length-set}
use Rattle.wavelet.specs.declared.Levels.{Levels}
use Rattle.wavelet.specs.Levels.{Stored, entries_in}
use Rattle.wavelet.proofs.Stored.{length-entries_in, within_entries_in}
use Rattle.listing.specs.Places.{Ready, back_to, Cursors, FirstPlaces}
use Rattle.listing.proofs.Cursors.{length_back, cursors_ready, cursors_back}
use Rattle.listing.proofs.FirstPlaces.{first_none, first_more}
use Rattle.listing.proofs.Ways.{document_lt}

pub record Placed (bytes : List ℕ) (t : Levels) (a b : ℕ) (cursors₀ first₀ cursors first : List ℕ) (i : ℕ) : Type 0 where
  pub from : a ≤ i
  pub to : i ≤ b
  pub cursors_size : length cursors ≡ length cursors₀
  pub first-size : length first ≡ length first₀
  pub right : Cursors t.height (entries_in bytes t) a b i cursors
  pub placed : FirstPlaces (entries_in bytes t) i b first

module _ (bytes : List ℕ) (t : Levels) (s : Stored bytes t) (a b : ℕ) (bn : b ≤ t.entries) (cursors₀ first₀ : List ℕ) where
  abbrev h : ℕ
  h = t.height

  abbrev xs : List ℕ
  xs = entries_in bytes t

  pub placed_none : a ≤ b → Cursors h xs a b b cursors₀ → Placed bytes t a b cursors₀ first₀ cursors₀ first₀ b
  placed_none ab cs = record {
    from = ab;
    to = omega arith;
    cursors_size = refl;
    first-size = refl;
    right = cs;
    placed = first_none xs b first₀;
  }

  module _ (cursors first : List ℕ) (i : ℕ) (p : Placed bytes t a b cursors₀ first₀ cursors first i) (l : a < i) where
    abbrev x : ℕ
    x = get_or xs (i - 1) 0

    one : i ≡ suc (i - 1)
    one = omega arith

    inside : i - 1 < length xs
    inside = omega (arith, p.to, length-entries_in bytes t)

    size : b ≤ length xs
    size = omega (arith, length-entries_in bytes t)

    right-here : Cursors h xs a b (suc (i - 1)) cursors
    right-here = subst (λ (n : ℕ). Cursors h xs a b n cursors) one p.right

    pub placed_ready : Ready h xs (i - 1) cursors
    placed_ready = cursors_ready h xs (within_entries_in bytes t) (i - 1) inside a b (omega arith) (omega (arith, p.to)) size cursors right-here

    pub placed_more : (after placed : List ℕ) → 2 ^ h ≤ length cursors₀ → 2 ^ h ≤ length first₀ → after ≡ back_to h x h cursors → placed ≡ set first x (i - 1)
        → Placed bytes t a b cursors₀ first₀ after placed (i - 1)
    placed_more after placed rc rf ec ef = record {
      from = omega arith;
      to = omega (arith, p.to);
      cursors_size = ap length ec ∙ length_back h x h cursors ∙ p.cursors_size;
      first-size = ap length ef ∙ length-set first x (i - 1) ∙ p.first-size;
      right =
          subst (Cursors h xs a b (i - 1)) (sym ec)
          (cursors_back h xs (within_entries_in bytes t) (i - 1) inside a b (omega arith) (omega (arith, p.to)) size cursors right-here (omega (arith, p.cursors_size)));
      placed =
          subst (FirstPlaces xs (i - 1) b) (sym ef)
          (first_more xs (i - 1) b first (omega (arith, p.to)) size (omega (arith, document_lt bytes t s (i - 1) (omega (arith, p.to)), p.first-size))
          (subst (λ (n : ℕ). FirstPlaces xs n b first) one p.placed));
    }

-- Worked cases of halving, document 02, M-103, proved on the definitions: the tree of document 004's Fig. 1, the small library, an archive without entries.
use Rattle.std.specs.Prelude.{ℕ, ◌≡◌, refl, List, [], ◌∷◌, map}
use Rattle.bits.specs.Bits.{bits_of, pack, samples_of}
use Rattle.model.specs.Format.{Library, encode}
use Rattle.model.specs.Halving.{Stretch, bits_in, Mapped, Steps, size, steps_at}
use Rattle.model.specs.Cases.{small_archive}

abbrev at : ℕ → ℕ → ℕ → ℕ → Stretch
at start lower upper end = record { start = start; lower = lower; upper = upper; end = end }

abbrev to : ℕ → ℕ → Mapped
to zeros ones = record { zeros = zeros; ones = ones }

abbrev took : Mapped → Mapped → Stretch → Stretch → Steps
took lower upper zero_half one_half = record { lower = lower; upper = upper; zero_half = zero_half; one_half = one_half }

-- the counts of the two halves: "n0" and "n1"
pub record Counts : Type 0 where
  pub zeros : ℕ
  pub ones : ℕ

abbrev counts : ℕ → ℕ → Counts
counts zeros ones = record { zeros = zeros; ones = ones }

abbrev counts_of : Steps → Counts
counts_of s = counts (size s.zero_half) (size s.one_half)

-- the bits of a node, from its start up to its end
pub bits_of_a_node : bits_in (0 ∷ 1 ∷ 1 ∷ 0 ∷ 1 ∷ []) (at 1 1 1 4) ≡ 1 ∷ 1 ∷ 0 ∷ []
bits_of_a_node = refl

-- ---- Fig. 1 of document 004, its documents 1 to 8 as 0 to 7, and its region D[3..13] as the entries 2 up to but without 13

abbrev figure : Library
figure = record {
  documents = 8;
  lengths = 16 ∷ [];
  entries = 5 ∷ 1 ∷ 4 ∷ 5 ∷ 1 ∷ 2 ∷ 0 ∷ 7 ∷ 4 ∷ 0 ∷ 4 ∷ 4 ∷ 0 ∷ 3 ∷ 2 ∷ 6 ∷ [];
}

abbrev figure_at : ℕ → ℕ → Steps
figure_at = steps_at (encode figure) 2 13

-- the root: both ends mapped, then the two halves
pub figure_root : figure_at 0 0 ≡ took (to 1 1) (to 6 7) (at 0 1 6 8) (at 8 9 15 16)
unfolding encode bits_of pack samples_of
figure_root = refl

-- its halves: one that starts its row, and one inside it
pub figure_zero : figure_at 1 0 ≡ took (to 1 0) (to 5 1) (at 0 1 5 5) (at 5 5 6 8)
unfolding encode bits_of pack samples_of
figure_zero = refl

pub figure_one : figure_at 1 1 ≡ took (to 1 0) (to 6 1) (at 8 9 14 14) (at 14 14 15 16)
unfolding encode bits_of pack samples_of
figure_one = refl

-- the parents of the leaves. "As we enter leaf 8, we know that there are n0 = 3 copies of document 1"; "TF = 1, the n1 value of its parent node"
pub figure_leaves : map (λ q. counts_of (figure_at 2 q)) (0 ∷ 1 ∷ 2 ∷ 3 ∷ []) ≡ counts 3 1 ∷ counts 1 0 ∷ counts 4 1 ∷ counts 0 1 ∷ []
unfolding encode bits_of pack samples_of
figure_leaves = refl

-- ---- the small library, entries 3 1 0, none, 3 2 1 3 0

-- the root and its halves, for the whole, for term 2, for a range in the middle, and for an empty one
abbrev small_counts : ℕ → ℕ → List Counts
small_counts a b = counts_of (steps_at small_archive a b 0 0) ∷ map (λ q. counts_of (steps_at small_archive a b 1 q)) (0 ∷ 1 ∷ [])

pub small_whole : small_counts 0 8 ≡ counts 4 4 ∷ counts 2 2 ∷ counts 1 3 ∷ []
unfolding bits_of
small_whole = refl

pub small_term : small_counts 3 8 ≡ counts 2 3 ∷ counts 1 1 ∷ counts 1 2 ∷ []
unfolding bits_of
small_term = refl

pub small_middle : small_counts 2 6 ≡ counts 2 2 ∷ counts 1 1 ∷ counts 1 1 ∷ []
unfolding bits_of
small_middle = refl

pub small_empty : small_counts 4 4 ≡ counts 0 0 ∷ counts 0 0 ∷ counts 0 0 ∷ []
unfolding bits_of
small_empty = refl

-- an empty range still has a place in each half
pub small_place : steps_at small_archive 4 4 1 1 ≡ took (to 0 2) (to 0 2) (at 4 4 4 5) (at 5 7 7 8)
unfolding bits_of
small_place = refl

-- ---- an archive without entries

pub nothing : steps_at (encode (record { documents = 4; lengths = 0 ∷ []; entries = [] })) 0 0 1 1 ≡ took (to 0 0) (to 0 0) (at 0 0 0 0) (at 0 0 0 0)
unfolding encode bits_of pack samples_of
nothing = refl

-- The way of one entry down to its document, as the loop walks it.
use Prim.Native.Nat.{ℕ, suc, ◌+◌, ◌-◌, ◌*◌, ◌^◌, ◌≤◌, ◌<◌}
use native.Mathlib.Omega.{arith}
use native.Mathlib.Numerals.{add-one}
use mathlib.Core.Path.{◌≡◌, refl, sym, ap, ap₂, ◌∙◌}
use mathlib.Core.List.{List}
use lib.ListN.{length, get_or, set}
use Rattle.model.specs.Walk.{pos, key}
use Rattle.model.proofs.Lists.{within_at}
use Rattle.model.proofs.Wavelet.Rows.{key_leaf}
use Rattle.wavelet.specs.declared.Levels.{Levels}
use Rattle.wavelet.specs.Levels.{Stored, entries_in, level_of}
use Rattle.wavelet.proofs.Stored.{length-entries_in, within_entries_in}
use Rattle.listing.specs.Places.{holder, Ready, back_to}
use Rattle.listing.proofs.Numbers.{holder-root, holder_lt}
use Rattle.listing.proofs.Cursors.{length_back, cursor_is, cursor_lt, cursor_next}

-- at level j of the way of entry i: the node's number, and the cursors of the levels above one back
pub record Way (bytes : List ℕ) (t : Levels) (i : ℕ) (before : List ℕ) (cursors : List ℕ) (v j : ℕ) : Type 0 where
  pub deep : j ≤ t.height
  pub reached : v ≡ holder t.height j (get_or (entries_in bytes t) i 0)
  pub back : cursors ≡ back_to t.height (get_or (entries_in bytes t) i 0) j before

module _ (bytes : List ℕ) (t : Levels) (s : Stored bytes t) (i : ℕ) (l : i < t.entries) where
  abbrev h : ℕ
  h = t.height

  abbrev xs : List ℕ
  xs = entries_in bytes t

  abbrev x : ℕ
  x = get_or xs i 0

  inside : i < length xs
  inside = omega (arith, length-entries_in bytes t)

  pub document_lt : x < 2 ^ h
  document_lt = within_at (2 ^ h) xs i (within_entries_in bytes t) inside

  pub way_root : (before : List ℕ) → Way bytes t i before before 1 0
  way_root before = record { deep = omega arith; reached = sym (holder-root h x document_lt); back = refl }

  module _ (before cursors : List ℕ) (v j : ℕ) (w : Way bytes t i before cursors v j) where
    pub way_length : length cursors ≡ length before
    way_length = ap length w.back ∙ length_back h x j before

    -- the leaf has the document
    pub way_leaf : j ≡ h → v ≡ 2 ^ h + x
    way_leaf e = w.reached ∙ (λ k. 2 ^ (e k) + key h (e k) x) ∙ ap (λ (d : ℕ). 2 ^ h + d) (key_leaf h x)

    module _ (ready : Ready h xs i before) (m : j < h) where
      -- the place of the entry in the node
      abbrev p : ℕ
      p = pos h xs j (key h j x) i

      pub way_lt : v < 2 ^ h
      way_lt = omega (arith, w.reached, holder_lt h x document_lt j m)

      pub way_cursor : get_or cursors v 0 ≡ p + 1
      way_cursor = ap₂ (λ (c : List ℕ) (n : ℕ). get_or c n 0) w.back w.reached ∙ cursor_is h xs (within_entries_in bytes t) i inside before ready j m

      pub way_inside : p < t.entries
      way_inside = omega (arith, cursor_lt h xs (within_entries_in bytes t) i inside before ready j m, length-entries_in bytes t)

      pub way_next : (b : ℕ) → b ≡ get_or (level_of bytes t j) (get_or cursors v 0 - 1) 0
          → Way bytes t i before (set cursors v (get_or cursors v 0 - 1)) (2 * v + b) (j + 1)
      way_next b e =
          let c : get_or cursors v 0 - 1 ≡ p = omega (arith, way_cursor) in
          let next : 2 * v + b ≡ holder h (suc j) x = omega (
            arith,
            w.reached,
            e ∙ ap (λ (n : ℕ). get_or (level_of bytes t j) n 0) c,
            cursor_next h xs (within_entries_in bytes t) i inside before ready j m,
          ) in
          rw (add-one j) (record {
            deep = m;
            reached = next;
            back = λ k. set (w.back k) (w.reached k) (get_or (w.back k) (w.reached k) 0 - 1);
          })

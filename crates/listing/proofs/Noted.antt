-- What the descent notes: each node that holds an entry of the range has the range's end.
use Prim.Native.Nat.{ℕ, zero, suc, ◌+◌, ◌-◌, ◌*◌, ◌^◌, ◌≤◌, ◌<◌}
use native.Mathlib.Omega.{arith}
use native.Mathlib.Nat.{le_of_lt, le_trans, sub-zero, zero-add, two-pow-succ}
use native.Mathlib.Numerals.{add-one}
use native.Mathlib.Decide.{ℕ_discrete}
use mathlib.Core.Path.{◌≡◌, refl, sym, ap, ◌∙◌, subst}
use mathlib.Core.List.{List}
use mathlib.Core.Bool.{Bool, cond}
use lib.ListN.{length, get_or, set, length-set}
use lib.Seq.{get_or-set_same, get_or-set_other}
use borrow.Author.Tests.{eq-eqb, ne_eqb}
use Rattle.bits.specs.Sequences.{bit}
use Rattle.model.specs.Lists.{Within}
use Rattle.model.specs.Rows.{row}
use Rattle.model.specs.Walk.{pos, key}
use Rattle.model.proofs.Lists.{within_at}
use Rattle.model.proofs.Wavelet.Rows.{key_half, key_lt, key-root}
use Rattle.model.proofs.Wavelet.Counts.{pos_mono}
use Rattle.wavelet.specs.declared.Levels.{Levels}
use Rattle.wavelet.specs.declared.Span.{Span}
use Rattle.wavelet.specs.declared.Halves.{Halves}
use Rattle.wavelet.specs.Levels.{entries_in, level_of}
use Rattle.wavelet.specs.Spans.{halves_of, span_of}
use Rattle.wavelet.proofs.Stored.{length-entries_in, within_entries_in}
use Rattle.wavelet.proofs.Spans.{span-root, span-halves}
use Rattle.listing.specs.Places.{number_of, noted_from, noted_under, Cursors}
use Rattle.listing.proofs.Numbers.{number-level, number-place, number_lt}
use Rattle.listing.proofs.Cursors.{pos-suc}

-- ---- one step of the descent

-- a node without entries of the range, and a leaf
pub noted-empty : (rows : ℕ → List ℕ) (m j q : ℕ) (s : Span) (table : List ℕ) → s.lo ≡ s.hi → noted_from rows m j q s table ≡ table
noted-empty rows zero j q s table e = refl
noted-empty rows (suc m) j q s table e = rw (eq-eqb s.lo s.hi e)

module _ (bytes : List ℕ) (t : Levels) (j q : ℕ) (s : Span) (table : List ℕ) where
  pub noted_leaf : j ≡ t.height → noted_under bytes t j q s table ≡ table
  noted_leaf e =
      let z : t.height - j ≡ 0 = omega arith in
      ap (λ (m : ℕ). noted_from (level_of bytes t) m j q s table) z

  -- a node above the leaves with entries of the range
  module _ (two : Halves) (e : two ≡ halves_of (level_of bytes t j) s) (l : j < t.height) (n : s.lo ≡ s.hi → ⊥) where
    noted-halves : noted_under bytes t (j + 1) (2 * q + 1) two.one (noted_under bytes t (j + 1) (2 * q) two.zero (set table (number_of j q) s.hi))
        ≡ noted_under bytes t j q s table
    noted-halves =
        let rows : suc (t.height - suc j) ≡ t.height - j = omega arith in
        rw (e, add-one)
        (sym (ap (λ (b : Bool). cond b table both) (ne_eqb s.lo s.hi n)) ∙ ap (λ (m : ℕ). noted_from (level_of bytes t) m j q s table) rows)
      where
        both : List ℕ
        both =
            noted_from (level_of bytes t) (t.height - suc j) (suc j) (2 * q + 1) (halves_of (level_of bytes t j) s).one
            (noted_from (level_of bytes t) (t.height - suc j) (suc j) (2 * q) (halves_of (level_of bytes t j) s).zero (set table (number_of j q) s.hi))

    -- as the code goes on from table to table
    pub noted_both : (here zeros : List ℕ) → here ≡ set table (number_of j q) s.hi → zeros ≡ noted_under bytes t (j + 1) (2 * q) two.zero here
        → noted_under bytes t (j + 1) (2 * q + 1) two.one zeros ≡ noted_under bytes t j q s table
    noted_both here zeros eh ez =
        ap (noted_under bytes t (j + 1) (2 * q + 1) two.one) (ez ∙ ap (noted_under bytes t (j + 1) (2 * q) two.zero) eh) ∙ noted-halves

-- ---- all nodes below one

module _ (h : ℕ) (xs : List ℕ) (w : Within (2 ^ h) xs) (a b : ℕ) (ab : a ≤ b) (bn : b ≤ length xs) where
  -- the node q of level j with the range in it
  abbrev noted : ℕ → ℕ → ℕ → List ℕ → List ℕ
  noted m j q table = noted_from (λ j. row h j xs) m j q (span_of h xs a b j q) table

  abbrev note_at : ℕ → ℕ → List ℕ → List ℕ
  note_at j q table = set table (number_of j q) (pos h xs j q b)

  noted_step : (m j q : ℕ) → j < h → q < 2 ^ j → (table : List ℕ) → (pos h xs j q a ≡ pos h xs j q b → ⊥)
      → noted (suc m) j q table ≡ noted m (suc j) (2 * q + 1) (noted m (suc j) (2 * q) (note_at j q table))
  noted_step m j q l lq table n =
      ap (λ (c : Bool). cond c table (under (halves_of (row h j xs) (span_of h xs a b j q)))) (ne_eqb (pos h xs j q a) (pos h xs j q b) n)
      ∙ ap under (span-halves h xs a b w (le_trans ab bn) bn j q l lq)
    where
      under : Halves → List ℕ
      under two = noted_from (λ j. row h j xs) m (suc j) (2 * q + 1) two.one (noted_from (λ j. row h j xs) m (suc j) (2 * q) two.zero (note_at j q table))

  -- what each note keeps, all keep
  module _ (P : List ℕ → Type 0) (one : (j q : ℕ) (table : List ℕ) → j < h → q < 2 ^ j → P table → P (note_at j q table)) where
    noted_keeps : (m j q : ℕ) → j + m ≡ h → q < 2 ^ j → (table : List ℕ) → P table → P (noted m j q table)
    noted_keeps zero j q e l table p = p
    noted_keeps (suc m) j q e l table p =
        go (ℕ_discrete (pos h xs j q a) (pos h xs j q b)) (noted_keeps m (suc j) (2 * q) (omega arith) (rw (two-pow-succ j) (omega arith)) (note_at j q table))
        (noted_keeps m (suc j) (2 * q + 1) (omega arith) (rw (two-pow-succ j) (omega arith)) (noted m (suc j) (2 * q) (note_at j q table)))
      where
        go : Dec (pos h xs j q a ≡ pos h xs j q b)
            → (P (note_at j q table) → P (noted m (suc j) (2 * q) (note_at j q table)))
            → (P (noted m (suc j) (2 * q) (note_at j q table)) → P (noted m (suc j) (2 * q + 1) (noted m (suc j) (2 * q) (note_at j q table))))
            → P (noted (suc m) j q table)
        go (yes d) zeros ones = subst P (sym (noted-empty (λ j. row h j xs) (suc m) j q (span_of h xs a b j q) table d)) p
        go (no d) zeros ones = subst P (sym (noted_step m j q (omega arith) l table d)) (ones (zeros (one j q table (omega arith) l p)))

  -- a table with room for all nodes, in which the node r of level k has its end
  pub record Right (k r : ℕ) (table : List ℕ) : Type 0 where
    pub room : 2 ^ h ≤ length table
    pub there : get_or table (number_of k r) 0 ≡ pos h xs k r b

  room_note : (j q : ℕ) (table : List ℕ) → j < h → q < 2 ^ j → 2 ^ h ≤ length table → 2 ^ h ≤ length (note_at j q table)
  room_note j q table l m r = omega (arith, length-set table (number_of j q) (pos h xs j q b))

  right-here : (j q : ℕ) (table : List ℕ) → j < h → q < 2 ^ j → 2 ^ h ≤ length table → Right j q (note_at j q table)
  right-here j q table l m r = record {
    room = room_note j q table l m r;
    there = get_or-set_same table (number_of j q) (pos h xs j q b) 0 (omega (arith, number_lt h j q l m));
  }

  right_note : (k r : ℕ) → k < h → r < 2 ^ k → (j q : ℕ) (table : List ℕ) → j < h → q < 2 ^ j → Right k r table → Right k r (note_at j q table)
  right_note k r lk lr j q table l m right = go (ℕ_discrete (number_of k r) (number_of j q))
    where
      go : Dec (number_of k r ≡ number_of j q) → Right k r (note_at j q table)
      go (yes e) =
          let dk = number-level k r j q lr m e in
          let dr = number-place k r j q lr m e in
          subst (λ (n : ℕ). Right n r (note_at j q table)) (sym dk) (subst (λ (n : ℕ). Right j n (note_at j q table)) (sym dr) (right-here j q table l m right.room))
      go (no e) = record {
        room = room_note j q table l m right.room;
        there = get_or-set_other table (number_of j q) (number_of k r) (pos h xs j q b) 0 e ∙ right.there;
      }

  -- ---- the nodes that hold an entry of the range

  module _ (e : ℕ) (ea : a ≤ e) (eb : e < b) where
    abbrev x : ℕ
    x = get_or xs e 0

    x_lt : x < 2 ^ h
    x_lt = within_at (2 ^ h) xs e w (le_trans eb bn)

    q_lt : (j : ℕ) → j ≤ h → key h j x < 2 ^ j
    q_lt j l = key_lt h j x l x_lt

    -- they have entries of the range
    live : (j : ℕ) → pos h xs j (key h j x) a ≡ pos h xs j (key h j x) b → ⊥
    live j d =
        absurd (omega (
          arith,
          pos_mono (key h j) xs (key h j x) a e ea,
          pos-suc h xs j (key h j x) e (le_trans eb bn),
          ap bit (eq-eqb (key h j x) (key h j x) refl),
          pos_mono (key h j) xs (key h j x) (suc e) b eb,
        ))

    -- of those, the one of level k after the descent from the one of level j
    noted-holder : (k : ℕ) → k < h → (m j : ℕ) → j + m ≡ h → j ≤ k → (table : List ℕ) → 2 ^ h ≤ length table → Right k (key h k x) (noted m j (key h j x) table)
    noted-holder k lk zero j d l table room = absurd (omega arith)
    noted-holder k lk (suc m) j d l table room =
        subst (Right k (key h k x)) (sym (noted_step m j q (omega arith) (q_lt j (omega arith)) table (live j)))
        (go (ℕ_discrete j k) (noted-holder k lk m (suc j) (omega arith)))
      where
        q : ℕ
        q = key h j x

        here : List ℕ
        here = note_at j q table

        zeros : List ℕ
        zeros = noted m (suc j) (2 * q) here

        zero_lt : 2 * q < 2 ^ suc j
        zero_lt = let n = q_lt j (omega arith) in rw (two-pow-succ j) (omega arith)

        one_lt : 2 * q + 1 < 2 ^ suc j
        one_lt = let n = q_lt j (omega arith) in rw (two-pow-succ j) (omega arith)

        here_room : 2 ^ h ≤ length here
        here_room = room_note j q table (omega arith) (q_lt j (omega arith)) room

        zeros_room : 2 ^ h ≤ length zeros
        zeros_room = noted_keeps (λ l. 2 ^ h ≤ length l) room_note m (suc j) (2 * q) (omega arith) zero_lt here here_room

        by_zeros : Right k (key h k x) here → Right k (key h k x) zeros
        by_zeros = noted_keeps (Right k (key h k x)) (right_note k (key h k x) lk (q_lt k (le_of_lt lk))) m (suc j) (2 * q) (omega arith) zero_lt here

        by_ones : Right k (key h k x) zeros → Right k (key h k x) (noted m (suc j) (2 * q + 1) zeros)
        by_ones = noted_keeps (Right k (key h k x)) (right_note k (key h k x) lk (q_lt k (le_of_lt lk))) m (suc j) (2 * q + 1) (omega arith) one_lt zeros

        deeper : Dec (key h (suc j) x ≡ 2 * q + 1) → ((table : List ℕ) → 2 ^ h ≤ length table → Right k (key h k x) (noted m (suc j) (key h (suc j) x) table))
            → Right k (key h k x) (noted m (suc j) (2 * q + 1) zeros)
        deeper (yes c) ih = subst (λ (n : ℕ). Right k (key h k x) (noted m (suc j) n zeros)) c (ih zeros zeros_room)
        deeper (no c) ih =
            let even : key h (suc j) x ≡ 2 * q = omega (arith, key_half h j x (omega arith)) in
            by_ones (subst (λ (n : ℕ). Right k (key h k x) (noted m (suc j) n here)) even (ih here here_room))

        go : Dec (j ≡ k) → (suc j ≤ k → (table : List ℕ) → 2 ^ h ≤ length table → Right k (key h k x) (noted m (suc j) (key h (suc j) x) table))
            → Right k (key h k x) (noted m (suc j) (2 * q + 1) zeros)
        go (yes c) ih = by_ones (by_zeros (subst (λ (n : ℕ). Right n (key h n x) here) c (right-here j q table (omega arith) (q_lt j (omega arith)) room)))
        go (no c) ih = deeper (ℕ_discrete (key h (suc j) x) (2 * q + 1)) (ih (omega arith))

  noted-all : (table : List ℕ) → 2 ^ h ≤ length table → Cursors h xs a b b (noted h 0 0 table)
  noted-all table room e j ea eb l =
      let r : Right j (key h j (get_or xs e 0)) (noted h 0 (key h 0 (get_or xs e 0)) table) = noted-holder e ea eb j l h 0 (zero-add h) (omega arith) table room in
      rw (key-root h (get_or xs e 0) (x_lt e ea eb)) at r.there

-- from the root
pub noted-root : (bytes : List ℕ) (t : Levels) (a b : ℕ) → a ≤ b → b ≤ t.entries → (table : List ℕ) → 2 ^ t.height ≤ length table
    → Cursors t.height (entries_in bytes t) a b b (noted_under bytes t 0 0 (record { start = 0; lo = a; hi = b; end = t.entries }) table)
noted-root bytes t a b ab bl table room =
    let h : ℕ = t.height in
    let xs : List ℕ = entries_in bytes t in
    let n = length-entries_in bytes t in
    subst (Cursors h xs a b b) (sym (
    (λ i. noted_from (level_of bytes t) (sub-zero h i) 0 0 (record { start = 0; lo = a; hi = b; end = sym n i }) table)
    ∙ ap (λ (s : Span). noted_from (level_of bytes t) h 0 0 s table) (sym (span-root h xs a b (within_entries_in bytes t) (omega arith) (omega arith)))))
    (noted-all h xs (within_entries_in bytes t) a b ab (omega arith) table room)

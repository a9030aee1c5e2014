-- The documents that match, block by block: the loop has come to a document, and the ones before it are written.
use Prim.Native.Nat.{ℕ, zero, suc, ◌+◌, ◌-◌, ◌*◌, ◌/◌, ◌%◌, ◌^◌, ◌≤◌, ◌<◌, min}
use native.Mathlib.Nat.{mul-add-div, mul-add-mod_self_left, div-eq_of_lt, mod-eq_of_lt, add-zero, zero-add, mul-suc, mul-le-mul_left}
use native.Mathlib.Numerals.{add-one}
use native.Mathlib.Omega.{arith}
use native.Mathlib.Decide.{dec_le}
use mathlib.Core.Path.{◌≡◌, refl, sym, ap, ap₂, ◌∙◌, subst}
use mathlib.Core.List.{List, ◌∷◌, ◌++◌}
use mathlib.Core.Option.{some}
use mathlib.Core.Bool.{Bool, cond}
use lib.ListN.{length, length-append}
use lib.Seq.{sets, length-sets}
use lib.Pow.{pow_pos, pow-add, pow_mono}
use Rattle.std.proofs.lemmas.Grind.{div_ceil_times}
use Rattle.bits.specs.Sequences.{up_from, below}
use Rattle.bits.proofs.Tally.{up_from-append, length-up_from, tally_le_length}
use Rattle.model.specs.Lists.{keep}
use Rattle.model.specs.Grammar.{Expression}
use Rattle.model.specs.Reading.{evaluate}
use Rattle.model.proofs.Lists.{keep_append, length-keep}
use Rattle.model.proofs.Stores.{sets_append}
use Rattle.matching.specs.Sets.{holds, sets_by, set_at}
use Rattle.bitmaps.specs.Words.{block_height}
use Rattle.boolean.specs.Blocks.{members, matched}

-- what a test says of the numbers of a run, it says of the elements that are kept
pub keep_same : (p q : ℕ → Bool) (a n : ℕ) → ((j : ℕ) → j < n → p (a + j) ≡ q (a + j)) → keep p (up_from a n) ≡ keep q (up_from a n)
keep_same p q a zero same = refl
keep_same p q a (suc n) same =
    let first : p a ≡ q a = ap p (sym (add-zero a)) ∙ same 0 (omega arith) ∙ ap q (add-zero a) in
    let rest = keep_same p q (suc a) n (λ j h. ap p (omega arith) ∙ same (suc j) (omega arith) ∙ ap q (omega arith)) in
    λ i. cond (first i) (a ∷ rest i) (rest i)

-- ---- a block of w documents

module _ (w block : ℕ) (pos : 0 < w) where
  pub block_of : (j : ℕ) → j < w → (w * block + j) / w ≡ block
  block_of j l = mul-add-div pos block j ∙ ap (λ (n : ℕ). block + n) (div-eq_of_lt l) ∙ add-zero block

  pub place_in_lem : (j : ℕ) → j < w → (w * block + j) % w ≡ j
  place_in_lem j l = mul-add-mod_self_left w block j ∙ mod-eq_of_lt l

-- few blocks
pub block_lt : (h N block first : ℕ) → N ≤ 2 ^ h → first < N → first ≡ 2 ^ block_height h * block → block < 2 ^ (h - block_height h)
block_lt h N block first fit l e = go (dec_le (2 ^ (h - block_height h)) block)
  where
    whole : 2 ^ h ≡ 2 ^ block_height h * 2 ^ (h - block_height h)
    whole =
        let parts : h ≡ block_height h + (h - block_height h) = omega arith in
        ap (λ (n : ℕ). 2 ^ n) parts ∙ pow-add 2 (block_height h) (h - block_height h)

    go : Dec (2 ^ (h - block_height h) ≤ block) → block < 2 ^ (h - block_height h)
    go (yes m) = absurd (omega (arith, e, whole, mul-le-mul_left (2 ^ block_height h) m))
    go (no m) = omega arith

pub blocks_few : (h : ℕ) → h ≤ 12 → 2 ^ (h - block_height h) ≤ 64
blocks_few h low = pow_mono {i = h - block_height h} {j = 6} (omega arith)

pub blocks_most : (h : ℕ) → h ≤ 12 → 2 ^ block_height h ≤ 64
blocks_most h low = pow_mono {i = block_height h} {j = 6} (omega arith)

pub documents_few : (h : ℕ) → h ≤ 12 → 2 ^ h ≤ 4096
documents_few h low = pow_mono {i = h} {j = 12} low

-- the blocks are as many as hold N documents
module _ (h N block size blocks : ℕ) (e : size ≡ 2 ^ block_height h) (f : blocks ≡ N / size + min 1 (N % size)) where
  abbrev all-blocks : (N ≤ blocks * 2 ^ block_height h) × (blocks * 2 ^ block_height h < N + 2 ^ block_height h)
  all-blocks = rw (f, e) (div_ceil_times N (2 ^ block_height h) (pow_pos (block_height h)))

  pub block_starts : block < blocks → 2 ^ block_height h * block < N
  block_starts l = omega (arith, all-blocks.1, mul-le-mul_left (2 ^ block_height h) l, mul-suc (2 ^ block_height h) block)

  pub blocks_end : blocks ≤ block → N ≤ 2 ^ block_height h * block
  blocks_end l = omega (arith, all-blocks.0, mul-le-mul_left (2 ^ block_height h) l)

-- ---- the loop

module _ (masks : List ℕ) (e : Expression) (h : ℕ) where
  abbrev w : ℕ
  w = 2 ^ block_height h

  abbrev set : ℕ → ℕ
  set block = evaluate (sets_by (set_at masks block)) e

  abbrev in? : ℕ → Bool
  in? d = holds (set (d / w)) (d % w)

  -- the documents of a block
  members-are : (block first n : ℕ) → first ≡ w * block → n ≤ w → members (set block) first n ≡ keep in? (up_from first n)
  members-are block first n p l =
      keep_same (λ d. holds (set block) (d - first)) in? first n
      (λ j m.
      let here : first + j - first ≡ (first + j) % w = omega (arith, ap (λ (x : ℕ). (x + j) % w) p, place_in_lem w block (pow_pos (block_height h)) j (omega arith)) in
      let which : block ≡ (first + j) / w = sym (ap (λ (x : ℕ). (x + j) / w) p ∙ block_of w block (pow_pos (block_height h)) j (omega arith)) in
      ap₂ (λ (b x : ℕ). holds (set b) x) which here)

  pub record Coming (N : ℕ) (before : List ℕ) (found block first : ℕ) (answers : List ℕ) : Type 0 where
    pub inside : first ≤ N
    pub aligned : first < N → first ≡ w * block
    pub how_many : found ≡ length (keep in? (below first))
    pub stored : answers ≡ sets before 0 (keep in? (below first))

  module _ (N : ℕ) (before : List ℕ) where
    pub coming_first : Coming N before 0 0 0 before
    coming_first = record { inside = omega arith; aligned = λ l. omega arith; how_many = refl; stored = refl }

    module _ {found block first : ℕ} {answers : List ℕ} (o : Coming N before found block first answers) where
      pub coming_length : length answers ≡ length before
      coming_length = ap length o.stored ∙ length-sets before 0 (keep in? (below first))

      pub coming_room : found ≤ first
      coming_room = omega (arith, o.how_many, length-keep in? (below first), tally_le_length in? (below first), length-up_from 0 first)

      pub coming_next : first < N → (n r : ℕ) (after : List ℕ) → n ≡ min w (N - first)
          → r ≡ found + length (members (set block) first n) → after ≡ sets answers found (members (set block) first n)
          → Coming N before r (block + 1) (first + n) after
      coming_next l n r after es er ea =
          let p = o.aligned l in
          let new = members-are block first n p (omega arith) in
          let all : keep in? (below (first + n)) ≡ keep in? (below first) ++ members (set block) first n
          = ap (keep in?) (up_from-append 0 first n ∙ ap (λ (x : ℕ). below first ++ up_from x n) (zero-add first)) ∙ keep_append in? (below first) (up_from first n)
          ∙ ap (λ (ds : List ℕ). keep in? (below first) ++ ds) (sym new) in
          record {
            inside = omega arith;
            aligned = λ m. omega (arith, p, ap (λ (x : ℕ). w * x) (add-one block), mul-suc w block);
            how_many = omega (arith, er, o.how_many, ap length all, length-append (keep in? (below first)) (members (set block) first n));
            stored =
                ea ∙ ap₂ (λ (xs : List ℕ) (k : ℕ). sets xs k (members (set block) first n)) o.stored o.how_many
                ∙ ap (λ (k : ℕ). sets (sets before 0 (keep in? (below first))) k (members (set block) first n)) (sym (zero-add (length (keep in? (below first)))))
                ∙ sym (sets_append before 0 (keep in? (below first)) (members (set block) first n)) ∙ ap (sets before 0) (sym all);
          }

      pub coming_at : (place : ℕ) → first ≡ place → Coming N before found block place answers
      coming_at place same = subst (λ (f : ℕ). Coming N before found block f answers) same o

      pub coming_last : N ≤ first → (found ≡ length (matched masks (some e) h N)) × (answers ≡ sets before 0 (matched masks (some e) h N))
      coming_last l =
          let end : first ≡ N = omega (arith, o.inside) in
          (o.how_many ∙ ap (λ (n : ℕ). length (keep in? (below n))) end, o.stored ∙ ap (λ (n : ℕ). sets before 0 (keep in? (below n))) end)

    -- the turn of a block
    pub coming_turn : (size block found n r : ℕ) (answers after : List ℕ) → size ≡ w → w * block < N → Coming N before found block (min (w * block) N) answers
        → n ≡ min size (N - size * block) → r ≡ found + length (members (set block) (size * block) n) → after ≡ sets answers found (members (set block) (size * block) n)
        → Coming N before r (block + 1) (min (w * (block + 1)) N) after
    coming_turn size block found n r answers after e l o en er ea =
        let m : n ≡ min w (N - w * block) = rw e at en in
        let next = coming_next (coming_at o (w * block) (omega arith)) l n r after m (rw e at er) (rw e at ea) in
        coming_at next (min (w * (block + 1)) N) (omega (arith, m, ap (λ (x : ℕ). w * x) (add-one block), mul-suc w block))

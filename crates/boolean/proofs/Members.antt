-- The documents of a set, written one after the other: the loop has come to document i, and the set is shifted by as many. Eight are told at once.
use Prim.Native.Nat.{ℕ, zero, suc, ◌+◌, ◌-◌, ◌*◌, ◌/◌, ◌%◌, ◌^◌, ◌≤◌, ◌<◌}
use native.Mathlib.Nat.{zero-div, div-div-eq-div-mul, div-one, add-zero, le_refl, le_of_lt, pow-suc}
use native.Mathlib.Numerals.{add-one}
use native.Mathlib.Omega.{arith}
use mathlib.Core.Path.{◌≡◌, refl, sym, ap, ap₂, ◌∙◌}
use mathlib.Core.Logic.{◌⊎◌, inl, inr}
use mathlib.Core.List.{List, [], ◌∷◌, ◌++◌, append-nil}
use mathlib.Core.Bool.{Bool, true, false, cond, false≢true}
use lib.ListN.{length, set, length-append}
use lib.Seq.{sets, length-sets}
use lib.Dec.{eqb}
use lib.Pow.{pow-add, mod-pow-add}
use lib.Count.{count_trailing_zeros, under}
use borrow.Author.Tests.{eq-eqb}
use Rattle.bits.specs.Sequences.{up_from}
use Rattle.bits.proofs.Tests.{le_or_lt}
use Rattle.bits.proofs.Tally.{up_from-append, up_from_snoc, length-up_from, tally_le_length}
use Rattle.model.specs.Lists.{keep}
use Rattle.model.proofs.Lists.{keep_append, length-keep}
use Rattle.model.proofs.Stores.{sets_append}
use Rattle.answers.proofs.Occurrences.{keep_none}
use Rattle.matching.specs.Sets.{holds}
use Rattle.matching.proofs.Sets.{holds-suc, holds-zero}
use Rattle.boolean.specs.Blocks.{First, members}
use Rattle.boolean.proofs.Matched.{keep_same}

-- ---- the digits of a set

holds_shifted : (set i j : ℕ) → holds set (i + j) ≡ holds (set / 2 ^ i) j
holds_shifted set i j = ap (λ (n : ℕ). eqb (n % 2) 1) (ap (λ (n : ℕ). set / n) (pow-add 2 i j) ∙ sym (div-div-eq-div-mul set (2 ^ i) (2 ^ j)))

holds-zeros : (j : ℕ) → holds 0 j ≡ false
holds-zeros j = ap (λ (x : ℕ). eqb (x % 2) 1) (zero-div (2 ^ j))

-- a number below 2 ^ size has no digit from there on
holds_past : (size j m : ℕ) → m < 2 ^ size → size ≤ j → holds m j ≡ false
holds_past zero j m l h = let none : m ≡ 0 = omega arith in ap (λ (x : ℕ). holds x j) none ∙ holds-zeros j
holds_past (suc size) zero m l h = absurd (omega arith)
holds_past (suc size) (suc j) m l h =
    let half : m / 2 < 2 ^ size = omega (arith, pow-suc 2 size) in
    holds-suc m j ∙ holds_past size j (m / 2) half (omega arith)

-- the digits below 2 ^ size stay
among-suc : (size m : ℕ) → m % 2 ^ suc size ≡ (m / 2 % 2 ^ size) * 2 + m % 2
among-suc size m = ap (λ (n : ℕ). m % 2 ^ n) (sym (add-one size)) ∙ mod-pow-add m size 1

holds-among : (size j m : ℕ) → j < size → holds (m % 2 ^ size) j ≡ holds m j
holds-among zero j m l = absurd (omega arith)
holds-among (suc size) zero m l =
    let odd : m % 2 ^ suc size % 2 ≡ m % 2 = omega (arith, among-suc size m) in
    holds-zero (m % 2 ^ suc size) ∙ ap (λ (x : ℕ). eqb x 1) odd ∙ sym (holds-zero m)
holds-among (suc size) (suc j) m l =
    let half : m % 2 ^ suc size / 2 ≡ m / 2 % 2 ^ size = omega (arith, among-suc size m) in
    holds-suc (m % 2 ^ suc size) j ∙ ap (λ (x : ℕ). holds x j) half ∙ holds-among size j (m / 2) (omega arith) ∙ sym (holds-suc m j)

-- eight digits 1
low-one : (x j : ℕ) → j < 8 → x % 256 ≡ 255 → x / 2 ^ j % 2 ≡ 1
low-one x zero l e = omega arith
low-one x (suc zero) l e = omega arith
low-one x (suc (suc zero)) l e = omega arith
low-one x (suc (suc (suc zero))) l e = omega arith
low-one x (suc (suc (suc (suc zero)))) l e = omega arith
low-one x (suc (suc (suc (suc (suc zero))))) l e = omega arith
low-one x (suc (suc (suc (suc (suc (suc zero)))))) l e = omega arith
low-one x (suc (suc (suc (suc (suc (suc (suc zero))))))) l e = omega arith
low-one x (suc (suc (suc (suc (suc (suc (suc (suc j)))))))) l e = absurd (omega arith)

pub holds-all : (x j : ℕ) → j < 8 → x % 256 ≡ 255 → holds x j ≡ true
holds-all x j l e = eq-eqb (x / 2 ^ j % 2) 1 (low-one x j l e)

-- ---- the first document

record Lowest (k n z : ℕ) : Type 0 where
  few : z < k
  there : holds n z ≡ true
  none_before : (j : ℕ) → j < z → holds n j ≡ false

lowest_step : (k n d t : ℕ) → n % 2 ≡ d → (n % 2 ≡ 0 → Lowest k (n / 2) t) → Lowest (suc k) n (under d t)
lowest_step k n zero t e rest =
    let r = rest e in
    record { few = omega (arith, r.few); there = holds-suc n t ∙ r.there; none_before = before }
  where
    before : (j : ℕ) → j < suc t → holds n j ≡ false
    before zero l = holds-zero n ∙ ap (λ (x : ℕ). eqb x 1) e
    before (suc j) l = holds-suc n j ∙ (rest e).none_before j (omega arith)
lowest_step k n (suc zero) t e rest =
    record { few = omega arith; there = holds-zero n ∙ ap (λ (x : ℕ). eqb x 1) e; none_before = λ j l. absurd (omega arith) }
lowest_step k n (suc (suc d)) t e rest = absurd (omega arith)

lowest : (k n : ℕ) → 0 < n → n < 2 ^ k → Lowest k n (count_trailing_zeros k n)
unfolding count_trailing_zeros
lowest zero n p l = absurd (omega arith)
lowest (suc k) n p l =
    let half : n / 2 < 2 ^ k = omega (arith, pow-suc 2 k) in
    lowest_step k n (n % 2) (count_trailing_zeros k (n / 2)) refl (λ even. lowest k (n / 2) (omega arith) half)

pub first_by_zeros : (n : ℕ) → 0 < n → n < 2 ^ 64 → First n (count_trailing_zeros 64 n)
first_by_zeros n p l = let w = lowest 64 n p l in record { few = w.few; there = w.there; none_before = w.none_before }

-- ---- members

keep_all : (p : ℕ → Bool) (v n : ℕ) → ((w : ℕ) → v ≤ w → w < v + n → p w ≡ true) → keep p (up_from v n) ≡ up_from v n
keep_all p v zero f = refl
keep_all p v (suc n) f = rw (f v (le_refl v) (omega arith)) (ap (λ (ds : List ℕ). v ∷ ds) (keep_all p (suc v) n (λ w l m. f w (le_of_lt l) (omega arith))))

module _ (set first : ℕ) where
  abbrev in? : ℕ → Bool
  in? d = holds set (d - first)

  members_le : (n : ℕ) → length (members set first n) ≤ n
  members_le n = omega (arith, length-keep in? (up_from first n), tally_le_length in? (up_from first n), length-up_from first n)

  members-append : (m n : ℕ) → members set first (m + n) ≡ members set first m ++ keep in? (up_from (first + m) n)
  members-append m n = ap (keep in?) (up_from-append first m n) ∙ keep_append in? (up_from first m) (up_from (first + m) n)

  -- document j from place i on, by the set that is shifted by i
  in_shifted : (i d j : ℕ) → d ≡ first + (i + j) → in? d ≡ holds (set / 2 ^ i) j
  in_shifted i d j p = let at : d - first ≡ i + j = omega arith in ap (holds set) at ∙ holds_shifted set i j

  -- no document among the next ones
  members_none : (i n : ℕ) → ((j : ℕ) → j < n → holds (set / 2 ^ i) j ≡ false) → members set first (i + n) ≡ members set first i
  members_none i n none =
      members-append i n
      ∙ ap (λ (ds : List ℕ). members set first i ++ ds)
      (keep_none in? (first + i) n (λ d a b. in_shifted i d (d - first - i) (omega arith) ∙ none (d - first - i) (omega arith)))
      ∙ append-nil (members set first i)

  -- all of the next eight
  members-all : (i : ℕ) → set / 2 ^ i % 256 ≡ 255 → members set first (i + 8) ≡ members set first i ++ up_from (first + i) 8
  members-all i e =
      members-append i 8
      ∙ ap (λ (ds : List ℕ). members set first i ++ ds)
      (keep_all in? (first + i) 8 (λ d a b. in_shifted i d (d - first - i) (omega arith) ∙ holds-all (set / 2 ^ i) (d - first - i) (omega arith) e))

  -- the next document alone
  members_next : (i : ℕ) → holds set i ≡ true → members set first (i + 1) ≡ members set first i ++ ((first + i) ∷ [])
  members_next i e = members-append i 1 ∙ ap (λ (b : Bool). members set first i ++ cond b ((first + i) ∷ []) []) (ap (holds set) place ∙ e)
    where
      place : first + i - first ≡ i
      place = omega arith

-- of the set without documents from `size` on
pub members-among : (set first size : ℕ) → members (set % 2 ^ size) first size ≡ members set first size
members-among set first size =
    keep_same (λ d. holds (set % 2 ^ size) (d - first)) (λ d. holds set (d - first)) first size
    (λ j l. let at : first + j - first ≡ j = omega arith in ap (holds (set % 2 ^ size)) at ∙ holds-among size j set l ∙ ap (holds set) (sym at))

-- ---- the loop

pub record Put (set first size at : ℕ) (before : List ℕ) (left place i : ℕ) (answers : List ℕ) : Type 0 where
  pub few : set < 2 ^ size
  pub within : i ≤ size
  pub shifted : left ≡ set / 2 ^ i
  pub next : place ≡ at + length (members set first i)
  pub stored : answers ≡ sets before at (members set first i)

module _ (set first size at : ℕ) (before : List ℕ) where
  pub put_first : set < 2 ^ size → Put set first size at before set at 0 before
  put_first l = record { few = l; within = omega arith; shifted = sym (div-one set); next = sym (add-zero at); stored = refl }

  module _ {left place i : ℕ} {answers : List ℕ} (o : Put set first size at before left place i answers) where
    pub put-length : length answers ≡ length before
    put-length = ap length o.stored ∙ length-sets before at (members set first i)

    pub put_room : place ≤ at + i
    put_room = omega (arith, o.next, members_le set first i)

    -- what the shifted set holds is among the first so many
    pub put_inside : (j : ℕ) → holds left j ≡ true → i + j < size
    put_inside j e = go (le_or_lt size (i + j))
      where
        go : (size ≤ i + j) ⊎ (i + j < size) → i + j < size
        go (inl l) = absurd (false≢true (sym (holds_past size (i + j) set o.few l) ∙ holds_shifted set i j ∙ ap (λ (x : ℕ). holds x j) (sym o.shifted) ∙ e))
        go (inr l) = l

    shifted_by : (n : ℕ) → left / 2 ^ n ≡ set / 2 ^ (i + n)
    shifted_by n = ap (λ (x : ℕ). x / 2 ^ n) o.shifted ∙ div-div-eq-div-mul set (2 ^ i) (2 ^ n) ∙ ap (λ (x : ℕ). set / x) (sym (pow-add 2 i n))

    pub put_all : left % 256 ≡ 255 → (after : List ℕ) → after ≡ sets answers place (up_from (first + i) 8)
        → Put set first size at before (left / 2 ^ 8) (place + 8) (i + 8) after
    put_all e after ea =
        let more = members-all set first i (ap (λ (x : ℕ). x % 256) (sym o.shifted) ∙ e) in
        record {
          few = o.few;
          within = omega (arith, put_inside 7 (holds-all left 7 (omega arith) e));
          shifted = shifted_by 8;
          next = omega (arith, o.next, ap length more, length-append (members set first i) (up_from (first + i) 8), length-up_from (first + i) 8);
          stored =
              ea ∙ ap₂ (λ (xs : List ℕ) (k : ℕ). sets xs k (up_from (first + i) 8)) o.stored o.next
              ∙ sym (sets_append before at (members set first i) (up_from (first + i) 8)) ∙ ap (sets before at) (sym more);
        }

    pub put_one : (z : ℕ) → First left z → (after : List ℕ) → after ≡ sets answers place ((first + (i + z)) ∷ [])
        → Put set first size at before (left / 2 ^ z / 2 ^ 1) (place + 1) (i + (z + 1)) after
    put_one z f after ea =
        let none = members_none set first i z (λ j l. ap (λ (x : ℕ). holds x j) (sym o.shifted) ∙ f.none_before j l) in
        let there : holds set (i + z) ≡ true = holds_shifted set i z ∙ ap (λ (x : ℕ). holds x z) (sym o.shifted) ∙ f.there in
        let further : i + (z + 1) ≡ i + z + 1 = omega arith in
        let more : members set first (i + (z + 1)) ≡ members set first i ++ ((first + (i + z)) ∷ [])
        = ap (members set first) further ∙ members_next set first (i + z) there ∙ ap (λ (ds : List ℕ). ds ++ ((first + (i + z)) ∷ [])) none in
        record {
          few = o.few;
          within = omega (arith, put_inside z f.there);
          shifted = div-div-eq-div-mul left (2 ^ z) (2 ^ 1) ∙ ap (λ (x : ℕ). left / x) (sym (pow-add 2 z 1)) ∙ shifted_by (z + 1);
          next = omega (arith, o.next, ap length more, length-append (members set first i) ((first + (i + z)) ∷ []));
          stored =
              ea ∙ ap₂ (λ (xs : List ℕ) (k : ℕ). sets xs k ((first + (i + z)) ∷ [])) o.stored o.next
              ∙ sym (sets_append before at (members set first i) ((first + (i + z)) ∷ [])) ∙ ap (sets before at) (sym more);
        }

    -- none is left
    all-put : left ≡ 0 → members set first size ≡ members set first i
    all-put e =
        let rest : size ≡ i + (size - i) = omega (arith, o.within) in
        ap (members set first) rest
        ∙ members_none set first i (size - i) (λ j l. ap (λ (x : ℕ). holds x j) (sym o.shifted ∙ e) ∙ holds-zeros j)

    pub put_last : left ≡ 0 → (place ≡ at + length (members set first size)) × (answers ≡ sets before at (members set first size))
    put_last e =
        (o.next ∙ ap (λ (ds : List ℕ). at + length ds) (sym (all-put e)), o.stored ∙ ap (sets before at) (sym (all-put e)))

-- ---- eight documents

pub run_next : (l : List ℕ) (document place k : ℕ) (answers : List ℕ) → answers ≡ sets l place (up_from document k)
    → set answers (place + k) (document + k) ≡ sets l place (up_from document (k + 1))
run_next l document place k answers e =
    ap (λ (xs : List ℕ). set xs (place + k) (document + k)) e
    ∙ ap (λ (n : ℕ). sets (sets l place (up_from document k)) (place + n) ((document + k) ∷ [])) (sym (length-up_from document k))
    ∙ sym (sets_append l place (up_from document k) ((document + k) ∷ [])) ∙ ap (sets l place) (sym (up_from_snoc document k) ∙ ap (up_from document) (sym (add-one k)))

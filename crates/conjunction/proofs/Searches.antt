-- The search for the next common document: the order of its nodes, and what is passed when it stands at one.
use Prim.Native.Nat.{ℕ, zero, suc, ◌+◌, ◌-◌, ◌*◌, ◌/◌, ◌%◌, ◌^◌, ◌≤◌, ◌<◌}
use native.Mathlib.Numerals.{add-one}
use native.Mathlib.Nat.{mul-add, add-mul, zero-mul, mul-one, sub_self, two-pow-succ, mul-le-mul_right, suc-mul, div-eq_of_lt-le}
use native.Mathlib.Omega.{arith}
use mathlib.Core.Path.{◌≡◌, refl, sym, ap, ◌∙◌, subst}
use mathlib.Core.Logic.{◌⊎◌, inl, inr}
use mathlib.Core.List.{List}
use mathlib.Core.Bool.{true, false}
use lib.ListN.{length}
use lib.Dec.{eqb}
use lib.Pow.{pow_pos, pow-add}
use borrow.Author.Tests.{eq-eqb, ne_eqb, eqb-true, eqb-false}
use Rattle.bits.specs.Bits.{sum}
use Rattle.bits.proofs.Tests.{look, le_or_lt}
use Rattle.wavelet.specs.declared.Span.{Span}
use Rattle.paths.specs.declared.Node.{Node}
use Rattle.paths.specs.Paths.{Right, Held}
use Rattle.paths.proofs.Frames.{held_by}
use Rattle.conjunction.specs.Conjunction.{next_common, next_is, no_further}
use Rattle.conjunction.specs.Orders.{Ready, at, after_of, resume_of}
use Rattle.conjunction.proofs.Commons.{matches, Passed, next_found, next_nothing}

-- ---- the order of the nodes

-- a high half has a node above it
pub odd_above : (j n : ℕ) → n < 2 ^ j → n % 2 ≡ 1 → 1 ≤ j
odd_above zero n l e = absurd (omega arith)
odd_above (suc j) n l e = omega arith

pub after_up : (j n : ℕ) → n < 2 ^ j → n % 2 ≡ 1 → (n / 2 < 2 ^ (j - 1)) × (after_of (j - 1) (n / 2) ≡ after_of j n)
after_up zero n l e = absurd (omega arith)
after_up (suc j) n l e =
    let p : j ≡ suc j - 1 = omega arith in
    let m : n < 2 ^ j + 2 ^ j = rw (two-pow-succ j) at l in (
      subst (λ (i : ℕ). n / 2 < 2 ^ i) p (omega arith),
      ap (λ (i : ℕ). after_of i (n / 2)) (sym p) ∙ rw (eq-eqb (n % 2) 1 e),
    )

pub after-here : (j n : ℕ) → n < 2 ^ j → (n % 2 ≡ 1 → ⊥) → at j (n + 1) ≡ after_of j n
after-here zero n l e = let z : n + 1 ≡ 1 = omega arith in ap (at 0) z
after-here (suc j) n l e = rw (ne_eqb (n % 2) 1 e)

pub resume_first : (h from : ℕ) → from ≡ 0 → at 0 0 ≡ resume_of h from
resume_first h zero e = refl
resume_first h (suc d) e = absurd (omega arith)

pub resume_later : (h from : ℕ) → (from ≡ 0 → ⊥) → after_of h (from - 1) ≡ resume_of h from
resume_later h zero e = absurd (e refl)
resume_later h (suc d) e = let p : suc d - 1 ≡ d = omega arith in ap (after_of h) p

-- the path goes with it
held_after : (span : ℕ → ℕ → ℕ → Span) (size : ℕ) (path : List ℕ) (j q : ℕ) → Held span size path j q → Held span size path (after_of j q).level (after_of j q).number
held_after span size path zero q h = h
held_after span size path (suc j) q h = go (look (eqb (q % 2) 1)) (held_after span size path j (q / 2) h.2)
  where
    go : (eqb (q % 2) 1 ≡ true) ⊎ (eqb (q % 2) 1 ≡ false) → Held span size path (after_of j (q / 2)).level (after_of j (q / 2)).number
        → Held span size path (after_of (suc j) q).level (after_of (suc j) q).number
    go (inl e) up = rw e up
    go (inr e) up =
        let n = eqb-false (q % 2) 1 e in
        let p : q / 2 ≡ (q + 1) / 2 = omega arith in
        rw e (held_by (Right span size) path j (q / 2) (q + 1) p h.0 h.1 h.2)

-- a node of the tree or the one past the root, whose numbers start at s
pub record Stands (h : ℕ) (x : Node) (s : ℕ) : Type 0 where
  pub deep : x.level ≤ h
  pub inside : x.number ≤ 2 ^ x.level
  pub start : x.number * 2 ^ (h - x.level) ≡ s

-- after a node come the numbers behind it
pub after-stands : (h j q : ℕ) → j ≤ h → q < 2 ^ j → Stands h (after_of j q) ((q + 1) * 2 ^ (h - j))
after-stands h zero q d l =
    let z : 1 ≡ q + 1 = omega arith in
    record { deep = omega arith; inside = omega arith; start = ap (λ (x : ℕ). x * 2 ^ (h - 0)) z }
after-stands h (suc j) q d l = go (look (eqb (q % 2) 1)) (λ m. after-stands h j (q / 2) (omega arith) m)
  where
    m : q < 2 ^ j + 2 ^ j
    m = rw (two-pow-succ j) at l

    go : (eqb (q % 2) 1 ≡ true) ⊎ (eqb (q % 2) 1 ≡ false) → (q / 2 < 2 ^ j → Stands h (after_of j (q / 2)) ((q / 2 + 1) * 2 ^ (h - j)))
        → Stands h (after_of (suc j) q) ((q + 1) * 2 ^ (h - suc j))
    go (inl e) ih =
        let odd = eqb-true (q % 2) 1 e in
        let up : h - j ≡ suc (h - suc j) = omega arith in
        let two : (q / 2 + 1) * 2 ^ (h - j) ≡ (q + 1) * 2 ^ (h - suc j) =
        ap (λ (x : ℕ). (q / 2 + 1) * 2 ^ x) up ∙ ap (λ (x : ℕ). (q / 2 + 1) * x) (two-pow-succ (h - suc j)) ∙ twice (q / 2 + 1) (q + 1) (2 ^ (h - suc j)) (omega arith) in
        rw e (subst (Stands h (after_of j (q / 2))) two (ih (omega (arith, m))))
      where
        twice : (a b x : ℕ) → a + a ≡ b → a * (x + x) ≡ b * x
        twice a b x p = mul-add a x x ∙ sym (add-mul a a x) ∙ ap (λ (y : ℕ). y * x) p
    go (inr e) ih =
        let even = eqb-false (q % 2) 1 e in
        rw e (record { deep = d; inside = omega arith; start = refl })

pub resume_stands : (h from : ℕ) → from ≤ 2 ^ h → Stands h (resume_of h from) from
resume_stands h zero l = record { deep = omega arith; inside = omega arith; start = zero-mul (2 ^ (h - 0)) }
resume_stands h (suc d) l =
    let e : (d + 1) * 2 ^ (h - h) ≡ suc d = ap (λ (x : ℕ). (d + 1) * 2 ^ x) (sub_self h) ∙ mul-one (d + 1) ∙ add-one d in
    subst (Stands h (resume_of h (suc d))) e (after-stands h h d (omega arith) l)

-- past the root
all-numbers : (h j : ℕ) → j ≤ h → 2 ^ j * 2 ^ (h - j) ≡ 2 ^ h
all-numbers h j d = let e : j + (h - j) ≡ h = omega arith in sym (pow-add 2 j (h - j)) ∙ ap (λ (x : ℕ). 2 ^ x) e

pub stands_le : (h : ℕ) (x : Node) (s : ℕ) → Stands h x s → s ≤ 2 ^ h
stands_le h x s o =
    omega (arith, o.start, mul-le-mul_right (2 ^ (h - x.level)) o.inside, all-numbers h x.level o.deep)

-- ---- the search

module _ (span : ℕ → ℕ → ℕ → Span) (size : ℕ) (counts : ℕ → List ℕ) (h from : ℕ) where
  -- at the node q of level j nothing is found below it
  pub record Searching (path : List ℕ) (x : Node) : Type 0 where
    pub room : length path ≡ 468
    pub held : Held span size path x.level x.number
    pub stands : Stands h x (x.number * 2 ^ (h - x.level))
    pub on : from ≤ x.number * 2 ^ (h - x.level)
    pub passed : Passed counts from (x.number * 2 ^ (h - x.level))

  -- how much is left
  abbrev pub left : Node → ℕ
  left x = 13 * (2 ^ h - x.number * 2 ^ (h - x.level)) + (h - x.level)

  pub searching_start : (path : List ℕ) → length path ≡ 468 → from ≤ 2 ^ h → Ready span size path h from → Searching path (resume_of h from)
  searching_start path n l r =
      let s = resume_stands h from l in
      let e = s.start in
      record {
        room = n;
        held = first from r;
        stands = record { deep = s.deep; inside = s.inside; start = refl };
        on = omega arith;
        passed = λ d a b. absurd (omega arith);
      }
    where
      first : (from : ℕ) → Ready span size path h from → Held span size path (resume_of h from).level (resume_of h from).number
      first zero r = r
      first (suc d) r = held_after span size path h d r

  module _ {path : List ℕ} {x : Node} (o : Searching path x) where
    -- past a node that has no match
    module _ (l : x.number < 2 ^ x.level) where
      next : Stands h (after_of x.level x.number) ((x.number + 1) * 2 ^ (h - x.level))
      next = after-stands h x.level x.number o.stands.deep l

      behind : (after_of x.level x.number).number * 2 ^ (h - (after_of x.level x.number).level) ≡ x.number * 2 ^ (h - x.level) + 2 ^ (h - x.level)
      behind = next.start ∙ ap (λ (y : ℕ). y * 2 ^ (h - x.level)) (add-one x.number) ∙ suc-mul x.number (2 ^ (h - x.level))

      pub searching_past : ((d : ℕ) → d / 2 ^ (h - x.level) ≡ x.number → matches counts d ≡ false) → Searching path (after_of x.level x.number)
      searching_past f =
          let e = behind in
          let b = o.on in
          record {
            room = o.room;
            held = held_after span size path x.level x.number o.held;
            stands = record { deep = next.deep; inside = next.inside; start = refl };
            on = omega arith;
            passed = λ d a m. pass d a m (le_or_lt (x.number * 2 ^ (h - x.level)) d);
          }
        where
          pass : (d : ℕ) → from ≤ d → d < (after_of x.level x.number).number * 2 ^ (h - (after_of x.level x.number).level) → (x.number * 2 ^ (h - x.level) ≤ d) ⊎ (d < x.number * 2 ^ (h - x.level)) → matches counts d ≡ false
          pass d a m (inl n) = f d (div-eq_of_lt-le (2 ^ (h - x.level)) n (omega (arith, next.start)))
          pass d a m (inr n) = o.passed d a n

      pub past_less : h ≤ 12 → left (after_of x.level x.number) < left x
      past_less few = omega (arith, behind, pow_pos (h - x.level), stands_le h (after_of x.level x.number) ((x.number + 1) * 2 ^ (h - x.level)) next, next.start)

      -- a leaf with a match
      pub searching_found : x.level ≡ h → matches counts x.number ≡ true → next_common counts h from ≡ next_is x.number (sum (counts x.number))
      searching_found e t =
          let z : h - x.level ≡ 0 = omega arith in
          let s : x.number * 2 ^ (h - x.level) ≡ x.number = ap (λ (y : ℕ). x.number * 2 ^ y) z ∙ mul-one x.number in
          let b = o.on in
          next_found counts h from x.number (omega arith) (subst (λ (y : ℕ). x.number < 2 ^ y) e l) t (λ d a m. o.passed d a (omega arith))

    -- down to the low half
    module _ (l : x.level < h) where
      down : 2 * x.number * 2 ^ (h - (x.level + 1)) ≡ x.number * 2 ^ (h - x.level)
      down =
          let up : h - x.level ≡ suc (h - (x.level + 1)) = omega arith in
          sym (ap (λ (y : ℕ). x.number * 2 ^ y) up ∙ ap (λ (y : ℕ). x.number * y) (two-pow-succ (h - (x.level + 1))) ∙ twice x.number (2 ^ (h - (x.level + 1))))
        where
          twice : (a x : ℕ) → a * (x + x) ≡ 2 * a * x
          twice a x = omega arith

      pub searching_down : x.number < 2 ^ x.level → (after : List ℕ) → length after ≡ 468 → Held span size after (x.level + 1) (2 * x.number) → Searching after (at (x.level + 1) (2 * x.number))
      searching_down m after n d = record {
        room = n;
        held = d;
        stands = record { deep = omega arith; inside = rw (add-one x.level, two-pow-succ x.level) (omega arith); start = refl };
        on = omega (arith, down, o.on);
        passed = λ e a b. o.passed e a (omega (arith, down));
      }

      pub down_less : left (at (x.level + 1) (2 * x.number)) < left x
      down_less = omega (arith, down)

    -- past the root
    pub searching_none : 2 ^ x.level ≤ x.number → next_common counts h from ≡ no_further
    searching_none l =
        let e : x.number ≡ 2 ^ x.level = let i = o.stands.inside in omega arith in
        let s : x.number * 2 ^ (h - x.level) ≡ 2 ^ h = ap (λ (y : ℕ). y * 2 ^ (h - x.level)) e ∙ all-numbers h x.level o.stands.deep in
        next_nothing counts h from (λ d a b. o.passed d a (omega arith))

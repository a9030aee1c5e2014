-- What the three reading functions do with the parts of a question: each return, and each turn of a loop.
use Prim.Native.Nat.{ℕ, zero, suc, ◌+◌, ◌-◌, ◌^◌, ◌≤◌, ◌<◌}
use native.Mathlib.Omega.{arith}
use native.Mathlib.Decide.{dec_le}
use mathlib.Core.Path.{◌≡◌, refl, ap, ◌∙◌}
use mathlib.Core.List.{List, ◌∷◌}
use mathlib.Core.Option.{Option, none, some}
use mathlib.Core.Bool.{Bool, true, false, false≢true}
use lib.Bits.{bit_and, bit_or}
use lib.ListN.{length}
use lib.Dec.{eqb}
use borrow.Author.Tests.{eqb-true, eqb-false}
use Rattle.model.specs.Reading.{Frame, wanting, having, fresh, after, denied}
use Rattle.matching.specs.Parsing.{number_at, follows, place_after, together, complemented, denied_by, closed, Nots, Advances, Stops, onward, resumed, Negation, Conjunction, Disjunction}
use Rattle.matching.specs.declared.Parse.{Parse}
use Rattle.matching.specs.declared.Parse.TheVariants.{Parsed, Unread}
use Rattle.matching.proofs.Onward.{within, at_term, at_mark, at_no_operand, at_no_bracket, at-settled, at_unclosed}

-- the numbers left after a part
abbrev pub left : List ℕ → Parse → ℕ
left question (Parsed set next) = length question - next
left question Unread = 0

-- a mark stands within the question
pub room : (question : List ℕ) (mark at : ℕ) (p : Parse) → mark < 65535 → Advances question at p → follows question mark p ≡ true → (at + 1 < place_after p) × (place_after p ≤ length question)
room question mark at (Parsed set next) h a e =
    let inside = within question next (λ f. let g = eqb-true (number_at question next) mark e in omega arith) in
    omega (arith, a.0)
room question mark at Unread h a e = absurd (false≢true e)

pub fits : (question : List ℕ) (at : ℕ) (p : Parse) → Advances question at p → length question + 1 < 2 ^ 64 → place_after p < 2 ^ 64
fits question at (Parsed set next) a h = omega (arith, a.1)
fits question at Unread a h = omega arith

pub left_less : (question : List ℕ) (mark at : ℕ) (op : ℕ → ℕ → ℕ) (p r : Parse) → mark < 65535 → Advances question at p → follows question mark p ≡ true → Advances question (place_after p) r
    → left question (together op p r) < left question p
left_less question mark at op Unread r h a e b = absurd (false≢true e)
left_less question mark at op (Parsed x i) Unread h a e b = omega (arith, room question mark at (Parsed x i) h a e)
left_less question mark at op (Parsed x i) (Parsed y j) h a e b = omega (arith, room question mark at (Parsed x i) h a e, b.0, b.1)

module _ (setOf : ℕ → ℕ) (question : List ℕ) (at d : ℕ) where
  -- ---- negation

  pub of_term : number_at question at < 4096 → Negation setOf question at d (Parsed (setOf (number_at question at)) (at + 1))
  of_term h = record {
    advances = (omega arith, omega (arith, within question at (λ e. omega arith)));
    reads = λ fs f. at_term setOf question at h (wanting d fs f);
  }

  pub of_not : number_at question at ≡ 60002 → (r : Parse) → Negation setOf question (at + 1) d r → Negation setOf question at d (complemented r)
  of_not e (Parsed set next) n = record {
    advances = omega (arith, n.advances.0, n.advances.1);
    reads = λ fs f. at_mark setOf question at 60002 (omega arith) e (wanting d fs f) ∙ n.reads fs (denied f);
  }
  of_not e Unread n = record {
    advances = tt;
    reads = λ fs f. at_mark setOf question at 60002 (omega arith) e (wanting d fs f) ∙ n.reads fs (denied f);
  }

  pub of_other : 4096 ≤ number_at question at → (number_at question at ≡ 60002 → ⊥) → (number_at question at ≡ 60003 → ⊥) → Negation setOf question at d Unread
  of_other p q r = record { advances = tt; reads = at_no_operand setOf question at p q r d }

  -- ---- conjunction

  -- as far as the loop has come
  pub record Conjoining (r : Parse) : Type 0 where
    pub advances : Advances question at r
    pub reads : (fs : List (Frame ℕ)) (o : Option ℕ) → onward setOf question at (wanting d fs (fresh o)) ≡ resumed setOf question (having d fs o) r

  pub conjoining_first : (r : Parse) → Negation setOf question at d r → Conjoining r
  conjoining_first (Parsed set next) n = record { advances = n.advances; reads = λ fs o. n.reads fs (fresh o) }
  conjoining_first Unread n = record { advances = tt; reads = λ fs o. n.reads fs (fresh o) }

  pub conjoining_more : (p r : Parse) → Conjoining p → follows question 60000 p ≡ true → Negation setOf question (place_after p) d r → Conjoining (together bit_and p r)
  conjoining_more Unread r c e n = c
  conjoining_more (Parsed a i) Unread c e n = record {
    advances = tt;
    reads = λ fs o. c.reads fs o ∙ at_mark setOf question i 60000 (omega arith) (eqb-true (number_at question i) 60000 e) (having d fs o a) ∙ n.reads fs (after o a);
  }
  conjoining_more (Parsed a i) (Parsed b j) c e n = record {
    advances = omega (arith, c.advances.0, n.advances.0, n.advances.1);
    reads = λ fs o. c.reads fs o ∙ at_mark setOf question i 60000 (omega arith) (eqb-true (number_at question i) 60000 e) (having d fs o a) ∙ n.reads fs (after o a);
  }

  pub conjoining_last : (p : Parse) → Conjoining p → follows question 60000 p ≡ false → Conjunction setOf question at d p
  conjoining_last (Parsed a i) c e = record { advances = c.advances; stops = eqb-false (number_at question i) 60000 e; reads = c.reads }
  conjoining_last Unread c e = record { advances = tt; stops = tt; reads = c.reads }

  -- ---- disjunction

  pub record Disjoining (r : Parse) : Type 0 where
    pub advances : Advances question at r
    pub stops : Stops question 60000 r
    pub reads : (fs : List (Frame ℕ)) → onward setOf question at (wanting d fs (fresh none)) ≡ resumed setOf question (having d fs none) r

  pub disjoining_first : (r : Parse) → Conjunction setOf question at d r → Disjoining r
  disjoining_first r c = record { advances = c.advances; stops = c.stops; reads = λ fs. c.reads fs none }

  pub disjoining_more : (p r : Parse) → Disjoining p → follows question 60001 p ≡ true → Conjunction setOf question (place_after p) d r → Disjoining (together bit_or p r)
  disjoining_more Unread r c e n = c
  disjoining_more (Parsed a i) Unread c e n = record {
    advances = tt;
    stops = tt;
    reads = λ fs. c.reads fs ∙ at_mark setOf question i 60001 (omega arith) (eqb-true (number_at question i) 60001 e) (having d fs none a) ∙ n.reads fs (some a);
  }
  disjoining_more (Parsed a i) (Parsed b j) c e n = record {
    advances = omega (arith, c.advances.0, n.advances.0, n.advances.1);
    stops = n.stops;
    reads = λ fs. c.reads fs ∙ at_mark setOf question i 60001 (omega arith) (eqb-true (number_at question i) 60001 e) (having d fs none a) ∙ n.reads fs (some a)
        ∙ at-settled setOf question j n.stops d fs (some a) b;
  }

  pub disjoining_last : (p : Parse) → Disjoining p → follows question 60001 p ≡ false → Disjunction setOf question at d p
  disjoining_last (Parsed a i) c e = record { advances = c.advances; no_conjunction = c.stops; no_disjunction = eqb-false (number_at question i) 60001 e; reads = c.reads }
  disjoining_last Unread c e = record { advances = tt; no_conjunction = tt; no_disjunction = tt; reads = c.reads }

-- ---- any number of 'not'

module _ (setOf : ℕ → ℕ) (question : List ℕ) (d : ℕ) where
  by_nots : (n at : ℕ) → ((i : ℕ) → at ≤ i → i < at + n → number_at question i ≡ 60002) → (r : Parse) → Negation setOf question (at + n) d r
      → Negation setOf question at d (denied_by n r)
  by_nots zero at all r o =
      let here : at + 0 ≡ at = omega arith in
      rw here at o
  by_nots (suc n) at all r o =
      let next : at + suc n ≡ at + 1 + n = omega arith in
      of_not setOf question at d (all at (omega arith) (omega arith)) (denied_by n r)
      (by_nots n (at + 1) (λ i l m. all i (omega arith) (omega arith)) r (rw next at o))

  pub of-nots : (at place : ℕ) → Nots question at place → (r : Parse) → Negation setOf question place d r → Negation setOf question at d (denied_by (place - at) r)
  of-nots at place n r o =
      let to : place ≡ at + (place - at) = omega (arith, n.onward_from) in
      by_nots (place - at) at (λ i l m. n.all_not i l (omega (arith, n.onward_from))) r (rw to at o)

  denied-unread : (n : ℕ) → denied_by n Unread ≡ Unread
  denied-unread zero = refl
  denied-unread (suc n) = ap complemented (denied-unread n)

  pub of-nots-unread : (at place : ℕ) → Nots question at place → Negation setOf question place d Unread → Negation setOf question at d Unread
  of-nots-unread at place n o = rw (denied-unread (place - at)) at (of-nots at place n Unread o)

-- the loop that looks for the place
pub nots_next : (question : List ℕ) (at place : ℕ) → at ≤ place → ((i : ℕ) → at ≤ i → i < place → number_at question i ≡ 60002) → number_at question place ≡ 60002
    → (i : ℕ) → at ≤ i → i < place + 1 → number_at question i ≡ 60002
nots_next question at place l all here i a b = go (dec_le place i)
  where
    go : Dec (place ≤ i) → number_at question i ≡ 60002
    go (yes m) =
        let same : i ≡ place = omega arith in
        ap (number_at question) same ∙ here
    go (no m) = all i a (omega arith)

-- ---- brackets

pub of_too_deep : (setOf : ℕ → ℕ) (question : List ℕ) (at d : ℕ) → d ≡ 0 → number_at question at ≡ 60003 → Negation setOf question at d Unread
of_too_deep setOf question at d z e = record { advances = tt; reads = λ fs f. rw z (at_no_bracket setOf question at e fs f) }

module _ (setOf : ℕ → ℕ) (question : List ℕ) (at d : ℕ) (opens : number_at question at ≡ 60003) where
  of_bracket_suc : (r : Parse) → Disjunction setOf question (at + 1) d r → Negation setOf question at (suc d) (closed question r)
  of_bracket_suc Unread b = record {
    advances = tt;
    reads = λ fs f. at_mark setOf question at 60003 (omega arith) opens (wanting (suc d) fs f) ∙ b.reads (f ∷ fs);
  }
  of_bracket_suc (Parsed set next) b = by (eqb (number_at question next) 60004) refl
    where
      inside : (fs : List (Frame ℕ)) (f : Frame ℕ) → onward setOf question at (wanting (suc d) fs f) ≡ onward setOf question next (having d (f ∷ fs) none set)
      inside fs f = at_mark setOf question at 60003 (omega arith) opens (wanting (suc d) fs f) ∙ b.reads (f ∷ fs)

      by : (t : Bool) → eqb (number_at question next) 60004 ≡ t → Negation setOf question at (suc d) (closed question (Parsed set next))
      by true e = rw e (record {
        advances = omega (arith, b.advances.0, within question next (λ g. let h = eqb-true (number_at question next) 60004 e in omega arith));
        reads = λ fs f. inside fs f ∙ at_mark setOf question next 60004 (omega arith) (eqb-true (number_at question next) 60004 e) (having d (f ∷ fs) none set);
      })
      by false e = rw e (record {
        advances = tt;
        reads = λ fs f. inside fs f ∙ at_unclosed setOf question next b.no_conjunction b.no_disjunction (eqb-false (number_at question next) 60004 e) d f fs none set;
      })

pub of_bracket : (setOf : ℕ → ℕ) (question : List ℕ) (at d : ℕ) → number_at question at ≡ 60003 → (d ≡ 0 → ⊥) → (r : Parse) → Disjunction setOf question (at + 1) (d - 1) r → Negation setOf question at d (closed question r)
of_bracket setOf question at d opens may r b =
    let back : d ≡ suc (d - 1) = omega arith in
    rw back (of_bracket_suc setOf question at (d - 1) opens r b)

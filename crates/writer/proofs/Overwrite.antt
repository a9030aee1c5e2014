-- Laws of a list that is written into another: what stands where, and parts written one after the other.
use Prim.Native.Nat.{ℕ, ◌+◌, ◌-◌, ◌≤◌}
use mathlib.Core.Path.{◌≡◌, sym, ap, ap₂, ◌∙◌}
use mathlib.Core.List.{List, ◌++◌, append_assoc}
use native.Mathlib.Omega.{arith}
use lib.ListN.{length, take, drop, length-append, length-drop}
use lib.Seq.{length-take-le, take-append-le, take-take, take-add, take_at, drop_at, drop-append-add, drop-drop}
use Rattle.writer.specs.Writing.{overwrite_at}

-- a part is the end of a front part
part-front : (w a : ℕ) (l : List ℕ) → a ≤ length l → take w (drop a l) ≡ drop a (take (a + w) l)
part-front w a l h = sym (ap (drop a) (take-add a w l) ∙ drop_at (take a l) (take w (drop a l)) a (length-take-le a l h))

module _ (k : ℕ) (new old : List ℕ) (fits : k + length new ≤ length old) where
  front : length (take k old ++ new) ≡ k + length new
  front = omega (arith, length-append (take k old) new, length-take-le k old (omega arith))

  pub length-overwrite_at : length (overwrite_at k new old) ≡ length old
  length-overwrite_at =
      omega (arith, length-append (take k old ++ new) (drop (k + length new) old), front, length-drop (k + length new) old)

  pub take-overwrite_at : (a : ℕ) → a ≤ k → take a (overwrite_at k new old) ≡ take a old
  take-overwrite_at a h =
      let f = front in
      take-append-le a (take k old ++ new) (drop (k + length new) old) (omega arith)
      ∙ take-append-le a (take k old) new (omega (arith, length-take-le k old (omega arith)))
      ∙ take-take a k old h

  pub drop-overwrite_at : (a : ℕ) → k + length new ≤ a → drop a (overwrite_at k new old) ≡ drop a old
  drop-overwrite_at a h =
      let e : length (take k old ++ new) + (a - (k + length new)) ≡ a = omega (arith, front) in
      let f : k + length new + (a - (k + length new)) ≡ a = omega arith in
      ap (λ (i : ℕ). drop i (overwrite_at k new old)) (sym e)
      ∙ drop-append-add (take k old ++ new) (drop (k + length new) old) (a - (k + length new))
      ∙ drop-drop (a - (k + length new)) (k + length new) old
      ∙ ap (λ (i : ℕ). drop i old) f

  -- what is written
  pub part-overwrite_at : (w : ℕ) → length new ≡ w → take w (drop k (overwrite_at k new old)) ≡ new
  part-overwrite_at w e =
      ap (λ (l : List ℕ). take w (drop k l)) (append_assoc (take k old) new (drop (k + length new) old))
      ∙ ap (take w) (drop_at (take k old) (new ++ drop (k + length new) old) k (length-take-le k old (omega arith)))
      ∙ take_at new (drop (k + length new) old) w e

  -- parts before and behind it
  pub part-before : (a w : ℕ) → a + w ≤ k → take w (drop a (overwrite_at k new old)) ≡ take w (drop a old)
  part-before a w h =
      part-front w a (overwrite_at k new old) (rw length-overwrite_at (omega arith))
      ∙ ap (drop a) (take-overwrite_at (a + w) h)
      ∙ sym (part-front w a old (omega arith))

  pub part-behind : (a w : ℕ) → k + length new ≤ a → take w (drop a (overwrite_at k new old)) ≡ take w (drop a old)
  part-behind a w h = ap (take w) (drop-overwrite_at a h)

-- what is written right behind
pub overwrite_at_next : (k : ℕ) (a b old : List ℕ) (i : ℕ) → k + length a ≡ i → k + length a ≤ length old
    → overwrite_at i b (overwrite_at k a old) ≡ overwrite_at k (a ++ b) old
overwrite_at_next k a b old i e h =
    let f : length (take k old ++ a) ≡ i = front k a old h ∙ e in
    let g : i + length b ≡ k + length (a ++ b) = omega (arith, length-append a b) in
    ap₂ (λ (x y : List ℕ). x ++ b ++ y)
    (take_at (take k old ++ a) (drop (k + length a) old) i f)
    (drop-overwrite_at k a old h (i + length b) (omega arith) ∙ ap (λ (j : ℕ). drop j old) g)
    ∙ ap (λ (x : List ℕ). x ++ drop (k + length (a ++ b)) old) (append_assoc (take k old) a b)

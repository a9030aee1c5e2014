-- Lists of numbers and term tables, one number or one term longer.
use Prim.Native.Nat.{ℕ, ◌+◌, ◌<◌}
use mathlib.Core.Path.{◌≡◌, sym, ap, ◌∙◌}
use mathlib.Core.List.{List, [], ◌∷◌, ◌++◌, map, append_assoc}
use native.Mathlib.Numerals.{add-one}
use native.Mathlib.Omega.{arith}
use lib.ListN.{length, get_or, take}
use lib.Seq.{take-suc}
use Rattle.bits.specs.Bits.{concat, sum, little_endian}
use Rattle.model.specs.Format.{table_from}
use Rattle.model.proofs.Lists.{map-append, concat-append}

pub numbers-append : (xs ys : List ℕ) → concat (map little_endian (xs ++ ys)) ≡ concat (map little_endian xs) ++ concat (map little_endian ys)
numbers-append xs ys = ap concat (map-append little_endian xs ys) ∙ concat-append (map little_endian xs) (map little_endian ys)

pub numbers-suc : (xs : List ℕ) (i : ℕ) → i < length xs
    → concat (map little_endian (take i xs)) ++ little_endian (get_or xs i 0) ≡ concat (map little_endian (take (i + 1) xs))
numbers-suc xs i l =
    sym (ap (λ (ys : List ℕ). concat (map little_endian ys)) (ap (λ (k : ℕ). take k xs) (add-one i) ∙ take-suc xs i 0 l)
    ∙ numbers-append (take i xs) (get_or xs i 0 ∷ []))

table_append : (start : ℕ) (ls : List ℕ) (l : ℕ) → table_from start (ls ++ (l ∷ [])) ≡ table_from start ls ++ ((start + sum ls) ∷ l ∷ [])
table_append start [] l = ap (λ (s : ℕ). s ∷ l ∷ []) (omega arith)
table_append start (x ∷ ls) l =
    ap (λ (r : List ℕ). start ∷ x ∷ r)
    (table_append (start + x) ls l ∙ ap (λ (s : ℕ). table_from (start + x) ls ++ (s ∷ l ∷ [])) (omega arith))

pub table_suc : (ls : List ℕ) (t : ℕ) → t < length ls
    → concat (map little_endian (table_from 0 (take t ls))) ++ little_endian (sum (take t ls)) ++ little_endian (get_or ls t 0)
    ≡ concat (map little_endian (table_from 0 (take (t + 1) ls)))
table_suc ls t l =
    let z : 0 + sum (take t ls) ≡ sum (take t ls) = omega arith in
    let n = concat (map little_endian (table_from 0 (take t ls))) in
    append_assoc n (little_endian (sum (take t ls))) (little_endian (get_or ls t 0))
    ∙ sym (ap (λ (ys : List ℕ). concat (map little_endian (table_from 0 ys))) (ap (λ (k : ℕ). take k ls) (add-one t) ∙ take-suc ls t 0 l)
    ∙ ap (λ (ys : List ℕ). concat (map little_endian ys)) (table_append 0 (take t ls) (get_or ls t 0))
    ∙ numbers-append (table_from 0 (take t ls)) ((0 + sum (take t ls)) ∷ get_or ls t 0 ∷ [])
    ∙ ap (λ (s : ℕ). n ++ (little_endian s ++ little_endian (get_or ls t 0))) z)

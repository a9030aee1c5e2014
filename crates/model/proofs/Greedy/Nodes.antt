-- The nodes under a node, their leaves, and the order of the nodes by larger count, then place.
use Prim.Native.Nat.{ℕ, zero, suc, ◌+◌, ◌-◌, ◌*◌, ◌^◌, ◌≤◌, ◌<◌}
use native.Mathlib.Omega.{arith}
use native.Mathlib.Nat.{pow-suc, mul-one, zero-mul, zero-add, add-sub_of_le}
use mathlib.Core.Path.{◌≡◌, refl, sym, ap, ap₂, subst, ◌∙◌}
use mathlib.Core.Logic.{◌⊎◌, inl, inr}
use mathlib.Core.List.{List, [], ◌∷◌, ◌++◌}
use mathlib.Core.Bool.{Bool, true, false, ◌&&◌}
use lib.ListN.{length, length-append}
use lib.Dec.{eqb}
use borrow.Author.Tests.{eqb-true, eq-eqb, ne_eqb}
use Rattle.bits.specs.Sequences.{bit, tally, up_from, below}
use Rattle.bits.proofs.Tests.{look, or_cases, or_neither}
use Rattle.bits.proofs.Tally.{tally-append, tally_same, up_from-append}
use Rattle.model.specs.TopK.{Node, node, start}
use Rattle.model.specs.Lists.{Every}
use Rattle.model.specs.Frontier.{nodes, all_under, place, ahead_node, under}
use Rattle.model.proofs.Sorting.{every_head, every_tail, every_cons, every_append}
use Rattle.model.proofs.Priority.{ahead_true, true_ahead, ahead_trans, ahead-of_le}
use Rattle.model.proofs.Greedy.Abstract.{Counted}

-- ---- the nodes under a node, itself first

pub length-nodes : (l q : ℕ) → suc (length (nodes l q)) ≡ 2 ^ suc l
length-nodes zero q = refl
length-nodes (suc l) q =
    rw (length-append (nodes l (2 * q)) (nodes l (2 * q + 1)), pow-suc 2 (suc l))
    (omega (arith, length-nodes l (2 * q), length-nodes l (2 * q + 1)))

-- a node that lives and passes a test
abbrev pub living : (Node → Bool) → (Node → Bool) → Node → Bool
living lives p n = lives n && p n

-- ---- leaves

-- a test of documents, as one of nodes that only leaves pass
abbrev pub leafly : (ℕ → Bool) → Node → Bool
leafly p (node zero q) = p q
leafly p (node (suc l) q) = false

-- the documents among the nodes
abbrev pub documents : List Node → List ℕ
documents [] = []
documents (node zero q ∷ ns) = q ∷ documents ns
documents (node (suc l) q ∷ ns) = documents ns

pub tally-documents : (p : ℕ → Bool) (ns : List Node) → tally p (documents ns) ≡ tally (leafly p) ns
tally-documents p [] = refl
tally-documents p (node zero q ∷ ns) = omega (arith, tally-documents p ns)
tally-documents p (node (suc l) q ∷ ns) = omega (arith, tally-documents p ns)

documents-append : (ms ns : List Node) → documents (ms ++ ns) ≡ documents ms ++ documents ns
documents-append [] ns = refl
documents-append (node zero q ∷ ms) ns = ap (λ (r : List ℕ). q ∷ r) (documents-append ms ns)
documents-append (node (suc l) q ∷ ms) ns = documents-append ms ns

-- the leaves under a node, from the left
documents-nodes : (l q : ℕ) → documents (nodes l q) ≡ up_from (q * 2 ^ l) (2 ^ l)
documents-nodes zero q = rw (mul-one q)
documents-nodes (suc l) q =
    documents-append (nodes l (2 * q)) (nodes l (2 * q + 1))
    ∙ ap₂ ◌++◌ (documents-nodes l (2 * q)) (documents-nodes l (2 * q + 1))
    ∙ ap (λ (n : ℕ). up_from (2 * q * 2 ^ l) (2 ^ l) ++ up_from n (2 ^ l)) next
    ∙ sym (up_from-append (2 * q * 2 ^ l) (2 ^ l) (2 ^ l))
    ∙ ap₂ up_from first width
  where
    next : (2 * q + 1) * 2 ^ l ≡ 2 * q * 2 ^ l + 2 ^ l
    next = omega arith

    first : 2 * q * 2 ^ l ≡ q * 2 ^ suc l
    first = simp (pow-suc 2) (omega arith)

    width : 2 ^ l + 2 ^ l ≡ 2 ^ suc l
    width = simp (pow-suc 2) (omega arith)

up_from_past : (v s n : ℕ) → v < s → tally (eqb v) (up_from s n) ≡ 0
up_from_past v s zero h = refl
up_from_past v s (suc n) h = rw (ne_eqb v s (omega arith), up_from_past v (suc s) n (omega arith))

pub up_from-once : (v s n : ℕ) → tally (eqb v) (up_from s n) ≤ 1
up_from-once v s zero = omega arith
up_from-once v s (suc n) = go (look (eqb v s)) (up_from-once v (suc s) n)
  where
    go : (eqb v s ≡ true) ⊎ (eqb v s ≡ false) → tally (eqb v) (up_from (suc s) n) ≤ 1 → bit (eqb v s) + tally (eqb v) (up_from (suc s) n) ≤ 1
    go (inl e) i = let d = eqb-true v s e in rw (e, up_from_past v (suc s) n (omega arith)) (omega arith)
    go (inr e) i = rw e (omega arith)

pub leaf_once : (v l q : ℕ) → tally (leafly (eqb v)) (nodes l q) ≤ 1
leaf_once v l q = rw (← tally-documents (eqb v) (nodes l q), documents-nodes l q) (up_from-once v (q * 2 ^ l) (2 ^ l))

-- a node's first leaf is where it starts
pub first_leaf : (l q : ℕ) → 1 ≤ tally (leafly (eqb (q * 2 ^ l))) (nodes l q)
first_leaf zero q = rw (eq-eqb (q * 2 ^ 0) q (omega arith)) (omega arith)
first_leaf (suc l) q =
    let e : q * 2 ^ suc l ≡ 2 * q * 2 ^ l = simp (pow-suc 2) (omega arith) in
    let P : ℕ → Type 0 = λ s. 1 ≤ tally (leafly (eqb s)) (nodes (suc l) q) in
    subst P (sym e) (omega (arith, first_leaf l (2 * q), tally-append (leafly (eqb (2 * q * 2 ^ l))) (nodes l (2 * q)) (nodes l (2 * q + 1))))

pub start_leaf : (n : Node) → 1 ≤ tally (leafly (eqb (start n))) (under n)
start_leaf (node l q) = first_leaf l q

-- ---- the order

pub start_le_place : (n : Node) → 2 * start n ≤ place n
start_le_place (node zero q) = omega arith
start_le_place (node (suc l) q) = omega arith

pub place_le_start : (n : Node) → place n ≤ 2 * start n + 1
place_le_start (node zero q) = omega arith
place_le_start (node (suc l) q) = omega arith

place_lower : (l q : ℕ) → place (node (suc l) q) ≤ place (node l (2 * q))
place_lower zero q = omega arith
place_lower (suc l) q = simp (pow-suc 2) (omega arith)

place_upper : (l q : ℕ) → place (node (suc l) q) ≤ place (node l (2 * q + 1))
place_upper zero q = omega arith
place_upper (suc l) q = simp (pow-suc 2) (omega arith)

pub node_trans : (count : Node → ℕ) (n m o : Node) → ahead_node count n m ≡ true → ahead_node count m o ≡ true → ahead_node count n o ≡ true
node_trans count n m o e f =
    true_ahead (count n) (place n) (count o) (place o)
    (ahead_trans (count n) (place n) (count m) (place m) (count o) (place o) (ahead_true (count n) (place n) (count m) (place m) e)
    (ahead_true (count m) (place m) (count o) (place o) f))

node_ahead : (count : Node → ℕ) (n m : Node) → count m ≤ count n → place n ≤ place m → ahead_node count n m ≡ true
node_ahead count n m h k = true_ahead (count n) (place n) (count m) (place m) (ahead-of_le (count n) (place n) (count m) (place m) h k)

module _ (count : Node → ℕ) (lives : Node → Bool) (counted : Counted count lives) where
  -- what is ahead of a node is ahead of all under it
  pub ahead-under : (n : Node) (l q : ℕ) → ahead_node count n (node l q) ≡ true → Every (ahead_node count n) (nodes l q)
  ahead-under n zero q h = every_cons (ahead_node count n) (node zero q) [] h refl
  ahead-under n (suc l) q h =
      every_cons (ahead_node count n) (node (suc l) q) (nodes l (2 * q) ++ nodes l (2 * q + 1)) h
      (every_append (ahead_node count n) (nodes l (2 * q)) (nodes l (2 * q + 1))
      (ahead-under n l (2 * q) (node_trans count n (node (suc l) q) (node l (2 * q)) h lower))
      (ahead-under n l (2 * q + 1) (node_trans count n (node (suc l) q) (node l (2 * q + 1)) h upper)))
    where
      lower : ahead_node count (node (suc l) q) (node l (2 * q)) ≡ true
      lower = node_ahead count (node (suc l) q) (node l (2 * q)) (counted.lower_le l q) (place_lower l q)

      upper : ahead_node count (node (suc l) q) (node l (2 * q + 1)) ≡ true
      upper = node_ahead count (node (suc l) q) (node l (2 * q + 1)) (counted.upper_le l q) (place_upper l q)

  pub ahead-all-under : (n : Node) (ms : List Node) → Every (ahead_node count n) ms → Every (ahead_node count n) (all_under ms)
  ahead-all-under n [] h = refl
  ahead-all-under n (node l q ∷ ms) h =
      every_append (ahead_node count n) (nodes l q) (all_under ms) (ahead-under n l q (every_head (ahead_node count n) (node l q) ms h))
      (ahead-all-under n ms (every_tail (ahead_node count n) (node l q) ms h))

  -- ---- nodes that live

  -- under a node that does not live none does
  pub dead_under : (p : Node → Bool) (l q : ℕ) → lives (node l q) ≡ false → tally (living lives p) (nodes l q) ≡ 0
  dead_under p zero q e = rw e
  dead_under p (suc l) q e =
      let t = or_neither (lives (node l (2 * q))) (lives (node l (2 * q + 1))) (sym (counted.lives_halves l q) ∙ e) in
      rw (e, tally-append (living lives p) (nodes l (2 * q)) (nodes l (2 * q + 1)), dead_under p l (2 * q) t.0, dead_under p l (2 * q + 1) t.1)

  -- under a node that lives some leaf does
  pub leaf_under : (l q : ℕ) → lives (node l q) ≡ true → 1 ≤ tally (living lives (leafly (λ d. true))) (nodes l q)
  leaf_under zero q e = rw e (omega arith)
  leaf_under (suc l) q e =
      go (or_cases (lives (node l (2 * q))) (lives (node l (2 * q + 1))) (sym (counted.lives_halves l q) ∙ e)) (leaf_under l (2 * q))
      (leaf_under l (2 * q + 1))
    where
      p : Node → Bool
      p n = living lives (leafly (λ d. true)) n

      go : (lives (node l (2 * q)) ≡ true) ⊎ (lives (node l (2 * q + 1)) ≡ true)
          → (lives (node l (2 * q)) ≡ true → 1 ≤ tally p (nodes l (2 * q)))
          → (lives (node l (2 * q + 1)) ≡ true → 1 ≤ tally p (nodes l (2 * q + 1)))
          → 1 ≤ tally p (nodes (suc l) q)
      go (inl f) i j = omega (arith, i f, tally-append p (nodes l (2 * q)) (nodes l (2 * q + 1)))
      go (inr f) i j = omega (arith, j f, tally-append p (nodes l (2 * q)) (nodes l (2 * q + 1)))

-- ---- the documents of a tree, where of the numbers below 2 ^ h only those below N live

module _ (lives : Node → Bool) (h N : ℕ) (fits : N ≤ 2 ^ h) (outside : (d : ℕ) → N ≤ d → d < 2 ^ h → lives (node zero d) ≡ false) where
  pub living-documents : (p : ℕ → Bool) → tally (living lives (leafly p)) (nodes h 0) ≡ tally (λ d. lives (node zero d) && p d) (below N)
  living-documents p =
      tally_same (living lives (leafly p)) (leafly shown) leaf_shown (nodes h 0)
      ∙ sym (tally-documents shown (nodes h 0))
      ∙ ap (tally shown) (documents-nodes h 0 ∙ split)
      ∙ tally-append shown (below N) (up_from N (2 ^ h - N))
      ∙ omega (arith, past N (2 ^ h - N) (omega arith) (omega arith))
    where
      shown : ℕ → Bool
      shown d = lives (node zero d) && p d

      none : (b : Bool) → (b && false) ≡ false
      none true = refl
      none false = refl

      leaf_shown : (n : Node) → living lives (leafly p) n ≡ leafly shown n
      leaf_shown (node zero d) = refl
      leaf_shown (node (suc l) q) = none (lives (node (suc l) q))

      split : up_from (0 * 2 ^ h) (2 ^ h) ≡ below N ++ up_from N (2 ^ h - N)
      split =
          ap₂ up_from (zero-mul (2 ^ h)) (sym (add-sub_of_le fits)) ∙ up_from-append 0 N (2 ^ h - N)
          ∙ ap (λ (s : ℕ). below N ++ up_from s (2 ^ h - N)) (zero-add N)

      past : (s n : ℕ) → N ≤ s → s + n ≤ 2 ^ h → tally shown (up_from s n) ≡ 0
      past s zero l u = refl
      past s (suc n) l u = rw (outside s l (omega arith)) (omega (arith, past (suc s) n (omega arith) (omega arith)))

-- The inner nodes before a leaf, in sorted order, are those that its document needs.
use Prim.Native.Nat.{ℕ, zero, suc, ◌+◌, ◌-◌, ◌*◌, ◌^◌}
use native.Mathlib.Omega.{arith}
use native.Mathlib.Nat.{sub-zero, suc-sub-suc, pow-suc, mul-one, zero-mul}
use mathlib.Core.Path.{◌≡◌, refl, sym, ap, ap₂, ◌∙◌, fun_ext}
use mathlib.Core.Logic.{◌⊎◌, inl, inr}
use mathlib.Core.List.{List, [], ◌∷◌, ◌++◌, map}
use mathlib.Core.Bool.{Bool, true, false, not, ◌&&◌, ◌||◌, true≢false}
use lib.ListN.{take}
use lib.Dec.{leb, ltb}
use Rattle.bits.specs.Sequences.{bit, tally, up_from, below}
use Rattle.bits.specs.Bits.{concat}
use Rattle.bits.proofs.Tests.{look, eqb_swap}
use Rattle.bits.proofs.Tally.{tally_le, tally_same, tally-append, up_from-append}
use Rattle.model.specs.Queries.{Pair}
use Rattle.model.specs.TopK.{Node, node, start, inner_nodes, last}
use Rattle.model.specs.Lists.{Every, Sorted}
use Rattle.model.specs.Frontier.{nodes, place, ahead_node, ahead_of}
use Rattle.model.proofs.Lists.{map-append}
use Rattle.model.proofs.Sorting.{every_head, every_tail, every_cons, every_take}
use Rattle.model.proofs.Priority.{Ahead, ahead_true, true_ahead}
use Rattle.model.proofs.Ranking.{every_last}
use Rattle.model.proofs.Greedy.Abstract.{leaf_pair, need_by, needed_for, need_for}
use Rattle.model.proofs.Greedy.Nodes.{living}
use Rattle.model.proofs.Greedy.Moves.{toll_of, pairs_in}

-- ---- the inner nodes, level by level

-- a test of nodes, which leaves do not pass
abbrev pub innerly : (Node → Bool) → Node → Bool
innerly p (node zero q) = false
innerly p (node (suc l) q) = p (node (suc l) q)

-- the nodes under node l q at depth i below it
abbrev level : ℕ → ℕ → ℕ → List Node
level l q i = map (node (l - i)) (up_from (q * 2 ^ i) (2 ^ i))

level-halves : (l q i : ℕ) → level (suc l) q (suc i) ≡ level l (2 * q) i ++ level l (2 * q + 1) i
level-halves l q i =
    ap (λ (k : ℕ). map (node k) (up_from (q * 2 ^ suc i) (2 ^ suc i))) (suc-sub-suc l i)
    ∙ ap₂ (λ s n. map (node (l - i)) (up_from s n)) first width
    ∙ ap (map (node (l - i))) (up_from-append (2 * q * 2 ^ i) (2 ^ i) (2 ^ i))
    ∙ map-append (node (l - i)) (up_from (2 * q * 2 ^ i) (2 ^ i)) (up_from (2 * q * 2 ^ i + 2 ^ i) (2 ^ i))
    ∙ ap (λ (s : ℕ). level l (2 * q) i ++ map (node (l - i)) (up_from s (2 ^ i))) next
  where
    next : 2 * q * 2 ^ i + 2 ^ i ≡ (2 * q + 1) * 2 ^ i
    next = omega arith

    first : q * 2 ^ suc i ≡ 2 * q * 2 ^ i
    first = simp (pow-suc 2) (omega arith)

    width : 2 ^ suc i ≡ 2 ^ i + 2 ^ i
    width = simp (pow-suc 2) (omega arith)

tally_levels : (p : Node → Bool) (l q s n : ℕ)
    → tally p (concat (map (level (suc l) q) (up_from (suc s) n)))
    ≡ tally p (concat (map (level l (2 * q)) (up_from s n))) + tally p (concat (map (level l (2 * q + 1)) (up_from s n)))
tally_levels p l q s zero = refl
tally_levels p l q s (suc n) =
    omega (
      arith,
      tally-append p (level (suc l) q (suc s)) (concat (map (level (suc l) q) (up_from (suc (suc s)) n))),
      ap (tally p) (level-halves l q s),
      tally-append p (level l (2 * q) s) (level l (2 * q + 1) s),
      tally-append p (level l (2 * q) s) (concat (map (level l (2 * q)) (up_from (suc s) n))),
      tally-append p (level l (2 * q + 1) s) (concat (map (level l (2 * q + 1)) (up_from (suc s) n))),
      tally_levels p l q (suc s) n,
    )

tally_inner : (p : Node → Bool) (l q : ℕ) → tally p (concat (map (level l q) (up_from 0 l))) ≡ tally (innerly p) (nodes l q)
tally_inner p zero q = refl
tally_inner p (suc l) q =
    let top : tally p (level (suc l) q 0) ≡ bit (p (node (suc l) q)) = rw (sub-zero (suc l), mul-one q) (omega arith) in
    omega (
      arith,
      tally-append p (level (suc l) q 0) (concat (map (level (suc l) q) (up_from 1 l))),
      tally_levels p l q 0 l,
      tally-append (innerly p) (nodes l (2 * q)) (nodes l (2 * q + 1)),
      tally_inner p l (2 * q),
      tally_inner p l (2 * q + 1),
    )

tally-inner_nodes : (p : Node → Bool) (h : ℕ) → tally p (inner_nodes h) ≡ tally (innerly p) (nodes h 0)
tally-inner_nodes p h =
    ap (λ (f : ℕ → List Node). tally p (concat (map f (below h))))
    (fun_ext (λ (j : ℕ). ap (λ (s : ℕ). map (node (h - j)) (up_from s (2 ^ j))) (sym (zero-mul (2 ^ j)))))
    ∙ tally_inner p h 0

-- ---- the nodes that a document needs

module _ (count : Node → ℕ) where
  -- the node's count is above that of the pair, or equal to it with a start not above the pair's document
  abbrev pub wanted : Pair → Node → Bool
  wanted p n = ahead_of (count n) (start n) p.count p.document

  -- ahead of a leaf: wanted
  ahead-wanted : (l q d : ℕ) → ahead_node count (node (suc l) q) (node zero d) ≡ true → wanted (leaf_pair count d) (node (suc l) q) ≡ true
  ahead-wanted l q d e =
      let n = node (suc l) q in
      true_ahead (count n) (start n) (count (node zero d)) d (go (ahead_true (count n) (place n) (count (node zero d)) (place (node zero d)) e))
    where
      go : Ahead (count (node (suc l) q)) (place (node (suc l) q)) (count (node zero d)) (place (node zero d))
          → Ahead (count (node (suc l) q)) (q * 2 ^ suc l) (count (node zero d)) d
      go (inl a) = inl a
      go (inr b) = inr (omega arith)

  -- behind a leaf: not wanted
  wanted_not_ahead : (d : ℕ) (n : Node) → innerly (wanted (leaf_pair count d)) n ≡ true → not (ahead_node count (node zero d) n) ≡ true
  wanted_not_ahead d (node zero q) e = absurd (true≢false (sym e))
  wanted_not_ahead d (node (suc l) q) e =
      go (look (ahead_node count (node zero d) (node (suc l) q)))
    where
      n : Node
      n = node (suc l) q

      clash : Ahead (count (node zero d)) (place (node zero d)) (count n) (place (node (suc l) q))
          → Ahead (count n) (q * 2 ^ suc l) (count (node zero d)) d → ⊥
      clash (inl a) (inl b) = omega arith
      clash (inl a) (inr b) = omega arith
      clash (inr a) (inl b) = omega arith
      clash (inr a) (inr b) = omega arith

      go : (ahead_node count (node zero d) n ≡ true) ⊎ (ahead_node count (node zero d) n ≡ false) → not (ahead_node count (node zero d) n) ≡ true
      go (inl f) =
          absurd (clash (ahead_true (count (node zero d)) (place (node zero d)) (count n) (place n) f)
          (ahead_true (count n) (q * 2 ^ suc l) (count (node zero d)) d e))
      go (inr f) = rw f

  -- what holds of leaves among the nodes, of their documents
  pub every_pair : (p : Node → Bool) (r : Pair → Bool) → ((d : ℕ) → p (node zero d) ≡ true → r (leaf_pair count d) ≡ true)
      → (ns : List Node) → Every p ns → Every r (pairs_in count ns)
  every_pair p r f [] a = refl
  every_pair p r f (node zero d ∷ ns) a =
      every_cons r (leaf_pair count d) (pairs_in count ns) (f d (every_head p (node zero d) ns a)) (every_pair p r f ns (every_tail p (node zero d) ns a))
  every_pair p r f (node (suc l) q ∷ ns) a = every_pair p r f ns (every_tail p (node (suc l) q) ns a)

  -- the need of a front part, along a sorted list of nodes
  abbrev along : List Node → Pair → ℕ
  along ns p = tally (innerly (wanted p)) ns

  pub need-toll : (ns : List Node) → Sorted (ahead_node count) ns → (m : ℕ)
      → need_by (along ns) (take m (pairs_in count ns)) ≡ toll_of ns (take m (pairs_in count ns))
  need-toll [] s zero = refl
  need-toll [] s (suc m) = refl
  need-toll (node zero d ∷ ns) s zero = refl
  need-toll (node zero d ∷ ns) s (suc m) = go (take m (pairs_in count ns)) (need-toll ns s.1 m)
    where
      go : (ps : List Pair) → need_by (along ns) ps ≡ toll_of ns ps → along (node zero d ∷ ns) (last (leaf_pair count d) ps) ≡ toll_of ns ps
      go [] i =
          omega (arith, tally_le (innerly (wanted (leaf_pair count d))) (λ n. not (ahead_node count (node zero d) n)) (wanted_not_ahead d) ns, s.0)
      go (p ∷ ps) i = omega arith
  need-toll (node (suc l) q ∷ ns) s m =
      go (take m (pairs_in count ns)) (need-toll ns s.1 m)
      (every_take (λ p. wanted p (node (suc l) q)) m (pairs_in count ns)
      (every_pair (ahead_node count (node (suc l) q)) (λ p. wanted p (node (suc l) q)) (ahead-wanted l q) ns s.0))
    where
      go : (ps : List Pair) → need_by (along ns) ps ≡ toll_of ns ps → Every (λ p. wanted p (node (suc l) q)) ps
          → need_by (along (node (suc l) q ∷ ns)) ps ≡ toll_of (node (suc l) q ∷ ns) ps
      go [] i a = refl
      go (p ∷ ps) i a = rw (every_last (λ p. wanted p (node (suc l) q)) p ps a) (omega arith)

  -- the need counts the nodes that live and are wanted
  pub need-living : (lives : Node → Bool) (h : ℕ) (p : Pair) → need_for count lives h p ≡ tally (living lives (innerly (wanted p))) (nodes h 0)
  need-living lives h p =
      tally-inner_nodes (needed_for count lives p) h
      ∙ tally_same (innerly (needed_for count lives p)) (living lives (innerly (wanted p))) swap (nodes h 0)
    where
      none : (b : Bool) → false ≡ (b && false)
      none true = refl
      none false = refl

      swap : (n : Node) → innerly (needed_for count lives p) n ≡ living lives (innerly (wanted p)) n
      swap (node zero q) = none (lives (node zero q))
      swap (node (suc l) q) =
          let n = node (suc l) q in
          ap (λ (b : Bool). lives n && (ltb p.count (count n) || b && leb (start n) p.document)) (eqb_swap (count n) p.count)

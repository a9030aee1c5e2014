-- The four numbers of a waiting node: they are the record of the ground, and the places read back.
use Prim.Native.Nat.{ℕ, suc, ◌+◌, ◌-◌, ◌*◌, ◌/◌, ◌%◌, ◌^◌, ◌≤◌}
use native.Mathlib.Omega.{arith}
use native.Mathlib.Nat.{le_trans, pow-suc}
use mathlib.Core.Path.{◌≡◌, ap, ap₂, ◌∙◌}
use mathlib.Core.List.{List}
use mathlib.Core.Bool.{true}
use Rattle.frontier.specs.declared.Record.{Record}
use Rattle.wavelet.specs.Levels.{entries_in, level_of}
use Rattle.wavelet.specs.Spans.{span_of, halves_of}
use Rattle.wavelet.proofs.Stored.{within_entries_in}
use Rattle.wavelet.proofs.Spans.{span-count, span-ordered, span-halves}
use Rattle.model.specs.TopK.{node, count_in}
use Rattle.moves.specs.Ground.{record_in}
use Rattle.moves.proofs.Tree.{in_tree, tree_height, tree_index, tree_low, tree_high}
use Rattle.moves.proofs.Records.{second_start, second_depth}
use Rattle.search.specs.declared.Search.{Search}
use Rattle.search.specs.Sought.{range_of}
use Rattle.greedy.specs.Records.{packed, span_in, zero_of, one_of}
use Rattle.greedy.specs.Grounds.{span_at, ground_of}
use Rattle.greedy.proofs.Grounds.{inside, few}

module _ (s : Search) where
  abbrev h : ℕ
  h = s.tree.levels.height

  abbrev xs : List ℕ
  xs = entries_in s.tree.bytes.now s.tree.levels

  pub record_is : (l q : ℕ) → l ≤ h → packed (q * 2 ^ l) (h - l) (span_at s (node l q)) ≡ record_in (ground_of s) (node l q)
  unfolding packed
  record_is l q m =
      let e : h - (h - l) ≡ l = omega arith in
      let c = span-count h xs s.a s.b (h - l) q s.searchable.ordered ∙ ap (λ (k : ℕ). count_in (range_of s) (node k q)) e in
      ap (λ (n : ℕ). record {
        first = n;
        second = q * 2 ^ l * 16 + (h - l);
        third = (ground_of s).third (node l q);
        fourth = (ground_of s).fourth (node l q);
      }) c

  pub span_back : (l q : ℕ) → span_in (record_in (ground_of s) (node l q)) ≡ span_at s (node l q)
  span_back l q =
      let p = span_at s (node l q) in
      let o = span-ordered h xs s.a s.b (h - l) q s.searchable.ordered (inside s) in
      let f = few s in
      let e1 : (p.start * 65536 + p.end) / 65536 ≡ p.start = omega arith in
      let e2 : (p.lo * 65536 + p.hi) / 65536 ≡ p.lo = omega arith in
      let e3 : (p.lo * 65536 + p.hi) % 65536 ≡ p.hi = omega arith in
      let e4 : (p.start * 65536 + p.end) % 65536 ≡ p.end = omega arith in
      λ i. record { start = e1 i; lo = e2 i; hi = e3 i; end = e4 i }

  -- ---- the halves of a node

  module _ (l q : ℕ) (t : in_tree h (node (suc l) q) ≡ true) (r : Record) (e : r ≡ record_in (ground_of s) (node (suc l) q)) where
    depth : r.second % 16 ≡ h - suc l
    depth = ap (λ (x : Record). x.second % 16) e ∙ second_depth (ground_of s) s.searchable.stored.low (suc l) q

    first : r.second / 16 ≡ q * 2 ^ suc l
    first = ap (λ (x : Record). x.second / 16) e ∙ second_start (ground_of s) s.searchable.stored.low (suc l) q

    deeper : suc (h - suc l) ≡ h - l
    deeper = omega (arith, tree_height h (suc l) q t)

    split : halves_of (level_of s.tree.bytes.now s.tree.levels (r.second % 16)) (span_in r)
        ≡ record { zero = span_at s (node l (2 * q)); one = span_at s (node l (2 * q + 1)) }
    split =
        (λ i. halves_of (level_of s.tree.bytes.now s.tree.levels (depth i)) ((ap span_in e ∙ span_back (suc l) q) i))
        ∙ span-halves h xs s.a s.b (within_entries_in s.tree.bytes.now s.tree.levels) (le_trans s.searchable.ordered (inside s)) (inside s) (h - suc l) q (omega (arith, tree_height h (suc l) q t)) (tree_index h (suc l) q t)
        ∙ ap (λ (j : ℕ). record { zero = span_of h xs s.a s.b j (2 * q); one = span_of h xs s.a s.b j (2 * q + 1) }) deeper

    pub low_is : zero_of (level_of s.tree.bytes.now s.tree.levels (r.second % 16)) r ≡ record_in (ground_of s) (node l (2 * q))
    low_is =
        let f : r.second / 16 ≡ 2 * q * 2 ^ l = first ∙ simp (pow-suc 2) (omega arith) in
        let d : r.second % 16 + 1 ≡ h - l = omega (arith, depth, deeper) in
        (λ i. packed (f i) (d i) (split i).zero) ∙ record_is l (2 * q) (tree_height h l (2 * q) (tree_low h l q t))

    pub high_is : one_of h (level_of s.tree.bytes.now s.tree.levels (r.second % 16)) r ≡ record_in (ground_of s) (node l (2 * q + 1))
    high_is =
        let k : h - 1 - r.second % 16 ≡ l = omega (arith, depth, tree_height h (suc l) q t) in
        let g : q * 2 ^ suc l + 2 ^ l ≡ (2 * q + 1) * 2 ^ l = simp (pow-suc 2) (omega arith) in
        let f : r.second / 16 + 2 ^ (h - 1 - r.second % 16) ≡ (2 * q + 1) * 2 ^ l = ap₂ (λ (x j : ℕ). x + 2 ^ j) first k ∙ g in
        let d : r.second % 16 + 1 ≡ h - l = omega (arith, depth, deeper) in
        (λ i. packed (f i) (d i) (split i).one) ∙ record_is l (2 * q + 1) (tree_height h l (2 * q + 1) (tree_high h l q t))

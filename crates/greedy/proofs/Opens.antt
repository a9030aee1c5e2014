-- The opening of the first of the waiting nodes in the work slice: what its halving asks, and by which of its halves wait.
use Prim.Native.Nat.{ℕ, suc, ◌+◌, ◌-◌, ◌*◌, ◌%◌, ◌^◌, ◌≤◌, ◌<◌}
use native.Mathlib.Omega.{arith}
use mathlib.Core.Path.{◌≡◌, sym, ap, ◌∙◌, subst}
use mathlib.Core.List.{List}
use mathlib.Core.Bool.{true}
use lib.ListN.{length}
use lib.Pow.{pow_mono}
use borrow.Author.Tests.{lt-ltb, le-ltb}
use Rattle.frontier.specs.declared.Record.{Record}
use Rattle.frontier.specs.Operations.{Replaced, Opened}
use Rattle.wavelet.specs.declared.Span.{Span}
use Rattle.wavelet.specs.Levels.{entries_in, level_of}
use Rattle.wavelet.specs.Spans.{Ordered}
use Rattle.wavelet.proofs.Stored.{length-entries_in}
use Rattle.wavelet.proofs.Spans.{span-ordered}
use Rattle.model.specs.TopK.{node, count_in}
use Rattle.moves.specs.Ground.{Ground, record_in}
use Rattle.moves.specs.Moves.{Kept, First, once_opened, Moves}
use Rattle.moves.proofs.Tree.{tree_start}
use Rattle.moves.proofs.Records.{second_start}
use Rattle.moves.proofs.Kept.{front_at, index_of}
use Rattle.moves.proofs.Opens as moves
use Rattle.search.specs.declared.Search.{Search}
use Rattle.search.specs.Sought.{range_of}
use Rattle.greedy.specs.Records.{span_in, zero_of, one_of}
use Rattle.greedy.specs.Grounds.{ground_of}
use Rattle.greedy.proofs.Grounds.{inside, sound}
use Rattle.greedy.proofs.Records.{span_back, low_is, high_is}

module _ (s : Search) (w : List ℕ) (m : ℕ) (r : Record) (kept : Kept (ground_of s) w m)
    (f : First w m r) (d : r.second % 16 < s.tree.levels.height) where
  abbrev G : Ground
  G = ground_of s

  abbrev h : ℕ
  h = s.tree.levels.height

  -- the height of the halves, and the node's index
  abbrev l : ℕ
  l = h - 1 - r.second % 16

  abbrev q : ℕ
  q = index_of G r

  first : r ≡ record_in G (node (suc l) q)
  first = (front_at G w m r kept f (suc l) (omega arith)).first

  -- ---- what the halving asks of the record

  pub second_fits : r.second < 65536
  second_fits =
      let e : r.second ≡ (record_in G (node (suc l) q)).second = ap (λ (x : Record). x.second) first in
      let p : 2 ^ h ≤ 4096 = pow_mono {j = 12} s.searchable.stored.low in
      omega (arith, second_start G s.searchable.stored.low (suc l) q, tree_start h (suc l) q (moves.t G (sound s) w m r kept f d))

  pub span_fits : Ordered s.tree.levels.entries (span_in r)
  span_fits =
      let xs = entries_in s.tree.bytes.now s.tree.levels in
      let o = span-ordered h xs s.a s.b (h - suc l) q s.searchable.ordered (inside s) in
      let e : span_in r ≡ _ = ap span_in first ∙ span_back s (suc l) q in
      subst (λ (n : ℕ). Ordered n (span_in r)) (length-entries_in s.tree.bytes.now s.tree.levels) (subst (λ (y : Span). Ordered (length xs) y) (sym e) o)

  -- ---- by which halves wait

  module _ (low high : Record) (el : low ≡ zero_of (level_of s.tree.bytes.now s.tree.levels (r.second % 16)) r)
      (eh : high ≡ one_of h (level_of s.tree.bytes.now s.tree.levels (r.second % 16)) r) where
    low_record : low ≡ record_in G (node l (2 * q))
    low_record = el ∙ low_is s l q (moves.t G (sound s) w m r kept f d) r first

    high_record : high ≡ record_in G (node l (2 * q + 1))
    high_record = eh ∙ high_is s l q (moves.t G (sound s) w m r kept f d) r first

    low_lives : 0 < low.first → G.lives (node l (2 * q)) ≡ true
    low_lives p = lt-ltb 0 (count_in (range_of s) (node l (2 * q))) (omega (arith, ap (λ (x : Record). x.first) low_record))

    high_lives : 0 < high.first → G.lives (node l (2 * q + 1)) ≡ true
    high_lives p = lt-ltb 0 (count_in (range_of s) (node l (2 * q + 1))) (omega (arith, ap (λ (x : Record). x.first) high_record))

    pub opens_high : low.first ≡ 0 → (v : List ℕ) → Replaced w m high v → Moves G w (once_opened G w m) v m
    opens_high z =
        moves.opens_high G (sound s) w m r kept f d low high low_record high_record
        (le-ltb 0 (count_in (range_of s) (node l (2 * q))) (omega (arith, ap (λ (x : Record). x.first) low_record)))

    pub opens_low : 0 < low.first → high.first ≡ 0 → (v : List ℕ) → Replaced w m low v → Moves G w (once_opened G w m) v m
    opens_low p z =
        moves.opens_low G (sound s) w m r kept f d low high low_record high_record (low_lives p)
        (le-ltb 0 (count_in (range_of s) (node l (2 * q + 1))) (omega (arith, ap (λ (x : Record). x.first) high_record)))

    pub opens_room : 0 < low.first → 0 < high.first → 4 * m + 4 ≤ length w
    opens_room p z = moves.opens_room G (sound s) w m r kept f d (low_lives p) (high_lives z)

    pub opens_both : 0 < low.first → 0 < high.first → (v : List ℕ) → Opened w m high low v → Moves G w (once_opened G w m) v (m + 1)
    opens_both p z = moves.opens_both G (sound s) w m r kept f d low high low_record high_record (low_lives p) (high_lives z)

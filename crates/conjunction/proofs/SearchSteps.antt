-- The turns of the search for the next common document, in an opened archive.
use Prim.Native.Nat.{ℕ, ◌^◌, ◌<◌}
use mathlib.Core.Path.{◌≡◌, sym, ap, ◌∙◌, subst}
use mathlib.Core.List.{List, map}
use mathlib.Core.Bool.{true}
use lib.Dec.{ltb}
use Rattle.bits.specs.Sequences.{all, below}
use Rattle.bits.specs.Bits.{sum}
use Rattle.model.specs.Opening.{contents}
use Rattle.model.specs.Queries.{counts_under}
use Rattle.wavelet.specs.declared.Span.{Span}
use Rattle.archive.specs.declared.Layout.{Layout}
use Rattle.paths.specs.declared.query.Query.{Query}
use Rattle.paths.specs.Query.{size, spans}
use Rattle.paths.specs.Paths.{frame_of, count_at, Whole, Right, Held}
use Rattle.paths.proofs.Frames.{held_at}
use Rattle.std.specs.Prelude.{Some}
use Rattle.paths.specs.declared.Node.{Node}
use Rattle.conjunction.specs.Conjunction.{common_count, next_common, next_is, next_of}
use Rattle.conjunction.specs.Orders.{after_of}
use Rattle.conjunction.proofs.Scans.{common_some, scan_whole, scan_dead}
use Rattle.conjunction.proofs.Searches.{Searching, searching_past, searching_found}
use Rattle.conjunction.proofs.TermCounts.{dead_matches, leaf_counts}

module _ (q : Query) (from : ℕ) where
  abbrev bytes : List ℕ
  bytes = q.archive.bytes.now

  abbrev l : Layout
  l = q.archive.layout

  abbrev span : ℕ → ℕ → ℕ → Span
  span = spans q

  abbrev of-terms : ℕ → List ℕ
  of-terms = counts_under (contents bytes) q.terms.now

  module _ {path : List ℕ} {x : Node} (k : Searching span (size q) of-terms l.levels.height from path x) (m : x.number < 2 ^ x.level)
      (frame : ℕ) (f : frame ≡ frame_of x.level x.number) (n : ℕ) (e : n ≡ common_count (map (count_at path frame) (below (size q)))) where
    right : Right span (size q) path x.level x.number
    right = held_at (Right span (size q)) path x.level x.number m k.held

    count_is : n ≡ common_count (map (count_at path (frame_of x.level x.number)) (below (size q)))
    count_is = e ∙ ap (λ (y : ℕ). common_count (map (count_at path y) (below (size q)))) f

    -- a term has no entry in the node
    pub step_past : n ≡ 0 → Searching span (size q) of-terms l.levels.height from path (after_of x.level x.number)
    step_past z =
        searching_past span (size q) of-terms l.levels.height from k m
        (λ d p. dead_matches q x.level x.number d (scan_dead span (size q) path x.level x.number right n count_is z q.chosen.some) p)

    -- every term has
    module _ (z : n ≡ 0 → ⊥) where
      some : (all (ltb 0) (map (count_at path (frame_of x.level x.number)) (below (size q))) ≡ true)
          × (n ≡ sum (map (count_at path (frame_of x.level x.number)) (below (size q))))
      some = common_some (map (count_at path (frame_of x.level x.number)) (below (size q))) n count_is z

      pub step-whole : Whole span (size q) path x.level x.number
      step-whole = scan_whole span (size q) path x.level x.number right some.0

      pub step-found : x.level ≡ l.levels.height
          → (next_of (Some (record { document = x.number; count = n })) ≡ next_common of-terms l.levels.height from) × Held span (size q) path l.levels.height x.number
      step-found h =
          let c : map (count_at path (frame_of x.level x.number)) (below (size q)) ≡ of-terms x.number =
          ap (λ (y : ℕ). map (count_at path (frame_of y x.number)) (below (size q))) h
          ∙ leaf_counts q path x.number (subst (λ (y : ℕ). Whole span (size q) path y x.number) h step-whole) in (
            ap (next_is x.number) (some.1 ∙ ap sum c)
                ∙ sym (searching_found span (size q) of-terms l.levels.height from k m h (sym (ap (all (ltb 0)) c) ∙ some.0)),
            subst (λ (y : ℕ). Held span (size q) path y x.number) h k.held,
          )

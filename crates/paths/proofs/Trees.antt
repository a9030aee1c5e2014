-- The tree of a question's archive: what is known of the one is known of the other.
use Prim.Native.Nat.{ℕ, ◌≤◌, ◌<◌}
use mathlib.Core.Path.{◌≡◌, sym, ◌∙◌, subst}
use mathlib.Core.List.{List}
use Rattle.wavelet.specs.declared.Levels.{Levels}
use Rattle.wavelet.specs.declared.Ranked.{Ranked}
use Rattle.wavelet.specs.declared.Span.{Span}
use Rattle.wavelet.specs.Levels.{level_of}
use Rattle.wavelet.specs.Spans.{Ordered, ranked_of}
use Rattle.paths.specs.declared.query.Query.{Query}
use Rattle.paths.specs.Query.{bits, RanksItself}

module _ (q : Query) (bytes : List ℕ) (t : Levels) (same : (bytes ≡ q.archive.bytes.now) × (t ≡ q.archive.layout.levels)) where
  pub bits_in : (level : ℕ) → level_of bytes t level ≡ bits q level
  bits_in level = λ i. level_of (same.0 i) (same.1 i) level

  pub ranks_in : (level : ℕ) (node : Ranked) → RanksItself q level node → node ≡ ranked_of (level_of bytes t level) node.start node.end
  ranks_in level node r = r ∙ (λ i. ranked_of (sym (bits_in level) i) node.start node.end)

  pub ordered_in : (s : Span) → Ordered q.archive.layout.levels.entries s → Ordered t.entries s
  ordered_in s = subst (λ (x : Levels). Ordered x.entries s) (sym same.1)

  pub level_in : (level : ℕ) → level < q.archive.layout.levels.height → level < t.height
  level_in level = subst (λ (x : Levels). level < x.height) (sym same.1)

  pub place_in : (place : ℕ) → place ≤ q.archive.layout.levels.entries → place ≤ t.entries
  place_in place = subst (λ (x : Levels). place ≤ x.entries) (sym same.1)

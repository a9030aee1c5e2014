-- The root as it waits first.
use Prim.Native.Nat.{ℕ, ◌-◌}
use native.Mathlib.Omega.{arith}
use mathlib.Core.Path.{◌≡◌, ap, ◌∙◌, sym}
use mathlib.Core.List.{List, [], ◌∷◌, map}
use mathlib.Core.Bool.{true, false}
use Rattle.frontier.specs.declared.Record.{Record}
use Rattle.model.specs.TopK.{node}
use Rattle.model.specs.Frontier.{blocks}
use Rattle.moves.specs.Ground.{Ground, root_waits, record_in}

module _ (G : Ground) where
  whole : G.height - 0 ≡ G.height
  whole = omega arith

  pub root_lives_lem : (r : Record) → r ≡ record_in G (node (G.height - 0) 0) → G.lives (node (G.height - 0) 0) ≡ true
      → r ∷ [] ≡ map (record_in G) (blocks (root_waits G))
  root_lives_lem r e l =
      let lives : G.lives (node G.height 0) ≡ true = ap (λ (h : ℕ). G.lives (node h 0)) (sym whole) ∙ l in
      rw lives (ap (λ (x : Record). x ∷ []) (e ∙ ap (λ (h : ℕ). record_in G (node h 0)) whole))

  pub root_dead : G.lives (node (G.height - 0) 0) ≡ false → ◌≡◌ {A = List Record} [] (map (record_in G) (blocks (root_waits G)))
  root_dead l =
      let lives : G.lives (node G.height 0) ≡ false = ap (λ (h : ℕ). G.lives (node h 0)) (sym whole) ∙ l in
      rw lives

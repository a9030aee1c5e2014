-- What the laws ask of a ground.
use Prim.Native.Nat.{ℕ, ◌^◌, ◌≤◌, ◌<◌}
use mathlib.Core.Path.{◌≡◌}
use mathlib.Core.Bool.{false}
use Rattle.model.specs.TopK.{node}
use Rattle.model.proofs.Greedy.Abstract.{Counted}
use Rattle.moves.specs.Ground.{Ground}

-- the count never rises from a node to its halves, and only documents live
pub record Sound (G : Ground) : Type 0 where
  pub low : G.height ≤ 12
  pub some : 1 ≤ G.documents
  pub few : G.documents ≤ 4096
  pub fits : G.documents ≤ 2 ^ G.height
  pub counted : Counted G.count G.lives
  pub outside : (d : ℕ) → G.documents ≤ d → d < 2 ^ G.height → G.lives (node 0 d) ≡ false

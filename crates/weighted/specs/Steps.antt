-- What a step of the weighted search asks and gives.
use Rattle.std.specs.Prelude.{ℕ, ◌+◌, ◌-◌, ◌*◌, ◌/◌, ◌%◌, ◌^◌, ◌≡◌, List, length}
use Rattle.model.specs.TopK.{Node, node}
use Rattle.frontier.specs.declared.Record.{Record}
use Rattle.paths.specs.declared.query.Query.{Query}
use Rattle.paths.specs.Query.{size, passes}
use Rattle.paths.specs.declared.Node as paths
use Rattle.paths.specs.Paths.{HeldWhole}
use Rattle.paths.specs.Ways.{Inside}
use Rattle.moves.specs.Ground.{record_in}
use Rattle.weighted.specs.declared.step.Half.{Half}
use Rattle.weighted.specs.declared.step.Two.{Two}
use Rattle.weighted.specs.Grounds.{ground_of}

-- the path leads to a node
pub record Leads (q : Query) (path : List ℕ) (x : paths.Node) : Type 0 where
  pub room : length path ≡ 468
  pub inside : Inside x
  pub held : HeldWhole (passes q) (size q) path x.level x.number

-- a half as it waits, and whether it lives
pub record HalfIs (q : Query) (n : Node) (r : Half) : Type 0 where
  pub waits : r.waits ≡ record_in (ground_of q) n
  pub lives : r.lives ≡ (ground_of q).lives n

-- both halves of the node of a level
pub record HalvesAre (q : Query) (level number : ℕ) (r : Two) : Type 0 where
  pub zero : HalfIs q (node (q.archive.layout.levels.height - 1 - level) (2 * number)) r.zero
  pub one : HalfIs q (node (q.archive.layout.levels.height - 1 - level) (2 * number + 1)) r.one

-- the zero half of the node that a record stands for
abbrev pub below : ℕ → Record → paths.Node
below h r = record { level = r.second % 16 + 1; number = 2 * (r.second / 16 / 2 ^ (h - r.second % 16)) }

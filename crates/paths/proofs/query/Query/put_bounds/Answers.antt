use borrow.Author.Rules.{rules}
use Prim.Native.Nat.{ℕ, ◌+◌, ◌*◌}
use native.Mathlib.Omega.{arith}
use mathlib.Core.Path.{ap, ◌∙◌}
use mathlib.Core.List.{List, [], ◌∷◌}
use lib.Seq.{sets}
use Rattle.wavelet.specs.Levels.{level_of}
use Rattle.archive.proofs.Opened.{fitting}
use Rattle.paths.proofs.NodeSteps.{bounds_order, bounds_known, known_few}
use Rattle.paths.proofs.Trees.{bits_in, level_in, place_in}
use Rattle.paths.proofs.query.Query.put_bounds.Goals as goal

pub rank_node-node-requires : goal.rank_node-node-requires
rank_node-node-requires c =
    let g = c.args in
    let t = c.tree-tree in
    let b = bounds_order g.self.now g.level g.number g.path.now c.frame_of-frame.result c.frame_of-frame.ensures c.requires.bounds in record {
      j_lt_height = (
        level_in g.self.now t.result.bytes.now t.result.levels t.ensures g.level c.requires.path_len.1,
        b.0,
        place_in g.self.now t.result.bytes.now t.result.levels t.ensures _ b.1,
      );
    }

pub put_pair-requires : goal.put_pair-requires
put_pair-requires c =
    let g = c.args in
    let t = c.tree-tree in
    let few = (fitting g.self.now.archive.bytes.now g.self.now.archive.layout g.self.now.archive.opened).entries in
    let known = bounds_known g.self.now g.level g.number g.path.now c.frame_of-frame.result c.frame_of-frame.ensures c.requires.bounds
    (level_of t.result.bytes.now t.result.levels g.level) c.rank_node-node.result (bits_in g.self.now t.result.bytes.now t.result.levels t.ensures g.level) c.rank_node-node.ensures in
    let b = known_few g.self.now g.level g.number c.rank_node-node.result known c.requires.path_len.1 c.requires.path_len.3 in
    let deep = c.requires.path_len.2 in
    let room = c.requires.path_len.0 in
    (omega arith, omega arith, omega arith)

pub put_pair-requires-2 : goal.put_pair-requires-2
put_pair-requires-2 c =
    let g = c.args in
    let t = c.tree-tree in
    let few = (fitting g.self.now.archive.bytes.now g.self.now.archive.layout g.self.now.archive.opened).entries in
    let known = bounds_known g.self.now g.level g.number g.path.now c.frame_of-frame.result c.frame_of-frame.ensures c.requires.bounds
    (level_of t.result.bytes.now t.result.levels g.level) c.rank_node-node.result (bits_in g.self.now t.result.bytes.now t.result.levels t.ensures g.level) c.rank_node-node.ensures in
    let b = known_few g.self.now g.level g.number c.rank_node-node.result known c.requires.path_len.1 c.requires.path_len.3 in
    let deep = c.requires.path_len.2 in
    let room = c.requires.path_len.0 in
    (search rules, omega arith, omega arith)

pub returns-clause-known : goal.returns-clause-known
returns-clause-known c =
    let g = c.args in
    let t = c.tree-tree in
    bounds_known g.self.now g.level g.number g.path.now c.frame_of-frame.result c.frame_of-frame.ensures c.requires.bounds
    (level_of t.result.bytes.now t.result.levels g.level) c.rank_node-node.result (bits_in g.self.now t.result.bytes.now t.result.levels t.ensures g.level) c.rank_node-node.ensures

pub returns-clause-put : goal.returns-clause-put
returns-clause-put c =
    let node = c.rank_node-node.result in
    c.put_pair-2.ensures ∙ ap (λ (x : List ℕ). sets x (2 * (18 * (c.args.level + 1) + 9)) (node.middle ∷ node.end ∷ [])) c.put_pair.ensures

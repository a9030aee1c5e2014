-- `put_by_pass`: the table has the first place of each document listed.
use Prim.Native.Nat.{ℕ, ◌^◌, ◌≤◌}
use native.Mathlib.Omega.{arith}
use mathlib.Core.Path.{ap, ◌∙◌}
use mathlib.Core.List.{List}
use lib.ListN.{length}
use Rattle.model.specs.Lists.{overwrite}
use Rattle.model.specs.Queries.{pairs_in}
use Rattle.wavelet.specs.Levels.{entries_in}
use Rattle.wavelet.proofs.Stored.{within_entries_in}
use Rattle.listing.proofs.Numbers.{leaves_few}
use Rattle.listing.proofs.Placing.{noted_inside, noted-first}
use Rattle.listing.proofs.places.put_by_pass.Goals as goal

pub place_entries-requires : goal.place_entries-requires
place_entries-requires c =
    let s = c in record {
      a_le_b = (s.requires.a_le_b.0, s.requires.a_le_b.1, s.requires.a_le_b.2, leaves_few s.args.tree.now.levels.height s.args.tree.now.stored.low, s.requires.a_le_b.3);
    }

pub put_noted-requires : goal.put_noted-requires
put_noted-requires c =
    let k = c.place_entries in
    let s = c in
    let g = s.args in
    let xs : List ℕ = entries_in g.tree.now.bytes.now g.tree.now.levels in
    let wide : 2 ^ g.tree.now.levels.height ≤ length k.new.first = omega (arith, k.auto.first, leaves_few g.tree.now.levels.height s.args.tree.now.stored.low) in
    (s.requires.n_in_bounds.0, s.requires.n_in_bounds.1, noted_inside xs g.a g.b k.new.first (pairs_in g.answers.now g.n) s.requires.n_in_bounds.2 (2 ^ g.tree.now.levels.height) (within_entries_in g.tree.now.bytes.now g.tree.now.levels) wide)

pub returns : goal.returns
returns c =
    let k = c.place_entries in
    let s = c in
    let g = s.args in
    let xs : List ℕ = entries_in g.tree.now.bytes.now g.tree.now.levels in
    c.put_noted.ensures
    ∙ ap (λ (l : List ℕ). overwrite l g.answers.now) (noted-first xs g.a g.b k.new.first (pairs_in g.answers.now g.n) s.requires.n_in_bounds.2 k.ensures)

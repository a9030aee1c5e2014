-- `list_in`: the listing's pairs, spread to three numbers a document.
use Prim.Native.Nat.{ℕ, ◌^◌, ◌≤◌}
use native.Mathlib.Omega.{arith}
use mathlib.Core.Path.{◌≡◌, sym, subst}
use mathlib.Core.List.{List}
use lib.ListN.{length}
use Rattle.model.specs.Lists.{Within, part}
use Rattle.model.specs.Queries.{listing, placed_listing}
use Rattle.model.proofs.Lists.{within_part}
use Rattle.wavelet.specs.declared.Levels.{Levels}
use Rattle.wavelet.specs.Levels.{entries_in}
use Rattle.archive.specs.declared.Layout.{Layout}
use Rattle.archive.specs.Layout.{Opened}
use Rattle.archive.proofs.Opened.{limits, tree_entries, entries_within, documents_fit}
use Rattle.answers.specs.Written.{ListsPlaced}
use Rattle.listing.proofs.Listed.{listing_within, listing_le}
use Rattle.listing.proofs.Numbers.{leaves_few}
use Rattle.listing.proofs.Placing.{listing_ready, listing_placed}
use Rattle.listing.proofs.lists.list_in.Goals as goal

-- the listing of a range has the same documents below N as below 2 ^ h
module _ (bytes : List ℕ) (l : Layout) (o : Opened bytes l) (others : List ℕ) (t : Levels) (e : (others ≡ bytes) × (t ≡ l.levels)) (a b : ℕ) where
  abbrev range : List ℕ
  range = part a b (entries_in others t)

  below : listing (2 ^ t.height) range ≡ listing l.documents range
  below =
      let within : Within l.documents (entries_in others t) = subst (Within l.documents) (sym (tree_entries bytes l o e)) (entries_within bytes l o) in
      listing_within l.documents (2 ^ t.height) range (within_part l.documents a b (entries_in others t) within)
      (subst (λ (x : Levels). l.documents ≤ 2 ^ x.height) (sym e.1) (documents_fit bytes l o))

pub list_range-n-requires : goal.list_range-n-requires
list_range-n-requires c =
    let g = c.args in
    let t = c.tree-tree.result in
    let is = below g.archive.now.bytes.now g.archive.now.layout g.archive.now.opened t.bytes.now t.levels c.tree-tree.ensures g.a g.b in
    record {
      a_le_b = (
        c.requires.0,
        rw (c.tree-tree.ensures.1) c.requires.1,
        rw is (omega (arith, c.requires.2, listing_le g.archive.now.layout.documents (part g.a g.b (entries_in t.bytes.now t.levels)))),
        leaves_few t.levels.height t.stored.low,
      );
    }

pub put_places-requires : goal.put_places-requires
put_places-requires c =
    let k = c.list_range-n in
    let g = c.args in
    let t = c.tree-tree.result in
    let N : ℕ = g.archive.now.layout.documents in
    let xs : List ℕ = part g.a g.b (entries_in t.bytes.now t.levels) in
    let is = below g.archive.now.bytes.now g.archive.now.layout g.archive.now.opened t.bytes.now t.levels c.tree-tree.ensures g.a g.b in
    let wide : 2 ^ t.levels.height ≤ length k.new.cursors = omega (arith, k.auto.cursors, leaves_few t.levels.height t.stored.low) in
    let few = (limits g.archive.now.bytes.now g.archive.now.layout g.archive.now.opened).documents in
    record {
      a_le_b = (c.requires.0, rw (c.tree-tree.ensures.1) c.requires.1, wide, k.ensures.cursors);
      n_in_bounds = listing_ready N few xs (listing (2 ^ t.levels.height) xs) is g.answers.now c.requires.2 k.result k.new.answers k.ensures.lists;
    }

pub returns : goal.returns
returns c =
    let k = c.list_range-n in
    let p = c.put_places in
    let g = c.args in
    let t = c.tree-tree.result in
    let N : ℕ = g.archive.now.layout.documents in
    let xs : List ℕ = part g.a g.b (entries_in t.bytes.now t.levels) in
    let is = below g.archive.now.bytes.now g.archive.now.layout g.archive.now.opened t.bytes.now t.levels c.tree-tree.ensures g.a g.b in
    let few = (limits g.archive.now.bytes.now g.archive.now.layout g.archive.now.opened).documents in
    subst (λ (ys : List ℕ). ListsPlaced (placed_listing N g.a (part g.a g.b ys)) k.result g.answers.now p.new.answers)
    (tree_entries g.archive.now.bytes.now g.archive.now.layout g.archive.now.opened c.tree-tree.ensures)
    (listing_placed N few xs (listing (2 ^ t.levels.height) xs) is g.answers.now c.requires.2 k.result k.new.answers k.ensures.lists g.a p.new.answers p.ensures)

-- A move of the search by what the code was told of it.
use Prim.Native.Nat.{ℕ, zero, suc, ◌-◌, ◌^◌, ◌≤◌, ◌<◌}
use native.Mathlib.Omega.{arith}
use mathlib.Core.Path.{◌≡◌, refl, sym, ap, ◌∙◌, subst}
use mathlib.Core.List.{List, [], ◌∷◌}
use Rattle.model.specs.TopK.{Node, node}
use Rattle.model.specs.Search.{Waiting, Move, names, opens, finds_spent, move_of}
use Rattle.moves.specs.declared.Moved.{Moved}
use Rattle.moves.specs.declared.progress.Progress.{Progress}
use Rattle.moves.specs.Ground.{Ground}
use Rattle.moves.specs.Moves.{frontier_in, next_move, move_is, moved_is, Moves}
use Rattle.moves.specs.Results.{move_at, after, RoomFor, Countable, written_by, Advanced}

-- an opening finds some of the allowance left
pub opens_left : (G : Ground) (left : ℕ) (f : List Waiting) (n : Node) → (next_move G left f).move ≡ opens n → 0 < left
opens_left G left [] n e = let z : ◌≡◌ {A = ℕ} 0 1 = cc in absurd (omega arith)
opens_left G left (w ∷ rest) n e = go left w.block w.count e
  where
    go : (left : ℕ) (b : Node) (c : ℕ) → (move_of G.count G.lives left b c rest).move ≡ opens n → 0 < left
    go left (node zero q) c e = let z : ◌≡◌ {A = ℕ} 0 1 = cc in absurd (omega arith)
    go zero (node (suc l) q) c e = let z : ◌≡◌ {A = ℕ} 0 1 = cc in absurd (omega arith)
    go (suc left) (node (suc l) q) c e = omega arith

waiting-after : (m : Move) (p : Progress) (n : ℕ) → (after m p n).waiting ≡ n
waiting-after (names d) p n = refl
waiting-after (opens b) p n = refl
waiting-after finds_spent p n = refl

-- a step promised its move, and `tell` says it
module _ (G : Ground) (allowance : ℕ) (p : Progress) (answers work : List ℕ) (r : Moved) (v : List ℕ)
    (moved : moved_is G r v ≡ move_at G allowance p work) where
  -- the move is the one that was made
  told : (move_at G allowance p work).move ≡ move_is r.made
  told = sym (ap (λ x. x.move) moved)

  -- what `tell` asks
  pub tellable : RoomFor (move_at G allowance p work).move p.listed answers → p.openings ≤ allowance → allowance < 2 ^ 32
      → RoomFor (move_is r.made) p.listed answers × Countable (move_is r.made) p.openings
  tellable room covered fits = (subst (λ (m : Move). RoomFor m p.listed answers) told room, go (move_is r.made) told)
    where
      go : (m : Move) → (move_at G allowance p work).move ≡ m → Countable m p.openings
      go (names d) e = tt
      go (opens n) e = omega (arith, opens_left G (allowance - p.openings) (frontier_in G work p.waiting) n e, covered, fits)
      go finds_spent e = tt

  -- what it gives
  pub advanced : Moves G work (frontier_in G v r.waiting) v r.waiting
      → (x : Progress) → x ≡ after (move_is r.made) p r.waiting
      → (out : List ℕ) → out ≡ written_by (move_is r.made) p.listed answers
      → Advanced G allowance p answers work x out v
  advanced M x e out w =
      let n : r.waiting ≡ x.waiting = sym (ap (λ (y : Progress). y.waiting) e ∙ waiting-after (move_is r.made) p r.waiting) in
      record {
        progress = e ∙ (λ i. after (sym told i) p (n i));
        written = w ∙ ap (λ (y : Move). written_by y p.listed answers) (sym told);
        moves = subst (Moves G work (move_at G allowance p work).waiting v) n
            (record { kept = M.kept; waits = ap (λ y. y.waiting) moved; rest = M.rest; size = M.size });
      }

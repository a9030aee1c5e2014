-- The course of a search: the moves made so far, and those that follow from where it is.
use Prim.Native.Nat.{ℕ, zero, suc, ◌+◌, ◌-◌, ◌*◌, ◌≤◌, ◌<◌}
use native.Mathlib.Omega.{arith}
use native.Mathlib.Nat.{add-zero}
use mathlib.Core.Path.{◌≡◌, refl, sym, ap, ap₂, ◌∙◌}
use mathlib.Core.Logic.{◌⊎◌, inl, inr}
use mathlib.Core.List.{List, [], ◌∷◌, ◌++◌, append_assoc, append-nil}
use mathlib.Core.Bool.{Bool, true, false, cond, ◌||◌}
use lib.ListN.{length, set, length-append, length-set}
use Rattle.bits.specs.Sequences.{tally}
use Rattle.bits.proofs.Tally.{tally-append}
use Rattle.model.specs.Lists.{any, overwrite}
use Rattle.model.specs.Queries.{Pair, flat}
use Rattle.model.specs.TopK.{Node, node, done_with, spent_with, ended_of}
use Rattle.model.specs.TopK as model
use Rattle.model.specs.Search.{Waiting, Move, Moved, names, opens, finds_spent, is_opening, is_spent, named_in, answer_of, wait_halves, move_of, moves_from}
use Rattle.moves.specs.declared.progress.Progress.{Progress}
use Rattle.moves.specs.Ground.{Ground, root_waits, moves_of}
use Rattle.moves.specs.Results.{after, RoomFor, written_by}

-- ---- one move more

module _ (ms : List Move) where
  named-append : (ns : List Move) → named_in (ms ++ ns) ≡ named_in ms ++ named_in ns
  named-append ns = go ms
    where
      go : (ms : List Move) → named_in (ms ++ ns) ≡ named_in ms ++ named_in ns
      go [] = refl
      go (names p ∷ ms) = ap (λ (r : List Pair). p ∷ r) (go ms)
      go (opens n ∷ ms) = go ms
      go (finds_spent ∷ ms) = go ms

  spent_append : (m : Move) → any is_spent (ms ++ (m ∷ [])) ≡ (any is_spent ms || is_spent m)
  spent_append m = go ms
    where
      or_false : (b : Bool) → (b || false) ≡ b
      or_false true = refl
      or_false false = refl

      go : (ms : List Move) → any is_spent (ms ++ (m ∷ [])) ≡ (any is_spent ms || is_spent m)
      go [] = or_false (is_spent m)
      go (names p ∷ ms) = go ms
      go (opens n ∷ ms) = go ms
      go (finds_spent ∷ ms) = refl

-- a pair more in the front of a slice
flat_write : (ps : List Pair) (p : Pair) (out : List ℕ) → 2 * length ps + 2 ≤ length out
    → overwrite (flat (ps ++ (p ∷ []))) out
    ≡ set (set (overwrite (flat ps) out) (2 * length ps) p.document) (2 * length ps + 1) p.count
flat_write ps p [] l = absurd (omega arith)
flat_write ps p (x ∷ []) l = absurd (omega arith)
flat_write [] p (x ∷ y ∷ out) l = refl
flat_write (r ∷ ps) p (x ∷ y ∷ out) l =
    let a : 2 * suc (length ps) ≡ suc (suc (2 * length ps)) = omega arith in
    let b : 2 * suc (length ps) + 1 ≡ suc (suc (2 * length ps + 1)) = omega arith in
    rw (b, a) (ap (λ (t : List ℕ). r.document ∷ r.count ∷ t) (flat_write ps p out (omega arith)))

-- ---- the course

-- f waits; so many pairs are listed, so many nodes were opened, the allowance was found spent or not; the answer slice was out₀ and is out
pub record Course (G : Ground) (k allowance : ℕ) (f : List Waiting) (listed openings : ℕ) (spent : Bool) (out₀ out : List ℕ) : Type 0 where
  pub moves : List Move
  pub todo : ℕ
  pub goal : todo + listed ≡ k
  pub path : moves_of G k allowance
      ≡ moves ++ cond spent [] (moves_from G.count G.lives (todo + (allowance - openings)) todo (allowance - openings) f)
  pub named : length (named_in moves) ≡ listed
  pub opened : tally is_opening moves ≡ openings
  pub covered : openings ≤ allowance
  pub found : any is_spent moves ≡ spent
  pub written : out ≡ overwrite (flat (named_in moves)) out₀
  pub size : length out ≡ length out₀

pub course_begin : (G : Ground) (k allowance : ℕ) (out : List ℕ) → Course G k allowance (root_waits G) 0 0 false out out
course_begin G k allowance out = record {
  moves = [];
  todo = k;
  goal = add-zero k;
  path = ap (λ (left : ℕ). moves_from G.count G.lives (k + left) k left (root_waits G)) (omega arith);
  named = refl;
  opened = refl;
  covered = omega arith;
  found = refl;
  written = refl;
  size = refl;
}

-- the moves from a node on, of which one at least is to do
module _ (G : Ground) (k allowance : ℕ) (out₀ out : List ℕ) (listed openings : ℕ) (w : Waiting) (rest : List Waiting)
    (C : Course G k allowance (w ∷ rest) listed openings false out₀ out) (more : listed < k) (left : ℕ) (is : left ≡ allowance - openings) where
  next : moves_of G k allowance
      ≡ C.moves ++ moves_from G.count G.lives (suc (C.todo - 1 + left)) (suc (C.todo - 1)) left (w ∷ rest)
  next =
      let g = C.goal in
      let e : C.todo ≡ suc (C.todo - 1) = omega arith in
      let f : C.todo + (allowance - openings) ≡ suc (C.todo - 1 + left) = omega arith in
      C.path ∙ (λ i. C.moves ++ moves_from G.count G.lives (f i) (e i) (sym is i) (w ∷ rest))

  append : (m : Move) (ms : List Move) → moves_of G k allowance ≡ C.moves ++ (m ∷ ms) → moves_of G k allowance ≡ (C.moves ++ (m ∷ [])) ++ ms
  append m ms e = e ∙ sym (append_assoc C.moves (m ∷ []) ms)

  count-opened : (m : Move) → tally is_opening (C.moves ++ (m ∷ [])) ≡ openings + tally is_opening (m ∷ [])
  count-opened m = tally-append is_opening C.moves (m ∷ []) ∙ ap (λ (n : ℕ). n + tally is_opening (m ∷ [])) C.opened

  found_on : (m : Move) (b : Bool) → is_spent m ≡ b → any is_spent (C.moves ++ (m ∷ [])) ≡ b
  found_on m b e = spent_append C.moves m ∙ ap₂ ◌||◌ C.found e

  -- a move that names no document
  silent : (m : Move) → named_in (m ∷ []) ≡ [] → named_in (C.moves ++ (m ∷ [])) ≡ named_in C.moves
  silent m e = named-append C.moves (m ∷ []) ∙ ap (λ (r : List Pair). named_in C.moves ++ r) e ∙ append-nil (named_in C.moves)

-- so many moves are left at most
abbrev pub fuel_of : ℕ → ℕ → Progress → ℕ
fuel_of k allowance p = cond p.spent 0 (suc (k - p.listed + (allowance - p.openings)))

module _ (G : Ground) (k allowance : ℕ) (out₀ out : List ℕ) (listed openings : ℕ) (more : listed < k) (rest : List Waiting) (c : ℕ) where
  abbrev At : Node → Type 0
  At n = Course G k allowance (record { block = n; count = c } ∷ rest) listed openings false out₀ out

  abbrev P : ℕ → Progress
  P x = record { waiting = x; listed = listed; openings = openings; spent = false }

  abbrev moved : ℕ → Node → Moved
  moved left n = move_of G.count G.lives left n c rest

  -- each move of the search goes on with its course
  pub course_step : (left : ℕ) (n : Node) → left ≡ allowance - openings → At n → (x y : ℕ) → RoomFor (moved left n).move listed out
      → Course G k allowance (moved left n).waiting (after (moved left n).move (P x) y).listed (after (moved left n).move (P x) y).openings
      (after (moved left n).move (P x) y).spent out₀ (written_by (moved left n).move listed out)
  course_step left (node zero q) is C x y room =
      let w : Waiting = record { block = node zero q; count = c } in
      let p : Pair = record { document = q; count = c } in
      let g = C.goal in
      let e : named_in (C.moves ++ (names p ∷ [])) ≡ named_in C.moves ++ (p ∷ []) = named-append C.moves (names p ∷ []) in
      let r : 2 * length (named_in C.moves) + 2 ≤ length out₀ = omega (arith, C.named, C.size) in
      record {
        moves = C.moves ++ (names p ∷ []);
        todo = C.todo - 1;
        goal = omega arith;
        path = append G k allowance out₀ out listed openings w rest C more (allowance - openings) refl (names p)
            (moves_from G.count G.lives (C.todo - 1 + (allowance - openings)) (C.todo - 1) (allowance - openings) rest)
            (next G k allowance out₀ out listed openings w rest C more (allowance - openings) refl);
        named = ap length e ∙ length-append (named_in C.moves) (p ∷ []) ∙ ap (λ (n : ℕ). n + 1) C.named;
        opened = omega (arith, count-opened G k allowance out₀ out listed openings w rest C more left is (names p));
        covered = C.covered;
        found = found_on G k allowance out₀ out listed openings w rest C more left is (names p) false refl;
        written = (λ i. set (set (C.written i) (2 * sym C.named i) q) (2 * sym C.named i + 1) c)
            ∙ sym (flat_write (named_in C.moves) p out₀ r) ∙ ap (λ (ps : List Pair). overwrite (flat ps) out₀) (sym e);
        size = length-set (set out (2 * listed) q) (2 * listed + 1) c ∙ length-set out (2 * listed) q ∙ C.size;
      }
  course_step zero (node (suc l) q) is C x y room =
      let w : Waiting = record { block = node (suc l) q; count = c } in
      let s = silent G k allowance out₀ out listed openings w rest C more zero is finds_spent refl in
      record {
        moves = C.moves ++ (finds_spent ∷ []);
        todo = C.todo;
        goal = C.goal;
        path = next G k allowance out₀ out listed openings w rest C more zero is ∙ sym (append-nil (C.moves ++ (finds_spent ∷ [])));
        named = ap length s ∙ C.named;
        opened = omega (arith, count-opened G k allowance out₀ out listed openings w rest C more zero is finds_spent);
        covered = C.covered;
        found = found_on G k allowance out₀ out listed openings w rest C more zero is finds_spent true refl;
        written = C.written ∙ ap (λ (ps : List Pair). overwrite (flat ps) out₀) (sym s);
        size = C.size;
      }
  course_step (suc left) (node (suc l) q) is C x y room =
      let n : Node = node (suc l) q in
      let w : Waiting = record { block = n; count = c } in
      let s = silent G k allowance out₀ out listed openings w rest C more (suc left) is (opens n) refl in
      let g = C.goal in
      let fuel : C.todo - 1 + suc left ≡ suc (C.todo - 1) + (allowance - (openings + 1)) = omega arith in
      let less : suc left - 1 ≡ allowance - (openings + 1) = omega arith in
      record {
        moves = C.moves ++ (opens n ∷ []);
        todo = suc (C.todo - 1);
        goal = omega arith;
        path = append G k allowance out₀ out listed openings w rest C more (suc left) is (opens n)
            (moves_from G.count G.lives (suc (C.todo - 1) + (allowance - (openings + 1))) (suc (C.todo - 1)) (allowance - (openings + 1))
            (wait_halves G.count G.lives l q rest))
            (next G k allowance out₀ out listed openings w rest C more (suc left) is
            ∙ ap₂ (λ (j t : ℕ). C.moves ++ (opens n ∷ moves_from G.count G.lives j (suc (C.todo - 1)) t
            (wait_halves G.count G.lives l q rest))) fuel less);
        named = ap length s ∙ C.named;
        opened = omega (arith, count-opened G k allowance out₀ out listed openings w rest C more (suc left) is (opens n));
        covered = omega arith;
        found = found_on G k allowance out₀ out listed openings w rest C more (suc left) is (opens n) false refl;
        written = C.written ∙ ap (λ (ps : List Pair). overwrite (flat ps) out₀) (sym s);
        size = C.size;
      }

  -- a document that is named finds room
  pub course_room : (left : ℕ) (n : Node) → left ≡ allowance - openings → At n → 2 * length (named_in (moves_of G k allowance)) ≤ length out
      → RoomFor (moved left n).move listed out
  course_room left (node zero q) is C room =
      let w : Waiting = record { block = node zero q; count = c } in
      let p : Pair = record { document = q; count = c } in
      let ms : List Move = moves_from G.count G.lives (C.todo - 1 + left) (C.todo - 1) left rest in
      omega (
        arith,
        ap (λ (l : List Move). length (named_in l)) (next G k allowance out₀ out listed openings w rest C more left is),
        ap length (named-append C.moves (names p ∷ ms)),
        length-append (named_in C.moves) (p ∷ named_in ms),
        C.named,
      )
  course_room zero (node (suc l) q) is C room = tt
  course_room (suc left) (node (suc l) q) is C room = tt

  pub course_less : (left : ℕ) (n : Node) → left ≡ allowance - openings → (x y : ℕ)
      → fuel_of k allowance (after (moved left n).move (P x) y) < fuel_of k allowance (P x)
  course_less left (node zero q) is x y = omega arith
  course_less zero (node (suc l) q) is x y = omega arith
  course_less (suc left) (node (suc l) q) is x y = omega arith

-- ---- the end

module _ (G : Ground) (k allowance : ℕ) (f : List Waiting) (listed openings : ℕ) (spent : Bool) (out₀ out : List ℕ)
    (C : Course G k allowance f listed openings spent out₀ out) where
  no_moves : (fuel left : ℕ) (f : List Waiting) → moves_from G.count G.lives fuel 0 left f ≡ []
  no_moves zero left f = refl
  no_moves (suc fuel) left f = refl

  no_nodes : (fuel todo left : ℕ) → moves_from G.count G.lives fuel todo left [] ≡ []
  no_nodes zero todo left = refl
  no_nodes (suc fuel) zero left = refl
  no_nodes (suc fuel) (suc todo) left = refl

  same : (b : Bool) → ◌≡◌ {A = List Move} (cond b [] []) []
  same true = refl
  same false = refl

  pub course_end : (spent ≡ true) ⊎ ((f ≡ []) ⊎ (k ≤ listed)) → moves_of G k allowance ≡ C.moves
  course_end d = C.path ∙ ap (λ (ms : List Move). C.moves ++ ms) (go d) ∙ append-nil C.moves
    where
      left : ℕ
      left = allowance - openings

      go : (spent ≡ true) ⊎ ((f ≡ []) ⊎ (k ≤ listed)) → cond spent [] (moves_from G.count G.lives (C.todo + left) C.todo left f) ≡ []
      go (inl e) = rw e
      go (inr (inl e)) = rw (e, no_nodes (C.todo + left) C.todo left) (same spent)
      go (inr (inr l)) =
          let g = C.goal in
          let z : C.todo ≡ 0 = omega arith in
          rw (z, no_moves (0 + left) left f) (same spent)

  -- the answer that the moves come to: the counted openings, whichever way it ended
  pub course_ended : ended_of (answer_of C.moves) ≡ cond spent (spent_with listed openings) (done_with listed openings)
  course_ended = rw (C.found, C.opened) (go spent)
    where
      go : (b : Bool)
          → ended_of (cond b (model.spent (named_in C.moves) openings) (model.done (named_in C.moves) openings))
          ≡ cond b (spent_with listed openings) (done_with listed openings)
      go true = ap (λ (n : ℕ). spent_with n openings) C.named
      go false = ap (λ (n : ℕ). done_with n openings) C.named

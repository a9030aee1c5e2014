-- The loop of a search by moves: what holds from move to move, and the result at its end.
use Prim.Native.Nat.{ℕ, ◌-◌, ◌*◌, ◌≤◌, ◌<◌, min}
use native.Mathlib.Omega.{arith}
use mathlib.Core.Path.{◌≡◌, refl, sym, ap, ◌∙◌, subst, subst₃}
use mathlib.Core.Logic.{◌⊎◌, inl, inr}
use mathlib.Core.List.{List, [], ◌∷◌, ◌++◌}
use mathlib.Core.Bool.{Bool, true, false, not, ◌&&◌}
use lib.ListN.{length, drop, replicate, length-map, length-replicate}
use lib.Dec.{ltb}
use borrow.Author.Tests.{ltb-true, ltb-false, not-true, not-false}
use Rattle.bits.proofs.Tests.{and_both, and_cases}
use Rattle.model.specs.Lists.{overwrite}
use Rattle.model.specs.Outcome.{answered}
use Rattle.model.specs.Queries.{Pair, flat}
use Rattle.model.specs.TopK.{ended_of, pairs_of, found_into}
use Rattle.model.specs.Search.{Waiting, named_in, answer_of}
use Rattle.model.specs.Frontier.{blocks}
use Rattle.model.proofs.Listed.{length-top_k_of}
use Rattle.model.proofs.Greedy.Abstract.{top_k_of}
use Rattle.model.proofs.Greedy.Waits.{waits_root}
use Rattle.model.proofs.Greedy.Answers.{pairs-answer}
use Rattle.model.proofs.Greedy.Theorem.{greedy-of}
use Rattle.frontier.specs.Heap.{queue}
use Rattle.frontier.proofs.Queue.{length-queue}
use Rattle.frontier.proofs.Records.{drop_further}
use Rattle.moves.specs.declared.Ended.{Ended}
use Rattle.moves.specs.declared.progress.Progress.{Progress}
use Rattle.moves.specs.Ground.{Ground, waiting_in, root_waits, moves_of}
use Rattle.moves.specs.Moves.{frontier_in, Kept, next_move}
use Rattle.moves.specs.Results.{Begun, goes_on, move_at, after, RoomFor, written_by, Advanced, ended_is, ended_by, result_is, found_by}
use Rattle.moves.proofs.Grounds.{Sound}
use Rattle.moves.proofs.Kept.{frontier_is, kept_of}
use Rattle.moves.proofs.Course.{Course, course_begin, course_step, course_room, course_less, course_end, course_ended, fuel_of}

-- the answer slice was out₀ and is out, the work slice was w₀ and is w
pub record Searching (G : Ground) (k allowance : ℕ) (out₀ w₀ out w : List ℕ) (p : Progress) : Type 0 where
  pub course : Course G k allowance (frontier_in G w p.waiting) p.listed p.openings p.spent out₀ out
  pub kept : Kept G w p.waiting
  pub rest : drop (4 * G.documents) w ≡ drop (4 * G.documents) w₀
  pub size : length w ≡ length w₀

-- ---- how it begins

module _ (G : Ground) (ok : Sound G) where
  pub searching_begin : (k allowance : ℕ) (out w v : List ℕ) (m : ℕ) → 4 * G.documents ≤ length w → Begun G w v m
      → Searching G k allowance out v out v (record { waiting = m; listed = 0; openings = 0; spent = false })
  searching_begin k allowance out w v m room b =
      let W = waits_root G.count G.lives G.height in
      let f : frontier_in G v m ≡ root_waits G = frontier_is G ok v m (blocks (root_waits G)) b.order W.ready ∙ sym W.counts in
      record {
        course = subst (λ (g : List Waiting). Course G k allowance g 0 0 false out out) (sym f) (course_begin G k allowance out);
        kept = kept_of G ok v m (blocks (root_waits G)) b.order W.ready b.heap (let z = b.size in omega arith);
        rest = refl;
        size = refl;
      }

  -- past the root nothing of the work slice is touched
  pub begun_rest : (w v : List ℕ) (m : ℕ) → Begun G w v m → drop (4 * G.documents) v ≡ drop (4 * G.documents) w
  begun_rest w v m b = drop_further v w 4 (4 * G.documents) b.rest (let o = ok.some in omega arith)

-- ---- how much it lists

named_few : (G : Ground) → Sound G → (k allowance : ℕ) → length (named_in (moves_of G k allowance)) ≤ min k G.documents
named_few G ok k allowance =
    let e : named_in (moves_of G k allowance) ≡ pairs_of (top_k_of G.count G.lives G.height G.documents k allowance) =
    sym (pairs-answer (moves_of G k allowance)) ∙ ap pairs_of (greedy-of G.count G.lives ok.counted G.height G.documents ok.fits ok.outside k allowance) in
    omega (arith, ap length e, length-top_k_of G.count G.lives G.height G.documents k allowance)

-- ---- how it goes on

module _ (G : Ground) (ok : Sound G) (k allowance : ℕ) (out₀ w₀ out w : List ℕ) (p : Progress)
    (S : Searching G k allowance out₀ w₀ out w p) where
  -- the move on a frontier that is not empty
  module _ (fresh : p.spent ≡ false) (more : p.listed < k) where
    abbrev P : Progress
    P = record { waiting = p.waiting; listed = p.listed; openings = p.openings; spent = false }

    same : p ≡ P
    same = λ i. record { waiting = p.waiting; listed = p.listed; openings = p.openings; spent = fresh i }

    abbrev left : ℕ
    left = allowance - p.openings

    course : Course G k allowance (frontier_in G w p.waiting) p.listed p.openings false out₀ out
    course =
        subst (λ (b : Bool). Course G k allowance (frontier_in G w p.waiting) p.listed p.openings b out₀ out) fresh S.course

    step_room : (f : List Waiting) → 0 < length f → Course G k allowance f p.listed p.openings false out₀ out
        → 2 * length (named_in (moves_of G k allowance)) ≤ length out → RoomFor (next_move G left f).move p.listed out
    step_room [] l C r = absurd (omega arith)
    step_room (x ∷ rest) l C r =
        course_room G k allowance out₀ out p.listed p.openings more rest x.count left x.block refl C r

    step_less : (f : List Waiting) → 0 < length f → (y : ℕ) → fuel_of k allowance (after (next_move G left f).move P y) < fuel_of k allowance P
    step_less [] l y = absurd (omega arith)
    step_less (x ∷ rest) l y =
        course_less G k allowance out₀ out p.listed p.openings more rest x.count left x.block refl p.waiting y

    step_course : (f : List Waiting) → 0 < length f → Course G k allowance f p.listed p.openings false out₀ out → (y : ℕ)
        → RoomFor (next_move G left f).move p.listed out
        → Course G k allowance (next_move G left f).waiting (after (next_move G left f).move P y).listed
        (after (next_move G left f).move P y).openings (after (next_move G left f).move P y).spent
        out₀ (written_by (next_move G left f).move p.listed out)
    step_course [] l C y r = absurd (omega arith)
    step_course (x ∷ rest) l C y r =
        course_step G k allowance out₀ out p.listed p.openings more rest x.count left x.block refl C p.waiting y r

  module _ (on : goes_on p k ≡ true) (room : 2 * min k G.documents ≤ length out₀) where
    fresh : p.spent ≡ false
    fresh = not-true p.spent (and_both (not p.spent) (ltb 0 p.waiting && ltb p.listed k) on).0

    both : (ltb 0 p.waiting ≡ true) × (ltb p.listed k ≡ true)
    both = and_both (ltb 0 p.waiting) (ltb p.listed k) (and_both (not p.spent) (ltb 0 p.waiting && ltb p.listed k) on).1

    pub some_wait : 0 < p.waiting
    some_wait = ltb-true 0 p.waiting both.0

    more : p.listed < k
    more = ltb-true p.listed k both.1

    some_frontier : 0 < length (frontier_in G w p.waiting)
    some_frontier = omega (arith, some_wait, length-queue w p.waiting, length-map (queue w p.waiting) (waiting_in G.height))

    pub searching_room : RoomFor (move_at G allowance p w).move p.listed out
    searching_room =
        step_room fresh more (frontier_in G w p.waiting) some_frontier (course fresh more)
        (omega (
          arith,
          S.course.size,
          named_few G ok k allowance,
        ))

    module _ (out' w' : List ℕ) (r : Progress) (A : Advanced G allowance p out w r out' w') where
      progress : r ≡ after (move_at G allowance p w).move (P fresh more) r.waiting
      progress = A.progress ∙ ap (λ (z : Progress). after (move_at G allowance p w).move z r.waiting) (same fresh more)

      pub searching_less : fuel_of k allowance r < fuel_of k allowance p
      searching_less =
          let e : fuel_of k allowance r ≡ fuel_of k allowance (after (move_at G allowance p w).move (P fresh more) r.waiting) = ap (fuel_of k allowance) progress in
          let f : fuel_of k allowance p ≡ fuel_of k allowance (P fresh more) = ap (fuel_of k allowance) (same fresh more) in
          omega (arith, step_less fresh more (frontier_in G w p.waiting) some_frontier r.waiting)

      pub searching_step : Searching G k allowance out₀ w₀ out' w' r
      searching_step = record {
        course = subst₃ (λ (g : List Waiting) (z : Progress) (o : List ℕ).
            Course G k allowance g z.listed z.openings z.spent out₀ o)
            (sym A.moves.waits) (sym progress) (sym A.written)
            (step_course fresh more (frontier_in G w p.waiting) some_frontier (course fresh more) r.waiting searching_room);
        kept = A.moves.kept;
        rest = A.moves.rest ∙ S.rest;
        size = A.moves.size ∙ S.size;
      }

  -- ---- how it ends

  pub listed_le : p.listed ≤ k
  listed_le = let g = S.course.goal in omega arith

  module _ (off : goes_on p k ≡ false) where
    over : (p.spent ≡ true) ⊎ ((frontier_in G w p.waiting ≡ []) ⊎ (k ≤ p.listed))
    over = go (and_cases (not p.spent) (ltb 0 p.waiting && ltb p.listed k) off)
      where
        last : (ltb 0 p.waiting ≡ false) ⊎ (ltb p.listed k ≡ false) → (frontier_in G w p.waiting ≡ []) ⊎ (k ≤ p.listed)
        last (inl e) =
            let l = ltb-false 0 p.waiting e in
            let z : p.waiting ≡ 0 = omega arith in
            inl (ap (frontier_in G w) z)
        last (inr e) = inr (ltb-false p.listed k e)

        go : (not p.spent ≡ false) ⊎ ((ltb 0 p.waiting && ltb p.listed k) ≡ false)
            → (p.spent ≡ true) ⊎ ((frontier_in G w p.waiting ≡ []) ⊎ (k ≤ p.listed))
        go (inl d) = inl (not-false p.spent d)
        go (inr d) = inr (last (and_cases (ltb 0 p.waiting) (ltb p.listed k) d))

    -- the answer is read off the moves
    pub searching_end : (w₁ v : List ℕ) (r : Ended) → drop (4 * G.documents) w₀ ≡ drop (4 * G.documents) w₁ → ended_is r ≡ ended_by p
        → v ≡ overwrite (replicate (4 * G.documents) 0) w
        → result_is r out v ≡ found_into out₀ w₁ (answered (found_by G k allowance))
    searching_end w₁ v r untouched e c =
        let n = 4 * G.documents in
        let C = S.course in
        let all : answer_of C.moves ≡ answer_of (moves_of G k allowance) =
        ap answer_of (sym (course_end G k allowance (frontier_in G w p.waiting) p.listed p.openings p.spent out₀ out C over)) in
        let ended : ended_is r ≡ ended_of (answer_of (moves_of G k allowance)) =
        e ∙ sym (course_ended G k allowance (frontier_in G w p.waiting) p.listed p.openings p.spent out₀ out C)
        ∙ ap ended_of all in
        let pairs : named_in C.moves ≡ pairs_of (answer_of (moves_of G k allowance)) =
        sym (pairs-answer C.moves) ∙ ap pairs_of all in
        let written = C.written ∙ ap (λ (ps : List Pair). overwrite (flat ps) out₀) pairs in
        let len : length (replicate {A = ℕ} n 0) ≡ n = length-replicate {A = ℕ} n 0 in
        let cleared : v ≡ overwrite (replicate n 0) w₁ =
        c ∙ ap (λ (j : ℕ). replicate n 0 ++ drop j w) len ∙ ap (λ (t : List ℕ). replicate n 0 ++ t) (S.rest ∙ untouched)
        ∙ ap (λ (j : ℕ). replicate n 0 ++ drop j w₁) (sym len) in
        λ i. record { outcome = answered (ended i); answers = written i; work = cleared i }

-- A search by moves as the code goes about it, and the result that it comes to. Document 01, "The questions", the shortlist.
use Rattle.std.specs.Prelude.{ℕ, ◌+◌, ◌-◌, ◌*◌, ◌^◌, ◌≤◌, ◌<◌, ◌≡◌, List, map, Bool, true, false, cond, not, ◌&&◌, length, drop, set, ltb, Result}
use Rattle.frontier.specs.Heap.{queue, Heap}
use Rattle.model.specs.Outcome.{Outcome, answered}
use Rattle.refusals.specs.declared.Refusal.{Refusal}
use Rattle.refusals.specs.Refusals.{outcome_by}
use Rattle.model.specs.Queries.{flat}
use Rattle.model.specs.TopK.{done_with, spent_with, Found, found_of, SearchResult}
use Rattle.model.specs.TopK as model
use Rattle.model.specs.Search.{Move, names, opens, finds_spent, answer_of}
use Rattle.model.specs.Search as search
use Rattle.model.specs.Frontier.{blocks}
use Rattle.moves.specs.declared.Ended.{Ended}
use Rattle.moves.specs.declared.Ended.TheVariants.{Done, Spent}
use Rattle.moves.specs.declared.progress.Progress.{Progress}
use Rattle.moves.specs.Ground.{Ground, root_waits, record_in, moves_of}
use Rattle.moves.specs.Moves.{frontier_in, next_move, Moves}

-- ---- how it begins

-- of the work slice w a search makes v, in which m nodes wait: the root, if it lives
pub record Begun (G : Ground) (w v : List ℕ) (m : ℕ) : Type 0 where
  pub heap : Heap v m
  pub order : queue v m ≡ map (record_in G) (blocks (root_waits G))
  pub rest : drop 4 v ≡ drop 4 w
  pub size : length v ≡ length w

-- ---- how it goes on

abbrev pub goes_on : Progress → ℕ → Bool
goes_on p k = not p.spent && (ltb 0 p.waiting && ltb p.listed k)

-- the move that is next, with the allowance that is left
abbrev pub move_at : Ground → ℕ → Progress → List ℕ → search.Moved
move_at G allowance p work = next_move G (allowance - p.openings) (frontier_in G work p.waiting)

-- what a move says, where n nodes wait after it
abbrev pub after : Move → Progress → ℕ → Progress
after (names d) p n = record { waiting = n; listed = p.listed + 1; openings = p.openings; spent = false }
after (opens b) p n = record { waiting = n; listed = p.listed; openings = p.openings + 1; spent = false }
after finds_spent p n = record { waiting = n; listed = p.listed; openings = p.openings; spent = true }

-- a document that is named goes into the answer slice as pair i, for which there is room
abbrev pub RoomFor : Move → ℕ → List ℕ → Type 0
RoomFor (names d) i answers = 2 * i + 2 ≤ length answers
RoomFor (opens b) i answers = Unit {0}
RoomFor finds_spent i answers = Unit {0}

-- an opening that is counted is one of fewer than 2 ^ 32
abbrev pub Countable : Move → ℕ → Type 0
Countable (names d) openings = Unit {0}
Countable (opens b) openings = openings + 1 < 2 ^ 32
Countable finds_spent openings = Unit {0}

abbrev pub written_by : Move → ℕ → List ℕ → List ℕ
written_by (names d) i answers = set (set answers (2 * i) d.document) (2 * i + 1) d.count
written_by (opens b) i answers = answers
written_by finds_spent i answers = answers

pub record Advanced (G : Ground) (allowance : ℕ) (p : Progress) (answers work : List ℕ) (r : Progress) (answers' work' : List ℕ) : Type 0 where
  pub progress : r ≡ after (move_at G allowance p work).move p r.waiting
  pub written : answers' ≡ written_by (move_at G allowance p work).move p.listed answers
  pub moves : Moves G work (move_at G allowance p work).waiting work' r.waiting

-- ---- how it ends

-- each case of the answer as document 01 has it: 'done' with the openings needed, or 'spent' with the allowance
abbrev pub ended_is : Ended → model.Ended
ended_is (Done listed openings) = done_with listed openings
ended_is (Spent listed allowance) = spent_with listed allowance

-- so many documents are listed, whichever way it ended
abbrev pub listed_by : model.Ended → ℕ
listed_by (done_with listed openings) = listed
listed_by (spent_with listed allowance) = listed

-- the openings counted, whichever way it ended
abbrev pub ended_by : Progress → model.Ended
ended_by p = cond p.spent (spent_with p.listed p.openings) (done_with p.listed p.openings)

-- the answer, with the final content of the lent slices
abbrev pub result_is : Ended → List ℕ → List ℕ → SearchResult model.Ended
result_is r answers work = record { outcome = answered (ended_is r); answers = answers; work = work }

-- what is to be found: the answer that is read off the moves
abbrev pub found_by : Ground → ℕ → ℕ → Found model.Ended
found_by G k allowance = found_of flat G.documents (answer_of (moves_of G k allowance))

-- ---- the answer to a question, with its refusals

-- how the search ended, or the number of a refusal
abbrev pub top_k_of : Result Ended Refusal → Outcome model.Ended
top_k_of = outcome_by ended_is

-- the answer, with the final content of the lent slices
abbrev pub top_k_is : Result Ended Refusal → List ℕ → List ℕ → SearchResult model.Ended
top_k_is r answers work = record { outcome = top_k_of r; answers = answers; work = work }

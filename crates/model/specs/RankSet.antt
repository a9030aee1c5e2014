-- The count of a set of documents before a place, and the whole result. Document 02, M-106: "One harbour has several sheets, and offices count them as one."
use Rattle.std.specs.Prelude.{ℕ, ◌≡◌, List, [], ◌∷◌, ◌++◌, Bool, true, false, not, ◌&&◌, ◌||◌, length, take, leb, ltb, eqb}
use Rattle.bits.specs.Sequences.{tally, all}
use Rattle.model.specs.Lists.{any, sorted}
use Rattle.model.specs.Outcome.{Outcome, answered, refuse, and_then}
use Rattle.model.specs.Opening.{opened}

-- ---- sets of documents

-- "strictly ascending": each is below all that follow it
abbrev pub ascending : List ℕ → Bool
ascending [] = true
ascending (d ∷ ds) = all (ltb d) ds && ascending ds

-- whether a document belongs to a set
abbrev pub member : List ℕ → ℕ → Bool
member set d = any (eqb d) set

-- no document belongs to both
abbrev pub Disjoint : List ℕ → List ℕ → Type 0
Disjoint set other = (d : ℕ) → (member set d && member other d) ≡ false

-- two sets joined, in ascending order
abbrev pub union : List ℕ → List ℕ → List ℕ
union set other = sorted (set ++ other)

-- ---- the count

-- "how many entries there belong to the set, each once": of the entries before place p those that are members
abbrev pub rank_set : List ℕ → List ℕ → ℕ → ℕ
rank_set set entries p = tally (member set) (take p entries)

-- 19 "after the archive's checks and before 11, a set that is too long or not strictly ascending"; "a set of up to 64 sheets";
-- 11 as for one document: a sheet N or more, p > n
abbrev pub rank_set_result : List ℕ → List ℕ → ℕ → Outcome ℕ
rank_set_result bytes set p =
    and_then (opened bytes)
    (λ lib.
    refuse 19 (ltb 64 (length set) || not (ascending set))
    (refuse 11 (any (leb lib.documents) set || ltb (length lib.entries) p) (answered (rank_set set lib.entries p))))

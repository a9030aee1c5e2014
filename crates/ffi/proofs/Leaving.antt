-- From what is given for an answer, and the operation's own promise, to what an export leaves.
use Prim.Native.Nat.{ℕ}
use mathlib.Core.Path.{◌≡◌, ap, ◌∙◌}
use mathlib.Core.List.{List, [], ◌∷◌}
use Rattle.std.specs.Prelude.{Result, Ok, Err, MatchResult}
use Rattle.refusals.specs.declared.Refusal.{Refusal}
use Rattle.refusals.specs.Refusals.{refusal_number, outcome_by}
use Rattle.model.specs.Outcome.{Outcome}
use Rattle.model.specs.Format.{Sizes, WriteResult}
use Rattle.model.specs.Opening.{ReadResult}
use Rattle.model.specs.Queries.{PairsResult}
use Rattle.model.specs.TopK.{SearchResult}
use Rattle.ffi.specs.Left.{Given, Left, coded, given, one, sizes, write_left, read_left, pairs_left, search_left}

-- a number that is given, or the number of a refusal
pub gave : (answer : Result ℕ Refusal) (code old new : ℕ)
    → MatchResult answer (λ x. (code ≡ 0) × (new ≡ x)) (λ r. (code ≡ refusal_number r) × (new ≡ old))
    → coded code (one new) ≡ given one (outcome_by (λ x. x) answer) (one old)
unfolding given
gave (Ok x) code old new (e, f) = λ i. coded (e i) (one (f i))
gave (Err refusal) code old new (e, f) = λ i. coded (e i) (one (f i))

pub given_for : {A : Type 0} (values : A → List ℕ) (outs : List ℕ) {o p : Outcome A} {g : Given}
    → g ≡ given values o outs → o ≡ p → g ≡ given values p outs
given_for values outs e q = e ∙ ap (λ x. given values x outs) q

pub write_left_lem : (outs : List ℕ) {o : Outcome ℕ} {target : List ℕ} {g : Given} {r : WriteResult}
    → g ≡ given one o outs → record { outcome = o; target = target } ≡ r
    → ◌≡◌ {A = Left} (record { answer = g; slices = target ∷ [] }) (write_left r outs)
unfolding write_left
write_left_lem outs {target = target} e q =
    (λ i. record { answer = e i; slices = target ∷ [] }) ∙ ap (λ (x : WriteResult). write_left x outs) q

pub read_left_lem : (outs : List ℕ) {o : Outcome Sizes} {entries lengths : List ℕ} {g : Given} {r : ReadResult}
    → g ≡ given sizes o outs → record { outcome = o; entries = entries; lengths = lengths } ≡ r
    → ◌≡◌ {A = Left} (record { answer = g; slices = entries ∷ lengths ∷ [] }) (read_left r outs)
unfolding read_left
read_left_lem outs {entries = entries} {lengths = lengths} e q =
    (λ i. record { answer = e i; slices = entries ∷ lengths ∷ [] }) ∙ ap (λ (x : ReadResult). read_left x outs) q

pub pairs-left : (outs : List ℕ) {o : Outcome ℕ} {answers : List ℕ} {g : Given} {r : PairsResult}
    → g ≡ given one o outs → record { outcome = o; answers = answers } ≡ r
    → ◌≡◌ {A = Left} (record { answer = g; slices = answers ∷ [] }) (pairs_left r outs)
unfolding pairs_left
pairs-left outs {answers = answers} e q =
    (λ i. record { answer = e i; slices = answers ∷ [] }) ∙ ap (λ (x : PairsResult). pairs_left x outs) q

pub search_left_lem : {A : Type 0} (values : A → List ℕ) (outs : List ℕ) {o : Outcome A} {answers work : List ℕ} {g : Given} {r : SearchResult A}
    → g ≡ given values o outs → record { outcome = o; answers = answers; work = work } ≡ r
    → ◌≡◌ {A = Left} (record { answer = g; slices = answers ∷ work ∷ [] }) (search_left values r outs)
unfolding search_left
search_left_lem {A = A} values outs {answers = answers} {work = work} e q =
    (λ i. record { answer = e i; slices = answers ∷ work ∷ [] }) ∙ ap (λ (x : SearchResult A). search_left values x outs) q

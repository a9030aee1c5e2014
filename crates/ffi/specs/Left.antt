-- What an exported operation answers and leaves behind, for the results of model: 0 or the number of the refusal, the out-parameters, the lent slices.
use Rattle.std.specs.Prelude.{ℕ, ◌^◌, ◌<◌, List, [], ◌∷◌, Result, IfOk}
use Rattle.model.specs.Outcome.{Outcome, answered, refused}
use Rattle.model.specs.Format.{Sizes, WriteResult}
use Rattle.model.specs.Opening.{ReadResult}
use Rattle.model.specs.Queries.{Bounds, PairsResult}
use Rattle.model.specs.TopK.{Ended, done_with, spent_with, SearchResult}
use Rattle.refusals.specs.declared.Refusal.{Refusal}
use Rattle.reader.specs.declared.Sizes.{Sizes as Read}

-- the answer and the out-parameters
pub record Given : Type 0 where
  pub code : ℕ
  pub outs : List ℕ

abbrev pub coded : ℕ → List ℕ → Given
coded code outs = record { code = code; outs = outs }

-- so many out-parameters, or so many lent slices
module _ {A : Type 0} where
  abbrev pub one : A → List A
  one x = x ∷ []

  abbrev pub two : A → A → List A
  two x y = x ∷ y ∷ []

  abbrev pub three : A → A → A → List A
  three x y z = x ∷ y ∷ z ∷ []

-- 0 with the values, or the number of a refusal with the out-parameters as they were
unfoldable pub given : {A : Type 0} → (A → List ℕ) → Outcome A → List ℕ → Given
given values (answered x) outs = coded 0 (values x)
given values (refused number) outs = coded number outs

-- ---- the values of an answer, as they go into out-parameters

-- n, N and W
abbrev pub sizes : Sizes → List ℕ
sizes s = three s.entries s.documents s.terms

abbrev pub ends : Bounds → List ℕ
ends r = two r.from r.to

-- how many pairs are listed; 0 for 'done' or 1 for 'spent'; the openings needed or the allowance
abbrev pub ended : Ended → List ℕ
ended (done_with listed openings) = three listed 0 openings
ended (spent_with listed allowance) = three listed 1 allowance

-- ---- with the final content of the lent slices

pub record Left : Type 0 where
  pub answer : Given
  pub slices : List (List ℕ)

abbrev pub left : ℕ → List ℕ → List (List ℕ) → Left
left code outs slices = record { answer = coded code outs; slices = slices }

unfoldable pub write_left : WriteResult → List ℕ → Left
write_left r outs = record { answer = given one r.outcome outs; slices = one r.target }

unfoldable pub read_left : ReadResult → List ℕ → Left
read_left r outs = record { answer = given sizes r.outcome outs; slices = two r.entries r.lengths }

unfoldable pub pairs_left : PairsResult → List ℕ → Left
pairs_left r outs = record { answer = given one r.outcome outs; slices = one r.answers }

unfoldable pub search_left : {A : Type 0} → (A → List ℕ) → SearchResult A → List ℕ → Left
search_left values r outs = record { answer = given values r.outcome outs; slices = two r.answers r.work }

-- ---- what the out-parameters can hold

-- n, N and W that are read fit 32 bits
abbrev pub Narrow : Result Read Refusal → Type 0
Narrow answer = IfOk answer (λ s. (s.entries < 2 ^ 32) × (s.documents < 2 ^ 32) × (s.terms < 2 ^ 32))

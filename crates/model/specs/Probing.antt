-- Top-k by quantile probing, after document 004, section 4.2, with a stop that is right for every size of the range: the method, and what holds from
-- round to round. That it gives the full list is `proofs/Probing/Theorem`.
use Rattle.std.specs.Prelude.{ℕ, zero, suc, ◌+◌, ◌-◌, ◌*◌, ◌^◌, ◌≤◌, ◌≡◌, refl, List, [], ◌∷◌, Bool, true, false, not, cond, ◌&&◌, ◌||◌, length, get_or, take, leb, ltb, eqb}
use Rattle.model.specs.Lists.{keep}
use Rattle.model.specs.Queries.{quantile, Pair, pair, pair_of, listing}
use Rattle.model.specs.TopK.{insert_pair, ranking, full_list}

-- ---- one probe

-- the candidates after one more document: in the order of the ranking, at most k
abbrev pub enter : ℕ → Pair → List Pair → List Pair
enter k p candidates = take k (insert_pair p candidates)

abbrev pub unseen : ℕ → Bool
unseen d = false

-- the documents seen, and d
abbrev pub mark : ℕ → (ℕ → Bool) → ℕ → Bool
mark d seen e = eqb d e || seen e

-- the documents seen so far, and the first k of them with their counts
pub record State : Type 0 where
  pub seen : ℕ → Bool
  pub candidates : List Pair

-- probe rank r: a document seen before changes nothing
abbrev pub probe : ℕ → List ℕ → ℕ → State → State
probe k xs r s =
    let d = quantile r xs in
    cond (s.seen d) s (record { seen = mark d s.seen; candidates = enter k (pair_of xs d) s.candidates })

-- ---- one round

-- n probes from rank r on, 2 * g apart, as far as there are entries
abbrev pub sweep : ℕ → List ℕ → ℕ → ℕ → ℕ → State → State
sweep k xs g zero r s = s
sweep k xs g (suc n) r s = let rest = sweep k xs g n (r + 2 * g) (probe k xs r s) in cond (ltb r (length xs)) rest s

-- the round with step g: the ranks g - 1, 3 * g - 1, 5 * g - 1, ..; the rounds before it probed 2 * g - 1, 4 * g - 1, ..
abbrev pub round : ℕ → List ℕ → ℕ → State → State
round k xs g s = sweep k xs g (length xs) (g - 1) s

-- ---- the stop, and all rounds

-- what stands past the last candidate
abbrev pub nobody : Pair
nobody = pair 0 0

-- k candidates are held, and the last one's count is at least g: a document that is not seen then has at most g - 1
abbrev pub settled : ℕ → ℕ → List Pair → Bool
settled k g candidates = eqb (length candidates) k && leb g (get_or candidates (k - 1) nobody).count

-- the rounds with the steps 2 ^ e, .., 2, 1, until the candidates are settled
abbrev pub rounds : ℕ → List ℕ → ℕ → State → List Pair
rounds k xs zero s = (round k xs 1 s).candidates
rounds k xs (suc e) s =
    let t = round k xs (2 ^ suc e) s in
    let rest = rounds k xs e t in
    cond (settled k (2 ^ suc e) t.candidates) t.candidates rest

-- the largest e up to f with 2 ^ e ≤ m
abbrev pub exponent_to : ℕ → ℕ → ℕ
exponent_to zero m = 0
exponent_to (suc f) m = let rest = exponent_to f m in cond (leb (2 ^ suc f) m) (suc f) rest

abbrev pub probing : ℕ → List ℕ → List Pair
probing k xs = rounds k xs (exponent_to (length xs) (length xs)) (record { seen = unseen; candidates = [] })

-- another round is to come after the one with step g
abbrev pub goes_on : ℕ → ℕ → List Pair → Bool
goes_on k g candidates = ltb 1 g && not (settled k g candidates)

-- ---- what holds from round to round

-- the documents seen, with their counts
abbrev pub seen_of : ℕ → List ℕ → (ℕ → Bool) → List Pair
seen_of N xs seen = keep (λ p. seen p.document) (listing N xs)

-- the candidates are the first k of these
abbrev pub Held : ℕ → ℕ → List ℕ → (ℕ → Bool) → List Pair → Type 0
Held N k xs seen candidates = candidates ≡ take k (ranking (seen_of N xs seen))

-- of the ranks g - 1, 2 * g - 1, 3 * g - 1, .. those below r have been probed
abbrev pub Probed : List ℕ → ℕ → ℕ → (ℕ → Bool) → Type 0
Probed xs g r seen = (c : ℕ) → c * g + g ≤ r → c * g + g ≤ length xs → seen (quantile (c * g + g - 1) xs) ≡ true

-- after the round with step g, and before the one with half that step
pub record Swept (N k : ℕ) (xs : List ℕ) (g : ℕ) (seen : ℕ → Bool) (candidates : List Pair) : Type 0 where
  pub held : Held N k xs seen candidates
  pub probed : Probed xs g (length xs) seen

-- ---- an example: the range at which the rule as printed stops one round early and gives (2, 2) for k = 1

abbrev three : List ℕ
three = 3 ∷ 1 ∷ 2 ∷ 1 ∷ 3 ∷ 2 ∷ 1 ∷ 3 ∷ []

example : probing 1 three ∷ probing 2 three ∷ probing 9 three ∷ [] ≡ (pair 1 3 ∷ []) ∷ (pair 1 3 ∷ pair 3 3 ∷ []) ∷ full_list 4 9 three ∷ []
example = refl

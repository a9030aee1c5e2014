-- M-105 (document 02) as one record, a field for each of its sentences. `queries/proofs/Demand` draws it from what the operation promises.
use Rattle.std.specs.Prelude.{ℕ, ◌*◌, ◌≤◌, ◌<◌, ◌≡◌}
use Rattle.model.specs.Outcome.{Outcome, answered, refused}
use Rattle.model.specs.Rate.{IsRounded}

-- of a count and the size of a range: what the question comes to
pub record RateDemand (count size : ℕ) (result : Outcome ℕ) : Type 0 where
  -- "to the nearest whole number, and an exact half goes to the even one": there is such a number ..
  pub rounded : ℕ
  pub rounds : 0 < size → count ≤ size → IsRounded (count * 1000) size rounded
  -- .. and no second one
  pub only : 0 < size → count ≤ size → (r : ℕ) → IsRounded (count * 1000) size r → r ≡ rounded
  -- "The rate follows"
  pub answer : 0 < size → count ≤ size → result ≡ answered rounded
  -- document 01's 11, which stays: "rate with size 0 ..
  pub no_size : size ≡ 0 → result ≡ refused 11
  -- .. or count above size"
  pub above : size < count → result ≡ refused 11

-- A block in which no term has a document comes to what no document at all comes to.
use Prim.Native.Nat.{ℕ, zero, suc, ◌+◌, ◌*◌, ◌≤◌, ◌<◌}
use native.Mathlib.Omega.{arith}
use mathlib.Core.Path.{◌≡◌, refl, sym, ap, ◌∙◌, fun_ext}
use mathlib.Core.Logic.{◌⊎◌, inl, inr}
use mathlib.Core.List.{List, [], ◌∷◌}
use mathlib.Core.Option.{Option}
use lib.ListN.{length, get_or}
use Rattle.bits.proofs.Tests.{le_or_lt}
use Rattle.model.specs.Grammar.{Expression}
use Rattle.model.specs.Reading.{reading}
use Rattle.matching.specs.Sets.{set_at}
use Rattle.boolean.specs.Words.{WordsBelow}
use Rattle.boolean.specs.Blocks.{Blank, set_by}
use Rattle.boolean.proofs.Renaming.{by_agreement}

pub blank_next : (masks : List ℕ) (i block : ℕ) → Blank masks i block → get_or masks (64 * i + block) 0 ≡ 0 → Blank masks (i + 1) block
blank_next masks i block before e j l = go (le_or_lt i j)
  where
    go : (i ≤ j) ⊎ (j < i) → set_at masks block j ≡ 0
    go (inl m) = let same : j ≡ i = omega arith in ap (set_at masks block) same ∙ e
    go (inr m) = before j m

pub blank_set : (masks : List ℕ) (terms block : ℕ) → Blank masks terms block → (question : List ℕ) → length question ≤ 64 → WordsBelow terms question
    → set_by (λ _. 0) (reading question) ≡ set_by (set_at masks block) (reading question)
blank_set masks terms block none question few words = by_agreement (λ _. 0) (set_at masks block) terms (λ t l. sym (none t l)) question few words

-- a mask without a document, of any term
pub no_masks : (o : Option Expression) → set_by (set_at (0 ∷ []) 0) o ≡ set_by (λ _. 0) o
no_masks o = ap (λ (f : ℕ → ℕ). set_by f o) (fun_ext (λ t. go (64 * t + 0)))
  where
    go : (n : ℕ) → ◌≡◌ {A = ℕ} (get_or (0 ∷ []) n 0) 0
    go zero = refl
    go (suc n) = refl

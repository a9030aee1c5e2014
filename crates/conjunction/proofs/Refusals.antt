-- What the result of model comes to for an opened archive: refusals 10 to 12, and the answer.
use Prim.Native.Nat.{ℕ, ◌*◌, ◌≤◌, ◌<◌}
use mathlib.Core.Path.{◌≡◌, sym, ap, ◌∙◌}
use mathlib.Core.List.{List}
use lib.ListN.{length, take}
use lib.Dec.{ltb}
use borrow.Author.Tests.{lt-ltb, le-ltb}
use Rattle.model.specs.Lists.{overwrite}
use Rattle.model.specs.Outcome.{Outcome, answered, refused, refuse}
use Rattle.model.specs.Opening.{contents}
use Rattle.model.specs.Distinct.{distinct}
use Rattle.model.specs.Queries.{Pair, PairsResult, pairs_into, flat, conjunction, conjunction_result}
use Rattle.archive.specs.declared.Layout.{Layout}
use Rattle.archive.specs.Layout.{Opened}
use Rattle.archive.proofs.Opened.{documents-are, lengths_size}
use Rattle.paths.specs.Chosen.{asking}
use Rattle.paths.proofs.Asking.{asking_refused, asking_known}

module _ (bytes : List ℕ) (l : Layout) (o : Opened bytes l) (numbers : List ℕ) (size : ℕ) (answers : List ℕ) where
  abbrev ts : List ℕ
  ts = take size numbers

  abbrev found : List Pair
  found = conjunction (contents bytes) (distinct ts)

  -- refusal 12, in a library of N documents
  abbrev roomed : ℕ → List ℕ → Outcome (List Pair)
  roomed N terms = refuse 12 (ltb (length answers) (2 * N)) (answered (conjunction (contents bytes) (distinct terms)))

  abbrev pub Comes : Outcome (List Pair) → Type 0
  Comes x = pairs_into answers x ≡ conjunction_result bytes numbers size answers

  -- the result of model, with W and N of the layout
  comes_asking : Comes (asking l.terms numbers size (roomed l.documents ts))
  comes_asking =
      rw (o.accepted, lengths_size bytes l o)
      (ap (λ (N : ℕ). pairs_into answers (asking l.terms numbers size (roomed N ts))) (sym (documents-are bytes l o)))

  -- refusals 10 and 11
  pub conjunction_refused : (number : ℕ) → refused number ≡ asking l.terms numbers size (answered ts) → Comes (refused number)
  conjunction_refused number e =
      ap (pairs_into answers) (asking_refused l.terms numbers size ts (roomed l.documents ts) number e) ∙ comes_asking

  module _ (known : List ℕ) (e : answered known ≡ asking l.terms numbers size (answered ts)) where
    comes_known : (x : Outcome (List Pair)) → x ≡ roomed l.documents ts → Comes x
    comes_known x d =
        ap (pairs_into answers) (d
        ∙ asking_known l.terms numbers size ts (roomed l.documents ts) known e) ∙ comes_asking

    pub conjunction_short : length answers < 2 * l.documents → Comes (refused 12)
    conjunction_short m = comes_known (refused 12) (rw (lt-ltb (length answers) (2 * l.documents) m))

    pub conjunction_answered : 2 * l.documents ≤ length answers → (r : ℕ) (after : List ℕ) → r ≡ length found → after ≡ overwrite (flat found) answers
        → ◌≡◌ {A = PairsResult} (record { outcome = answered r; answers = after }) (conjunction_result bytes numbers size answers)
    conjunction_answered m r after p q =
        (λ i. record { outcome = answered (p i); answers = q i })
        ∙ comes_known (answered found) (rw (le-ltb (length answers) (2 * l.documents) m))

-- What the result of model comes to for an opened archive: refusals 10 to 13, and the answer.
use Prim.Native.Nat.{ℕ, ◌*◌, ◌≤◌, ◌<◌, min}
use mathlib.Core.Path.{◌≡◌, sym, ap, ◌∙◌}
use mathlib.Core.List.{List}
use lib.ListN.{length, take}
use lib.Dec.{ltb}
use borrow.Author.Tests.{lt-ltb, le-ltb}
use Rattle.model.specs.Outcome.{Outcome, answered, refused, refuse}
use Rattle.model.specs.Opening.{contents}
use Rattle.model.specs.RarestFirst.{rarest_first}
use Rattle.model.specs.TopK.{Ended, Found, found_into}
use Rattle.model.specs.Weighted.{weighted_found, weighted_result}
use Rattle.archive.specs.declared.Layout.{Layout}
use Rattle.archive.specs.Layout.{Opened}
use Rattle.archive.proofs.Opened.{documents-are, lengths_size}
use Rattle.paths.specs.Chosen.{asking}
use Rattle.paths.proofs.Asking.{asking_refused, asking_known}

module _ (bytes : List ℕ) (l : Layout) (o : Opened bytes l) (numbers : List ℕ) (size k allowance : ℕ) (answers work : List ℕ) where
  abbrev ts : List ℕ
  ts = take size numbers

  abbrev found_by : List ℕ → Outcome (Found Ended)
  found_by terms = answered (weighted_found (contents bytes) (rarest_first (contents bytes) terms) k allowance)

  -- refusals 12 and 13, in a library of N documents
  abbrev roomed : ℕ → List ℕ → Outcome (Found Ended)
  roomed N terms = refuse 12 (ltb (length answers) (2 * min k N)) (refuse 13 (ltb (length work) (4 * N)) (found_by terms))

  abbrev pub Comes : Outcome (Found Ended) → Type 0
  Comes x = found_into answers work x ≡ weighted_result bytes numbers size k allowance answers work

  -- the result of model, with W and N of the layout
  comes_asking : Comes (asking l.terms numbers size (roomed l.documents ts))
  comes_asking =
      rw (o.accepted, lengths_size bytes l o)
      (ap (λ (N : ℕ). found_into answers work (asking l.terms numbers size (roomed N ts))) (sym (documents-are bytes l o)))

  -- refusals 10 and 11
  pub weighted_refused : (number : ℕ) → refused number ≡ asking l.terms numbers size (answered ts) → Comes (refused number)
  weighted_refused number e =
      ap (found_into answers work) (asking_refused l.terms numbers size ts (roomed l.documents ts) number e) ∙ comes_asking

  module _ (known : List ℕ) (e : answered known ≡ asking l.terms numbers size (answered ts)) where
    comes_known : (x : Outcome (Found Ended)) → x ≡ roomed l.documents ts → Comes x
    comes_known x d =
        ap (found_into answers work) (d
        ∙ asking_known l.terms numbers size ts (roomed l.documents ts) known e) ∙ comes_asking

    pub answers-short : length answers < 2 * min k l.documents → Comes (refused 12)
    answers-short m = comes_known (refused 12) (rw (lt-ltb (length answers) (2 * min k l.documents) m))

    pub work_short : 2 * min k l.documents ≤ length answers → length work < 4 * l.documents → Comes (refused 13)
    work_short m n =
        comes_known (refused 13)
        (rw (le-ltb (length answers) (2 * min k l.documents) m, lt-ltb (length work) (4 * l.documents) n))

    pub accepted : 2 * min k l.documents ≤ length answers → 4 * l.documents ≤ length work → Comes (found_by ts)
    accepted m n =
        comes_known (found_by ts)
        (rw (le-ltb (length answers) (2 * min k l.documents) m, le-ltb (length work) (4 * l.documents) n))

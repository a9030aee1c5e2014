-- Zeros written over a part of a slice, as stores one after another from a place on.
use Prim.Native.Nat.{ℕ, ◌+◌, ◌≤◌}
use native.Mathlib.Omega.{arith}
use mathlib.Core.Path.{◌≡◌, sym, ap, ◌∙◌}
use mathlib.Core.List.{List, ◌++◌}
use lib.ListN.{length, take, drop, length-drop, replicate, length-replicate}
use lib.Seq.{sets, length-take-le}
use borrow.Rule.Slice.PartMut.{put_mid}
use Rattle.std.proofs.Common.{append_assoc}
use Rattle.std.proofs.lemmas.List.{drop-drop}
use Rattle.std.proofs.lemmas.List.Edits.{sets-eq}

pub zeros_put : (old new : List ℕ) (place blocks k : ℕ) → place + blocks ≤ length old → k ≡ blocks → new ≡ replicate (length (take k (drop place old))) 0
    → put_mid place k old new ≡ sets old place (replicate blocks 0)
zeros_put old new place blocks k l e z =
    (λ i. take place old ++ (zeros i ++ rest i)) ∙ sym (append_assoc (take place old) (replicate blocks 0) (drop (place + length (replicate {A = ℕ} blocks 0)) old))
    ∙ sym (sets-eq (replicate blocks 0) old place (rw (length-replicate {A = ℕ} blocks 0) l))
  where
    zeros : new ≡ replicate blocks 0
    zeros = z ∙ ap (λ n. replicate n 0) (length-take-le k (drop place old) (rw (length-drop place old) (omega arith)) ∙ e)

    rest : drop k (drop place old) ≡ drop (place + length (replicate {A = ℕ} blocks 0)) old
    rest = drop-drop k place old ∙ ap (λ n. drop (place + n) old) (e ∙ sym (length-replicate {A = ℕ} blocks 0))

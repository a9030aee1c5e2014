-- The libraries that may be written: refusals 14 to 16 and what they leave.
use Prim.Native.Nat.{ℕ, ◌≤◌}
use native.Mathlib.Omega.{arith}
use mathlib.Core.Path.{◌≡◌, refl}
use mathlib.Core.List.{List, [], ◌∷◌}
use mathlib.Core.Bool.{Bool, true, false, not, ◌&&◌}
use lib.ListN.{length}
use lib.Dec.{leb, eqb}
use borrow.Author.Tests.{leb-true, leb-false, le-leb, lt-leb, eqb-true, eq-eqb, not-false}
use Rattle.bits.specs.Bits.{sum}
use Rattle.bits.proofs.Tests.{and_both, or_neither}
use Rattle.model.specs.Lists.{any, Within}
use Rattle.model.specs.Outcome.{Outcome, answered, refuse}
use Rattle.model.specs.Format.{Library, Sizes, sizes_of, within_limits, encode, archive_of}

-- n, N and W within their limits
pub record Limits (s : Sizes) : Type 0 where
  pub entries : s.entries ≤ 65535
  pub some_document : 1 ≤ s.documents
  pub documents : s.documents ≤ 4096
  pub some_term : 1 ≤ s.terms
  pub terms : s.terms ≤ 4096

pub limits_of : (s : Sizes) → within_limits s ≡ true → Limits s
limits_of s e =
    let a = and_both (leb s.entries 65535 && (leb 1 s.documents && leb s.documents 4096)) (leb 1 s.terms && leb s.terms 4096) e in
    let b = and_both (leb s.entries 65535) (leb 1 s.documents && leb s.documents 4096) a.0 in
    let d = and_both (leb 1 s.documents) (leb s.documents 4096) b.1 in
    let t = and_both (leb 1 s.terms) (leb s.terms 4096) a.1 in
    record {
      entries = leb-true s.entries 65535 b.0;
      some_document = leb-true 1 s.documents d.0;
      documents = leb-true s.documents 4096 d.1;
      some_term = leb-true 1 s.terms t.0;
      terms = leb-true s.terms 4096 t.1;
    }

pub of-limits : (s : Sizes) → Limits s → within_limits s ≡ true
of-limits s l =
    rw (
      le-leb s.entries 65535 l.entries,
      le-leb 1 s.documents l.some_document,
      le-leb s.documents 4096 l.documents,
      le-leb 1 s.terms l.some_term,
      le-leb s.terms 4096 l.terms,
    )

-- no entry is N or more
pub within_any : (n : ℕ) (xs : List ℕ) → any (leb n) xs ≡ false → Within n xs
within_any n [] e = tt
within_any n (x ∷ xs) e =
    let t = or_neither (leb n x) (any (leb n) xs) e in
    (leb-false n x t.0, within_any n xs t.1)

pub any_within : (n : ℕ) (xs : List ℕ) → Within n xs → any (leb n) xs ≡ false
any_within n [] w = refl
any_within n (x ∷ xs) w = rw (lt-leb n x w.0, any_within n xs w.1)

-- a library that may be written
pub record Valid (lib : Library) : Type 0 where
  pub limits : Limits (sizes_of lib)
  pub within : Within lib.documents lib.entries
  pub total : sum lib.lengths ≡ length lib.entries

pub archive_valid : (lib : Library) → Valid lib → archive_of lib ≡ answered (encode lib)
archive_valid lib v =
    rw (of-limits (sizes_of lib) v.limits, any_within lib.documents lib.entries v.within, eq-eqb (sum lib.lengths) (length lib.entries) v.total)

-- what an answer says: no refusal applied
module _ {A : Type 0} where
  pub refuse_answered : (number : ℕ) (c : Bool) (rest : Outcome A) (x : A) → refuse number c rest ≡ answered x → (c ≡ false) × (rest ≡ answered x)
  refuse_answered number true rest x e = absurd (let z : ◌≡◌ {A = ℕ} 0 1 = cc in omega arith)
  refuse_answered number false rest x e = (refl, e)

pub valid_archive : (lib : Library) (bytes : List ℕ) → archive_of lib ≡ answered bytes → Valid lib × (encode lib ≡ bytes)
valid_archive lib bytes e =
    let limits = not (within_limits (sizes_of lib)) in
    let entry = any (leb lib.documents) lib.entries in
    let total = not (eqb (sum lib.lengths) (length lib.entries)) in
    let a = refuse_answered 14 limits (refuse 15 entry (refuse 16 total (answered (encode lib)))) bytes e in
    let b = refuse_answered 15 entry (refuse 16 total (answered (encode lib))) bytes a.1 in
    let c = refuse_answered 16 total (answered (encode lib)) bytes b.1 in
    let same = c.1 in (
      record {
        limits = limits_of (sizes_of lib) (not-false (within_limits (sizes_of lib)) a.0);
        within = within_any lib.documents lib.entries b.0;
        total = eqb-true (sum lib.lengths) (length lib.entries) (not-false (eqb (sum lib.lengths) (length lib.entries)) c.0);
      },
      cc,
    )

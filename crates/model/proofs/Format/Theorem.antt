-- Demand 2 at the level of bytes: a library and its archive determine each other.
use Prim.Native.Nat.{ℕ, ◌<◌}
use mathlib.Core.Path.{◌≡◌, sym, ◌∙◌, subst}
use mathlib.Core.List.{List}
use lib.ListN.{get_or}
use Rattle.model.specs.Outcome.{answered}
use Rattle.model.specs.Format.{Library, Sizes, sizes_of, archive_of}
use Rattle.model.specs.Opening.{contents, opening}
use Rattle.model.proofs.Format.Valid.{valid_archive}
use Rattle.model.proofs.Format.ReadBack.{opening-encode, contents-encode}
use Rattle.model.proofs.Format.WriteBack.{accepted, sizes_same, archive_contents}

-- a library that is written is accepted with its n, N and W, and what is read is the library
pub read-written : (lib : Library) (bytes : List ℕ) → archive_of lib ≡ answered bytes
    → (opening bytes ≡ answered (sizes_of lib)) × (contents bytes ≡ lib)
read-written lib bytes e =
    let (v, same) = valid_archive lib bytes e in (
      subst (λ (b : List ℕ). opening b ≡ answered (sizes_of lib)) same (opening-encode lib v),
      subst (λ (b : List ℕ). contents b ≡ lib) same (contents-encode lib v),
    )

-- bytes that are accepted hold a library of that n, N and W, and its archive has the same bytes
pub write_read : (bytes : List ℕ) → ((i : ℕ) → get_or bytes i 0 < 256) → (s : Sizes) → opening bytes ≡ answered s
    → (sizes_of (contents bytes) ≡ s) × (archive_of (contents bytes) ≡ answered bytes)
write_read bytes small s e =
    let (acc, same) = accepted bytes s e in (sizes_same bytes acc ∙ same, archive_contents bytes acc small)

-- two libraries that are written as the same bytes are the same
pub library_unique : (a b : Library) (bytes : List ℕ) → archive_of a ≡ answered bytes → archive_of b ≡ answered bytes → a ≡ b
library_unique a b bytes ea eb = sym (read-written a bytes ea).1 ∙ (read-written b bytes eb).1

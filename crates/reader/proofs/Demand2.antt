-- Demand 2, over what write, read and open promise: a library that is written is the one archive of its bytes, reading it yields the library, and an
-- accepted archive that is read and written again has the same bytes. Questions of what was written answer over the library that was given.
use Prim.Native.Nat.{ℕ, ◌≤◌, ◌<◌}
use mathlib.Core.Path.{◌≡◌, refl, sym, ap, ap₂, ◌∙◌}
use mathlib.Core.List.{List}
use mathlib.Core.Bool.{Bool, true, false, ◌||◌}
use native.Mathlib.Omega.{arith}
use lib.ListN.{length, get_or, take, drop}
use lib.Seq.{take-append_seam, drop-append_seam, take_at}
use lib.Dec.{ltb}
use borrow.Author.Tests.{le-ltb}
use Rattle.model.specs.Lists.{overwrite}
use Rattle.model.specs.Outcome.{Outcome, answered, refused, refuse, and_then}
use Rattle.model.specs.Format.{Library, Sizes, sizes_of, encode, archive_of, WriteResult, written_into, write_result}
use Rattle.model.specs.Opening.{contents, opening, ReadResult, read_into, read_result}
use Rattle.model.proofs.Format.Valid.{valid_archive}
use Rattle.model.proofs.Format.Theorem.{read-written, write_read, library_unique}
use Rattle.model.specs.Demand2.{AnswersOver}
use Rattle.model.proofs.Questions.{archive_answers}
use Rattle.std.specs.Prelude.{Result, Ok, Err}
use Rattle.std.specs.Result.{IsOkAnd}
use Rattle.refusals.specs.declared.Refusal.{Refusal}
use Rattle.refusals.specs.Refusals.{outcome_by}
use Rattle.archive.specs.declared.handle.Archive.{Archive}
use Rattle.archive.specs.Layout.{sizes_in, layout_of}

-- ---- what an answer of the writer says

-- the target holds the archive of the library and then what stood there before
pub record Wrote (lib : Library) (target : List ℕ) (n : ℕ) (after : List ℕ) : Type 0 where
  pub archive : archive_of lib ≡ answered (take n after)
  pub bytes : take n after ≡ encode lib
  pub rest : drop n after ≡ drop n target

pub wrote : (lib : Library) (target : List ℕ) (n : ℕ) (after : List ℕ)
    → ◌≡◌ {A = WriteResult} (record { outcome = answered n; target = after }) (write_result lib target) → Wrote lib target n after
wrote lib target n after p = go (archive_of lib) refl p
  where
    last : (bytes : List ℕ) → archive_of lib ≡ answered bytes → (c : Bool)
        → ◌≡◌ {A = WriteResult} (record { outcome = answered n; target = after }) (written_into target (refuse 17 c (answered bytes))) → Wrote lib target n after
    last bytes e true q = let z : ◌≡◌ {A = ℕ} 0 1 = cc (ap (λ (r : WriteResult). r.outcome) q) in absurd (omega arith)
    last bytes e false q =
        let size : n ≡ length bytes = cc (ap (λ (r : WriteResult). r.outcome) q) in
        let after_is : after ≡ overwrite bytes target = ap (λ (r : WriteResult). r.target) q in
        let front : take n after ≡ bytes = rw (size, after_is) (take-append_seam bytes (drop (length bytes) target)) in
        record {
          archive = e ∙ ap answered (sym front);
          bytes = front ∙ sym (valid_archive lib bytes e).1;
          rest = rw (size, after_is) (drop-append_seam bytes (drop (length bytes) target));
        }

    go : (o : Outcome (List ℕ)) → archive_of lib ≡ o
        → ◌≡◌ {A = WriteResult} (record { outcome = answered n; target = after })
        (written_into target (and_then o (λ bytes. refuse 17 (ltb (length target) (length bytes)) (answered bytes))))
        → Wrote lib target n after
    go (answered bytes) e q = last bytes e (ltb (length target) (length bytes)) q
    go (refused number) e q = let z : ◌≡◌ {A = ℕ} 0 1 = cc (ap (λ (r : WriteResult). r.outcome) q) in absurd (omega arith)

-- ---- what an answer of the reader says

record WasRead (bytes entries lengths : List ℕ) (s : Sizes) (entries' lengths' : List ℕ) : Type 0 where
  accepted : opening bytes ≡ answered s
  entries-are : entries' ≡ overwrite (contents bytes).entries entries
  lengths_are : lengths' ≡ overwrite (contents bytes).lengths lengths

was_read : (bytes entries lengths : List ℕ) (s : Sizes) (entries' lengths' : List ℕ)
    → ◌≡◌ {A = ReadResult} (record { outcome = answered s; entries = entries'; lengths = lengths' }) (read_result bytes entries lengths)
    → WasRead bytes entries lengths s entries' lengths'
was_read bytes entries lengths s entries' lengths' p = go (opening bytes) refl p
  where
    last : (z : Sizes) → opening bytes ≡ answered z → (c : Bool)
        → ◌≡◌ {A = ReadResult} (record { outcome = answered s; entries = entries'; lengths = lengths' }) (read_into bytes entries lengths (refuse 12 c (answered z)))
        → WasRead bytes entries lengths s entries' lengths'
    last z e true q = let f : ◌≡◌ {A = ℕ} 0 1 = cc (ap (λ (r : ReadResult). r.outcome) q) in absurd (omega arith)
    last z e false q =
        let same : s ≡ z = cc (ap (λ (r : ReadResult). r.outcome) q) in
        record {
          accepted = e ∙ ap answered (sym same);
          entries-are = ap (λ (r : ReadResult). r.entries) q;
          lengths_are = ap (λ (r : ReadResult). r.lengths) q;
        }

    go : (o : Outcome Sizes) → opening bytes ≡ o
        → ◌≡◌ {A = ReadResult} (record { outcome = answered s; entries = entries'; lengths = lengths' })
        (read_into bytes entries lengths
        (and_then o (λ z. refuse 12 (ltb (length entries) z.entries || ltb (length lengths) z.terms) (answered z))))
        → WasRead bytes entries lengths s entries' lengths'
    go (answered z) e q = last z e (ltb (length entries) z.entries || ltb (length lengths) z.terms) q
    go (refused number) e q = let f : ◌≡◌ {A = ℕ} 0 1 = cc (ap (λ (r : ReadResult). r.outcome) q) in absurd (omega arith)

-- ---- written, then opened and read

module _ (lib : Library) (target after : List ℕ) (n : ℕ)
    (answer : ◌≡◌ {A = WriteResult} (record { outcome = answered n; target = after }) (write_result lib target)) where
  -- the check on opening accepts the bytes, with the library's n, N and W
  pub written-opened : (r : Result Archive Refusal) → outcome_by (λ a. sizes_in a.layout) r ≡ opening (take n after)
      → IsOkAnd r (λ a. a.layout ≡ layout_of (sizes_of lib))
  written-opened r same = go r (same ∙ (read-written lib (take n after) (wrote lib target n after answer).archive).0)
    where
      go : (r : Result Archive Refusal) → outcome_by (λ a. sizes_in a.layout) r ≡ answered (sizes_of lib) → IsOkAnd r (λ a. a.layout ≡ layout_of (sizes_of lib))
      go (Ok a) e = let sizes : sizes_in a.layout ≡ sizes_of lib = cc in a.opened.shape ∙ ap layout_of sizes
      go (Err refusal) e = let z : ◌≡◌ {A = ℕ} 0 1 = cc in absurd (omega arith)

  -- the reader answers n, N and W, and fills in the library's two lists
  pub written_read : (entries lengths : List ℕ) → length lib.entries ≤ length entries → length lib.lengths ≤ length lengths
      → read_result (take n after) entries lengths
      ≡ record { outcome = answered (sizes_of lib); entries = overwrite lib.entries entries; lengths = overwrite lib.lengths lengths }
  written_read entries lengths le ll =
      let b = take n after in
      let (opens, same) = read-written lib b (wrote lib target n after answer).archive in
      ap (λ (o : Outcome Sizes). read_into b entries lengths (and_then o (λ z. refuse 12 (ltb (length entries) z.entries || ltb (length lengths) z.terms) (answered z)))) opens
      ∙ ap₂ (λ (c d : Bool). read_into b entries lengths (refuse 12 (c || d) (answered (sizes_of lib))))
      (le-ltb (length entries) (length lib.entries) le) (le-ltb (length lengths) (length lib.lengths) ll)
      ∙ (λ i. record { outcome = answered (sizes_of lib); entries = overwrite (same i).entries entries; lengths = overwrite (same i).lengths lengths })

  -- every question answers over the library
  pub written-answers : AnswersOver (take n after) lib
  written-answers = archive_answers lib (take n after) (wrote lib target n after answer).archive

-- two libraries that are written as the same bytes are the same
pub written_unique : (a b : Library) (ta tb aa ab : List ℕ) (n m : ℕ)
    → ◌≡◌ {A = WriteResult} (record { outcome = answered n; target = aa }) (write_result a ta)
    → ◌≡◌ {A = WriteResult} (record { outcome = answered m; target = ab }) (write_result b tb) → take n aa ≡ take m ab → a ≡ b
written_unique a b ta tb aa ab n m p q same =
    library_unique a b (take n aa) (wrote a ta n aa p).archive ((wrote b tb m ab q).archive ∙ ap answered (sym same))

-- ---- read, then written

write_of : (lib : Library) (bytes target : List ℕ) → archive_of lib ≡ answered bytes → length bytes ≤ length target
    → write_result lib target ≡ record { outcome = answered (length bytes); target = overwrite bytes target }
write_of lib bytes target e l =
    ap (λ (o : Outcome (List ℕ)). written_into target (and_then o (λ b. refuse 17 (ltb (length target) (length b)) (answered b)))) e
    ∙ ap (λ (c : Bool). written_into target (refuse 17 c (answered bytes))) (le-ltb (length target) (length bytes) l)

-- an archive that the reader accepts, written again from what was read, has the same bytes
pub read-written_again : (bytes : List ℕ) → ((i : ℕ) → get_or bytes i 0 < 256) → (entries lengths : List ℕ) (s : Sizes) (entries' lengths' : List ℕ)
    → ◌≡◌ {A = ReadResult} (record { outcome = answered s; entries = entries'; lengths = lengths' }) (read_result bytes entries lengths)
    → (target : List ℕ) → length bytes ≤ length target
    → write_result (record { documents = s.documents; lengths = take s.terms lengths'; entries = take s.entries entries' }) target
    ≡ record { outcome = answered (length bytes); target = overwrite bytes target }
read-written_again bytes small entries lengths s entries' lengths' p target l =
    let r = was_read bytes entries lengths s entries' lengths' p in
    let (sizes, archive) = write_read bytes small s r.accepted in
    let e : take s.entries entries' ≡ (contents bytes).entries
    = ap (take s.entries) r.entries-are
    ∙ take_at (contents bytes).entries (drop (length (contents bytes).entries) entries) s.entries (ap (λ (z : Sizes). z.entries) sizes) in
    let k : take s.terms lengths' ≡ (contents bytes).lengths
    = ap (take s.terms) r.lengths_are
    ∙ take_at (contents bytes).lengths (drop (length (contents bytes).lengths) lengths) s.terms (ap (λ (z : Sizes). z.terms) sizes) in
    let d : s.documents ≡ (contents bytes).documents = ap (λ (z : Sizes). z.documents) (sym sizes) in
    ap (λ (lib : Library). write_result lib target) (λ i. record { documents = d i; lengths = k i; entries = e i })
    ∙ write_of (contents bytes) bytes target archive l

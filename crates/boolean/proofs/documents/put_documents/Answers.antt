-- `put_documents` meets its contract: each turn of the loop is a law of Members.
use Prim.Native.Nat.{ℕ, ◌+◌, ◌%◌, ◌^◌}
use native.Mathlib.Nat.{mod-lt}
use native.Mathlib.Omega.{arith}
use mathlib.Core.Path.{◌≡◌, ap, ◌∙◌}
use mathlib.Core.List.{List, [], ◌∷◌}
use lib.ListN.{length}
use lib.Seq.{sets}
use lib.Pow.{pow_pos}
use Rattle.boolean.proofs.Members.{holds-all, put_first, put-length, put_room, put_inside, put_all, put_one, put_last, members-among}
use Rattle.boolean.proofs.documents.put_documents.Goals as goal

pub loop-left-init : goal.loop-left-init
loop-left-init c =
    let g = c.args in
    let m = g.set % 2 ^ g.size in
    rw c.among-left.ensures (put_first m g.first g.size g.at g.answers.now (mod-lt g.set (pow_pos g.size)))

pub overflow_add-first : goal.overflow_add-first
overflow_add-first c =
    let s = c in
    let g = s.args in
    let k = c.loop-left in
    let m = g.set % 2 ^ g.size in
    record { fits = omega (arith, k.invariant.within, s.requires.1) }

pub put_eight-requires : goal.put_eight-requires
put_eight-requires c =
    let s = c in
    let g = s.args in
    let k = c.loop-left in
    let m = g.set % 2 ^ g.size in
    let many = put_inside m g.first g.size g.at g.answers.now k.invariant 7 (holds-all k.left 7 (omega arith) c.if-left-eq255.true) in
    (omega (arith, many, put_room m g.first g.size g.at g.answers.now k.invariant, put-length m g.first g.size g.at g.answers.now k.invariant, s.requires.2), omega (arith, many, s.requires.1))

pub overflow_add-place : goal.overflow_add-place
overflow_add-place c =
    let s = c in
    let g = s.args in
    let k = c.loop-left in
    let m = g.set % 2 ^ g.size in
    record { fits = omega (arith, put_room m g.first g.size g.at g.answers.now k.invariant, k.invariant.within, s.requires.2, s.requires.0, s.well_formed) }

pub overflow_add-i : goal.overflow_add-i
overflow_add-i c =
    let s = c in
    let g = s.args in
    let k = c.loop-left in
    let m = g.set % 2 ^ g.size in
    record { fits = omega (arith, k.invariant.within, s.requires.0) }

pub loop-left-smaller-then-left-eq255 : goal.loop-left-smaller-then-left-eq255
loop-left-smaller-then-left-eq255 c =
    let s = c in
    let g = s.args in
    let k = c.loop-left in
    let m = g.set % 2 ^ g.size in
    let many = put_inside m g.first g.size g.at g.answers.now k.invariant 7 (holds-all k.left 7 (omega arith) c.if-left-eq255.true) in
    omega (arith, many)

pub loop-left-preserved-then-left-eq255 : goal.loop-left-preserved-then-left-eq255
loop-left-preserved-then-left-eq255 c =
    let s = c in
    let g = s.args in
    let k = c.loop-left in
    let m = g.set % 2 ^ g.size in
    let p = c.put_eight in
    put_all m g.first g.size g.at g.answers.now k.invariant c.if-left-eq255.true p.new.answers p.ensures

pub overflow_add-first-else-left-eq255 : goal.overflow_add-first-else-left-eq255
overflow_add-first-else-left-eq255 c =
    let s = c in
    let g = s.args in
    let k = c.loop-left in
    let m = g.set % 2 ^ g.size in
    record { fits = omega (arith, k.invariant.within, s.requires.1) }

pub overflow_add-first-else-left-eq255-2 : goal.overflow_add-first-else-left-eq255-2
overflow_add-first-else-left-eq255-2 c =
    let s = c in
    let g = s.args in
    let k = c.loop-left in
    let m = g.set % 2 ^ g.size in
    record { fits = omega (arith, k.invariant.within, s.requires.1, c.before_first-zeros.ensures.few) }

pub put_one-requires : goal.put_one-requires
put_one-requires c =
    let s = c in
    let g = s.args in
    let k = c.loop-left in
    let m = g.set % 2 ^ g.size in
    let z = c.before_first-zeros in
    let inside = put_inside m g.first g.size g.at g.answers.now k.invariant z.result z.ensures.there in
    (omega (arith, inside, put_room m g.first g.size g.at g.answers.now k.invariant, put-length m g.first g.size g.at g.answers.now k.invariant, s.requires.2), omega (arith, inside, s.requires.1))

pub overflow_add-place-else-left-eq255 : goal.overflow_add-place-else-left-eq255
overflow_add-place-else-left-eq255 c =
    let s = c in
    let g = s.args in
    let k = c.loop-left in
    let m = g.set % 2 ^ g.size in
    record { fits = omega (arith, put_room m g.first g.size g.at g.answers.now k.invariant, k.invariant.within, s.requires.2, s.requires.0, s.well_formed) }

pub overflow_shr-left-else-left-eq255 : goal.overflow_shr-left-else-left-eq255
overflow_shr-left-else-left-eq255 c = c.before_first-zeros.ensures.few

pub overflow_add-i-else-left-eq255 : goal.overflow_add-i-else-left-eq255
overflow_add-i-else-left-eq255 c = record { fits = omega (arith, c.before_first-zeros.ensures.few) }

pub overflow_add-i-else-left-eq255-2 : goal.overflow_add-i-else-left-eq255-2
overflow_add-i-else-left-eq255-2 c =
    let s = c in
    let g = s.args in
    let k = c.loop-left in
    let m = g.set % 2 ^ g.size in
    record { fits = omega (arith, k.invariant.within, s.requires.0, c.before_first-zeros.ensures.few) }

pub loop-left-smaller : goal.loop-left-smaller
loop-left-smaller c =
    let s = c in
    let g = s.args in
    let k = c.loop-left in
    let m = g.set % 2 ^ g.size in
    let z = c.before_first-zeros in
    omega (arith, put_inside m g.first g.size g.at g.answers.now k.invariant z.result z.ensures.there)

pub loop-left-preserved : goal.loop-left-preserved
loop-left-preserved c =
    let s = c in
    let g = s.args in
    let k = c.loop-left in
    let m = g.set % 2 ^ g.size in
    let z = c.before_first-zeros in
    let p = c.put_one in
    let at : g.first + k.i + z.result ≡ g.first + (k.i + z.result) = omega arith in
    put_one m g.first g.size g.at g.answers.now k.invariant z.result z.ensures p.new.answers
    (p.ensures ∙ ap (λ (d : ℕ). sets k.answers k.place (d ∷ [])) at)

pub shape_of-answers : goal.shape_of-answers
shape_of-answers c =
    let g = c.args in
    put-length (g.set % 2 ^ g.size) g.first g.size g.at g.answers.now c.loop-left.invariant

pub returns : goal.returns
returns c =
    let g = c.args in
    let e = put_last (g.set % 2 ^ g.size) g.first g.size g.at g.answers.now c.loop-left.invariant (omega arith) in
    let same = members-among g.set g.first g.size in
    (e.0 ∙ ap (λ (ds : List ℕ). g.at + length ds) same, e.1 ∙ ap (sets g.answers.now g.at) same)

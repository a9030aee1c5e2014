use Rattle.std.proofs.Common.{◌≡◌, sym, ap, ◌∙◌, arith, ℕ, ◌+◌, ◌*◌, length, get_or}
use Rattle.bits.specs.Bits.{bit_at}
use Rattle.keys.proofs.Laws.{bump, kept_more}
use Rattle.reader.proofs.Descending.{place-below, place_next, front_more}
use Rattle.reader.proofs.rows.deepen.Goals as goal

pub overflow_add-next : goal.overflow_add-next
overflow_add-next c =
    let l = c.loop-key in
    let d = c.requires in
    let ks = c.args.keys.now in
    let i = l.key-index in
    let same = l.invariant.kept i (omega arith) in
    rw same
    (record { fits = omega (arith, place_next ks d.bound d.keys_below i (omega arith) c.args.next.now l.next d.counters d.places l.invariant.advanced, place-below ks d.bound d.keys_below i (omega arith), d.few) })

pub bit-requires : goal.bit-requires
bit-requires c =
    let l = c.loop-key in
    let d = c.requires in
    let ks = c.args.keys.now in
    let i = l.key-index in
    let same = l.invariant.kept i (omega arith) in
    rw same
    (omega (arith, place_next ks d.bound d.keys_below i (omega arith) c.args.next.now l.next d.counters d.places l.invariant.advanced, place-below ks d.bound d.keys_below i (omega arith), d.size))

pub loop-key-preserved : goal.loop-key-preserved
loop-key-preserved c =
    let l = c.loop-key in
    let d = c.requires in
    let ks = c.args.keys.now in
    let i = l.key-index in
    let same = l.invariant.kept i (omega arith) in
    let low = d.keys_below i (omega arith) in
    let q = get_or l.keys i 0 in
    let p : get_or l.next q 0 ≡ _ = ap (λ (q : ℕ). get_or l.next q 0) same ∙ place_next ks d.bound d.keys_below i (omega arith) c.args.next.now l.next d.counters d.places l.invariant.advanced in
    let x = 2 * q + c.from.result in
    record {
      front = front_more c.args.row.now ks l.keys i x (omega arith) (omega (arith, c.from.ensures, c.bit.ensures.0 ∙ ap (bit_at c.args.row.now) p)) l.invariant.front;
      kept = kept_more ks l.keys i x l.invariant.kept;
      advanced = bump (λ k. k) ks (λ r. get_or c.args.next.now r 0) l.next (length c.args.next.now) i q (omega arith) (sym same) (omega (arith, d.counters)) l.invariant.advanced;
    }

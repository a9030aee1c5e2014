use mathlib.Core.Path.{◌≡◌, sym, ap, ◌∙◌}
use Prim.Native.Nat.{ℕ, ◌+◌, ◌-◌}
use native.Mathlib.Omega.{arith}
use borrow.Author.Tests.{eq-eqb}
use Rattle.bits.specs.Sequences.{up_from}
use Rattle.model.specs.Opening.{start_at, length_at, table_holds}
use Rattle.archive.proofs.Parts.{table_next}
use Rattle.archive.proofs.check.Headed.table_holds.Goals as goal

pub loop-t-preserved : goal.loop-t-preserved
loop-t-preserved c =
    let bytes = c.args.self.now.bytes.now in
    let l = c.args.self.now.layout in
    let at = c.loop-t in
    let first : start_at bytes at.t ≡ at.start = sym c.number.ensures.0 ∙ c.if-number-start.false in
    let next : start_at bytes at.t + length_at bytes at.t ≡ at.start + c.number-start.result = omega (arith, first, c.number-start.ensures.0) in (
      rw (at.invariant.0, table_next bytes l.levels.entries at.start at.t l.terms c.loop-t-test.true, eq-eqb (start_at bytes at.t) at.start first)
          (ap (λ (x : ℕ). table_holds bytes l.levels.entries x (up_from (at.t + 1) (l.terms - (at.t + 1)))) next),
      omega arith,
    )

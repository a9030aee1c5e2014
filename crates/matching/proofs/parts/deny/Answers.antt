-- `deny` meets its contract: each turn is one 'not' more.
use Prim.Native.Nat.{ℕ}
use native.Mathlib.Numerals.{add-one}
use native.Mathlib.Omega.{arith}
use mathlib.Core.Path.{◌≡◌, refl, sym, ap, ◌∙◌}
use Rattle.matching.specs.Parsing.{complemented, denied_by}
use Rattle.matching.proofs.parts.deny.Goals as goal

pub loop-i-init : goal.loop-i-init
loop-i-init c = (refl, omega arith)

pub loop-i-preserved : goal.loop-i-preserved
loop-i-preserved c =
    let k = c.loop-i in
    let parse = c.args.parse in
    (c.complement-part.ensures ∙ ap complemented k.invariant.0 ∙ ap (λ (n : ℕ). denied_by n parse) (sym (add-one k.i)), omega arith)

pub returns : goal.returns
returns c =
    let k = c.loop-i in
    let g = c.args in
    let end : k.i ≡ g.times = omega (arith, k.invariant.1) in
    k.invariant.0 ∙ ap (λ (n : ℕ). denied_by n g.parse) end

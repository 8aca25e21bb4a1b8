-- `products::choosing::choices_from` meets its contract.
use Prim.Native.Nat.{◌-◌}
use mathlib.Core.Path.{◌≡◌, ap, ◌∙◌}
use native.Mathlib.Omega.{arith}
use Rattle.products.proofs.Choices.{choices_from, times_none, times_step, times_below}
use Rattle.products.proofs.choosing.choices_from.Goals as goal

pub loop-i-init : goal.loop-i-init
loop-i-init c = ((c.requires.1.0, omega arith), times_none c.args.s)

pub overflow_mul-total : goal.overflow_mul-total
overflow_mul-total c =
    let l = c.loop-i in
    omega (arith, times_step c.args.s l.i c.length_of-total.result l.total (omega arith) l.invariant.0.1 c.length_of-total.ensures l.invariant.1, times_below c.args.s c.requires.0 (l.i - 1), c.requires.1.1)

pub loop-i-preserved : goal.loop-i-preserved
loop-i-preserved c =
    let l = c.loop-i in
    (omega arith, times_step c.args.s l.i c.length_of-total.result l.total (omega arith) l.invariant.0.1 c.length_of-total.ensures l.invariant.1)

pub returns : goal.returns
returns c =
    let l = c.loop-i in
    let e : l.i ≡ c.args.j = omega arith in
    l.invariant.1 ∙ ap (choices_from c.args.s) e

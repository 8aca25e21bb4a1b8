-- `products::choosing::count_choices` meets its contract.
use Prim.Native.Nat.{ℕ, ◌*◌, ◌<◌, ◌≤◌, ◌-◌}
use mathlib.Core.Path.{◌≡◌, ap, ◌∙◌, subst}
use native.Mathlib.Nat.{mul-le-mul}
use native.Mathlib.Omega.{arith}
use Rattle.products.proofs.OrderLaws.{factorial-some}
use Rattle.products.proofs.Choices.{choices_from, length-few, times_none, times_step, factor_few, factorial-few, count_fits, count-over}
use Rattle.products.proofs.choosing.count_choices.Goals as goal

pub loop-j-init : goal.loop-j-init
loop-j-init c =
    ((omega arith, omega (arith, c.factorial-orders.ensures, factorial-few c.args.s.size c.requires.few)), times_none c.args.s)

pub overflow_mul-total : goal.overflow_mul-total
overflow_mul-total c =
    let l = c.loop-j in
    let o = c.factorial-orders in
    let long : c.length_of-total.result ≤ 1024 = omega (arith, c.length_of-total.ensures, length-few c.args.s c.requires (l.j - 1) (omega arith)) in
    let few : l.total ≤ 1024 = factor_few o.result l.total 1024 (omega (arith, o.ensures, factorial-some c.args.s.size)) l.invariant.0.1 in
    omega (arith, mul-le-mul long few)

pub overflow_mul-orders : goal.overflow_mul-orders
overflow_mul-orders c =
    let l = c.loop-j in
    let long : c.length_of-total.result ≤ 1024 = omega (arith, c.length_of-total.ensures, length-few c.args.s c.requires (l.j - 1) (omega arith)) in
    omega (arith, mul-le-mul long l.invariant.0.1)

pub returns-then-orders-total-gt1024 : goal.returns-then-orders-total-gt1024
returns-then-orders-total-gt1024 c =
    let l = c.loop-j in
    let o = c.factorial-orders in
    let n = c.length_of-total in
    count-over c.args.s c.requires (l.j - 1) (n.result * l.total)
    (times_step c.args.s l.j n.result l.total (omega arith) l.invariant.0.0 n.ensures l.invariant.1)
    (subst (λ (k : ℕ). 1024 < k * (n.result * l.total)) o.ensures c.if-orders-total-gt1024.true)

pub loop-j-preserved : goal.loop-j-preserved
loop-j-preserved c =
    let l = c.loop-j in
    let n = c.length_of-total in
    ((omega arith, omega arith), times_step c.args.s l.j n.result l.total (omega arith) l.invariant.0.0 n.ensures l.invariant.1)

pub returns : goal.returns
returns c =
    let l = c.loop-j in
    let o = c.factorial-orders in
    let e : l.j ≡ 0 = omega arith in
    count_fits c.args.s c.requires l.total (l.invariant.1 ∙ ap (choices_from c.args.s) e)
    (subst (λ (k : ℕ). k * l.total ≤ 1024) o.ensures l.invariant.0.1)

-- `classes::building::class_start` meets its contract.
use Rattle.std.proofs.Common.{◌+◌, ◌≡◌, sym, arith, rules}
use Rattle.classes.specs.Layout.{sum_to}
use Rattle.classes.proofs.Numbers.{sum-next, sum_more}
use Rattle.classes.proofs.building.class_start.Goals as goal

pub loop-i-init : goal.loop-i-init
unfolding sum_to
loop-i-init c = search rules

pub overflow_add-sum : goal.overflow_add-sum
overflow_add-sum c =
    let l = c.loop-i in
    omega (arith, sum-next c.args.sizes l.i, sum_more c.args.sizes (l.i + 1) c.args.j (omega arith))

pub loop-i-preserved : goal.loop-i-preserved
loop-i-preserved c = rw c.loop-i.invariant (sym (sum-next c.args.sizes c.loop-i.i))

pub returns : goal.returns
returns c = let e : c.loop-i.i ≡ c.args.j = omega arith in rw e at c.loop-i.invariant

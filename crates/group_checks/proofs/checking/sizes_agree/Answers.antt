-- `group_checks::checking::sizes_agree` meets its contract.
use native.Mathlib.Omega.{arith}
use borrow.Author.Rules.{rules}
use Rattle.classes.proofs.Numbers.{sum-none, sum-next, sum_over, sum-all}
use Rattle.group_checks.proofs.checking.sizes_agree.Goals as goal

pub loop-j-init : goal.loop-j-init
loop-j-init c =
    omega (arith, sum-none c.args.sizes)

pub returns-then-left-size : goal.returns-then-left-size
returns-then-left-size c =
    let x = c.args in
    sum_over x.sizes x.n c.loop-j.j c.loop-j.left x.used (search rules) c.loop-j.invariant.1 c.if-left-size.true

pub loop-j-preserved : goal.loop-j-preserved
loop-j-preserved c =
    omega (arith, sum-next c.args.sizes c.loop-j.j)

pub returns : goal.returns
returns c =
    let x = c.args in
    sum-all x.sizes x.n c.loop-j.j c.loop-j.left x.used (search rules) (search rules) c.loop-j.invariant.1

-- `lent_classes::lent::lent_classes` meets its contract.
use Prim.Native.Nat.{◌+◌}
use native.Mathlib.Omega.{arith}
use Rattle.lent_classes.proofs.LentBuild.{building-begins, building-asks, building-on, building-ends}
use borrow.Author.Rules.{rules}
use Rattle.lent_classes.proofs.lent.lent_classes.Goals as goal

pub loop-at-init : goal.loop-at-init
loop-at-init c =
    (search rules, building-begins c.args.numbers.now c.empty-out.result c.empty-out.ensures c.requires.0 c.requires.1.0)

pub add_lent-out-requires : goal.add_lent-out-requires
add_lent-out-requires c =
    let l = c.loop-at in
    building-asks c.args.numbers.now l.out l.at l.invariant.1 c.requires.1.1 (search rules)

pub loop-at-preserved : goal.loop-at-preserved
loop-at-preserved c =
    let l = c.loop-at in
    let size = c.size_at.result in
    (search rules, building-on c.args.numbers.now l.out l.at l.invariant.1 c.requires.1.1 (search rules) c.add_lent-out.result (l.at + 3 + size) (omega (arith, c.size_at.ensures.0)) c.add_lent-out.ensures)

pub returns : goal.returns
returns c =
    let l = c.loop-at in
    building-ends c.args.numbers.now l.out l.at l.invariant.1 (search rules)

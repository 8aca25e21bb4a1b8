-- `products::ordering::begin_with` meets its contract.
use Prim.Native.Nat.{◌<◌}
use Rattle.products.proofs.Chains.{writing_begins, writing-next, writing-ends}
use borrow.Author.Rules.{rules}
use Rattle.products.proofs.ordering.begin_with.Goals as goal

pub loop-i-init : goal.loop-i-init
loop-i-init c = writing_begins c.args.order c.args.place

pub pass-requires : goal.pass-requires
pass-requires c = c.requires.1 c.loop-i.i (search rules)

pub loop-i-preserved : goal.loop-i-preserved
loop-i-preserved c =
    let l = c.loop-i in
    let b : l.i < 5 = search rules in
    writing-next c.args.order c.args.place l.i l.out c.pass.result b l.invariant c.pass.ensures

pub returns : goal.returns
returns c =
    let l = c.loop-i in
    writing-ends c.args.order c.args.place l.i l.out c.requires.0.1 (search rules) (search rules) l.invariant

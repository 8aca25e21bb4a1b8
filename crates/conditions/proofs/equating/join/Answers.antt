-- `conditions::equating::join` meets its contract.
use Rattle.conditions.proofs.EquatingLaws.{join-same, join_up, join-down}
use Rattle.conditions.proofs.equating.join.Goals as goal

pub returns-then-i-j : goal.returns-then-i-j
returns-then-i-j c =
    join-same c.args.g c.requires.0 c.args.i c.args.j c.if-i-j.true

pub returns-then-i-j-2 : goal.returns-then-i-j-2
returns-then-i-j-2 c =
    join_up c.args.g c.requires.0 c.args.i c.args.j c.bridge_classes.result c.if-i-j-2.true c.bridge_classes.ensures

pub returns : goal.returns
returns c =
    join-down c.args.g c.requires.0 c.args.i c.args.j c.bridge_classes-2.result c.if-i-j.false c.bridge_classes-2.ensures

-- `group_projection::listing::push_target` meets its contract.
use mathlib.Core.List.{[], ◌∷◌}
use native.Mathlib.Omega.{arith}
use Rattle.arena.specs.Layout.{decode as nodes}
use Rattle.classes.specs.Group.{class_at}
use Rattle.classes.specs.Layout.{decode}
use Rattle.merging.specs.Extending.{pushed}
use Rattle.group_projection.proofs.ListedLaws.{lists-made}
use Rattle.group_projection.proofs.OneLaws.{push-asks, push-lists, held-lists, new-over}
use Rattle.group_projection.proofs.listing.push_target.Goals as goal

pub push-requires : goal.push-requires
push-requires c =
    (push-asks (nodes c.args.cells.now) c.args.one c.requires.0 c.args.e c.if-one-lt256.true, c.requires.1)

pub returns-then-one-lt256 : goal.returns-then-one-lt256
returns-then-one-lt256 c =
    lists-made c.push.result (pushed (nodes c.args.cells.now) (class_at (decode c.args.one) 0) c.args.e ∷ [])
    (push-lists (nodes c.args.cells.now) c.args.one c.requires.0 c.args.e c.push.result c.push.ensures c.if-one-lt256.true)

pub class_holds-requires : goal.class_holds-requires
class_holds-requires c = (c.requires.0.coded, omega (arith, c.requires.0.single))

pub carried-requires : goal.carried-requires
carried-requires c = c.requires.1

pub set_constant-requires : goal.set_constant-requires
set_constant-requires c = (c.requires.0.coded, omega (arith, c.requires.0.single))

pub returns-then-class_holds : goal.returns-then-class_holds
returns-then-class_holds c =
    lists-made c.set_constant.result (pushed (nodes c.args.cells.now) (class_at (decode c.args.one) 0) c.args.e ∷ [])
    (held-lists (nodes c.args.cells.now) c.args.one c.requires.0 c.args.e c.class_holds.result c.class_holds.ensures c.if-class_holds.true c.carried.result c.set_constant.result c.carried.ensures c.set_constant.ensures)

pub returns : goal.returns
returns c =
    new-over (nodes c.args.cells.now) c.args.one c.requires.0 c.args.e c.class_holds.result c.class_holds.ensures c.if-class_holds.false c.if-one-lt256.false

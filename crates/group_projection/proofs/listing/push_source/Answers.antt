-- `group_projection::listing::push_source` meets its contract.
use Rattle.arena.specs.Layout.{decode as nodes}
use Rattle.classes.specs.Group.{class_at}
use Rattle.classes.specs.Layout.{decode}
use Rattle.group_projection.proofs.SourceLaws.{same-pushed, other-pushed}
use Rattle.group_projection.proofs.listing.push_source.Goals as goal

pub push_targets-requires : goal.push_targets-requires
push_targets-requires c = c.requires

pub returns-then-same : goal.returns-then-same
returns-then-same c = same-pushed (nodes c.args.cells.now) (class_at (decode c.args.one) 0) c.args.source c.args.same c.if-same.true c.push_targets.result c.push_targets.ensures

pub returns : goal.returns
returns c = other-pushed (nodes c.args.cells.now) c.args.one c.requires.0.0 c.args.source c.args.same c.if-same.false

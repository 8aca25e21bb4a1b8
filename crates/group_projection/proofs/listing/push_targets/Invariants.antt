-- `group_projection::listing::push_targets` meets its contract.
use Rattle.arena.specs.Layout.{decode as nodes}
use Rattle.classes.specs.Group.{class_at}
use Rattle.classes.specs.Layout.{decode}
use Rattle.group_projection.proofs.SourceLaws.{TargetsTo}
use Rattle.group_projection.proofs.listing.push_targets.Given as goal

abbrev pub invariant-loop-k : goal.invariant-loop-k
invariant-loop-k l = TargetsTo (nodes l.cells) (class_at (decode l.initial.out) 0) l.source l.k l.out

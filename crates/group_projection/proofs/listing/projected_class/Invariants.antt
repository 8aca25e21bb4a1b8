-- `group_projection::listing::projected_class` meets its contract.
use lib.ListN.{take, drop}
use Rattle.arena.specs.Layout.{decode as nodes}
use Rattle.group_projection.proofs.ProjectedParts.{MembersTo}
use Rattle.group_projection.proofs.listing.projected_class.Given as goal

abbrev pub invariant-loop-k : goal.invariant-loop-k
invariant-loop-k l = MembersTo (nodes l.cells) l.table (take l.n (drop l.start l.members)) l.k l.one

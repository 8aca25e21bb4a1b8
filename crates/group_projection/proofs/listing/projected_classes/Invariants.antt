-- `group_projection::listing::projected_classes` meets its contract.
use mathlib.Core.Path.{◌≡◌}
use lib.ListN.{take}
use Rattle.arena.specs.Layout.{decode as nodes}
use Rattle.classes.specs.Group.{total}
use Rattle.classes.specs.Layout.{decode}
use Rattle.group_projection.proofs.ListedLaws.{Lists}
use Rattle.group_projection.proofs.ProjectedParts.{front_telling}
use Rattle.group_projection.proofs.listing.projected_classes.Given as goal

abbrev pub invariant-loop-j : goal.invariant-loop-j
invariant-loop-j l = (l.start ≡ total (take l.j (decode l.g))) × Lists l.out (front_telling (nodes l.cells) l.table l.g l.j)

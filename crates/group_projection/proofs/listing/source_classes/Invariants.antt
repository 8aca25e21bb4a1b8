-- `group_projection::listing::source_classes` meets its contract.
use lib.ListN.{take}
use Rattle.arena.specs.Layout.{decode as nodes}
use Rattle.group_projection.proofs.ListedLaws.{Lists}
use Rattle.group_projection.proofs.SourceLaws.{with_sources}
use Rattle.group_projection.proofs.listing.source_classes.Given as goal

abbrev pub invariant-loop-i : goal.invariant-loop-i
invariant-loop-i l = Lists l.out (with_sources (nodes l.cells) l.initial.out l.m (take l.m.count l.numbers) l.i)

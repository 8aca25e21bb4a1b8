-- `group_projection::listing::source_class` meets its contract.
use mathlib.Core.List.{[], ◌∷◌}
use lib.ListN.{take}
use Rattle.arena.specs.Layout.{decode as nodes}
use Rattle.group_projection.proofs.ListedLaws.{Lists}
use Rattle.group_projection.proofs.SourceLaws.{class_of_sources}
use Rattle.group_projection.proofs.listing.source_class.Given as goal

abbrev pub invariant-loop-i : goal.invariant-loop-i
invariant-loop-i l = Lists l.one (class_of_sources (nodes l.cells) l.m (take l.m.count l.numbers) l.form l.i ∷ [])

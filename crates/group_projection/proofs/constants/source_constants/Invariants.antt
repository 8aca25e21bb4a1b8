-- `group_projection::constants::source_constants` meets its contract.
use Rattle.arena.specs.Layout.{decode as nodes}
use Rattle.classes.specs.Layout.{decode}
use Rattle.mappings.specs.Layout.{decode as mapping}
use Rattle.group_projection.proofs.ConstantLaws.{SourcesSaid}
use Rattle.group_projection.proofs.constants.source_constants.Given as goal

abbrev pub invariant-loop-i : goal.invariant-loop-i
invariant-loop-i l = SourcesSaid (nodes l.cells) (decode l.g) (mapping l.m) (decode l.initial.group) l.group l.i

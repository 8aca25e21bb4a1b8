-- `group_projection::constants::say_targets` meets its contract.
use Rattle.arena.specs.Layout.{decode as nodes}
use Rattle.classes.specs.Layout.{decode}
use Rattle.mappings.specs.Layout.{mapped_of}
use Rattle.group_projection.proofs.ConstantLaws.{said_of, SaidTo}
use Rattle.group_projection.proofs.constants.say_targets.Given as goal

abbrev pub invariant-loop-k : goal.invariant-loop-k
invariant-loop-k l = SaidTo (nodes l.cells) (said_of l.said (mapped_of l.source).targets) (decode l.initial.group) l.group l.k

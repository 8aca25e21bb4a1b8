-- `group_projection::constants::say_source` meets its contract.
use Rattle.arena.specs.Layout.{decode as nodes}
use Rattle.classes.specs.Layout.{decode}
use Rattle.mappings.specs.Layout.{mapped_of}
use Rattle.group_projection.proofs.ConstantLaws.{source-none, source-some}
use Rattle.group_projection.proofs.constants.say_source.Goals as goal

pub returns-in-NoConstant : goal.returns-in-NoConstant
unfolding mapped_of
returns-in-NoConstant c =
    source-none (nodes c.args.cells.now) (decode c.args.g) (mapped_of c.args.source) c.constant_in.result c.constant_in.ensures c.args.out c.in-NoConstant.is c.requires.0.0.1

pub returns-in_default : goal.returns-in_default
unfolding mapped_of
returns-in_default c =
    source-some (nodes c.args.cells.now) (decode c.args.g) (mapped_of c.args.source) c.constant_in.result c.constant_in.ensures c.args.out c.in_default.not-NoConstant c.say_targets.result c.say_targets.ensures

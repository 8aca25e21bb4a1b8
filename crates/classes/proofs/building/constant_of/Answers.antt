-- `classes::building::constant_of` meets its contract.
use Rattle.std.proofs.Common.{◌∙◌}
use mathlib.Core.Path.{ap₂}
use Rattle.classes.specs.Layout.{constant_from}
use Rattle.classes.proofs.Codec.{flavour-is, value-is}
use Rattle.classes.proofs.Marks.{constant-from}
use Rattle.classes.proofs.building.constant_of.Goals as goal

pub returns : goal.returns
returns c =
    c.from_numbers.ensures ∙ ap₂ constant_from (flavour-is c.args.g c.requires.0 c.args.i) (value-is c.args.g c.requires.0 c.args.i) ∙ constant-from _

-- `questions::questions::class_mark` meets its contract.
use mathlib.Core.Path.{sym, ◌∙◌}
use Rattle.classes.specs.Layout.{decode}
use Rattle.classes.proofs.ClassPlaces.{class-below}
use Rattle.questions.proofs.Constancy.{mark-at, mark-nowhere}
use Rattle.questions.proofs.questions.class_mark.Goals as goal

pub constant_of-requires : goal.constant_of-requires
constant_of-requires c =
    (c.requires, class-below c.args.g c.args.e c.in-Some.i (sym c.find_class.ensures ∙ c.in-Some.is))

pub returns-in-Some : goal.returns-in-Some
returns-in-Some c =
    c.constant_of.ensures ∙ mark-at (decode c.args.g) c.args.e c.in-Some.i (sym c.find_class.ensures ∙ c.in-Some.is)

pub returns-in-None : goal.returns-in-None
returns-in-None c =
    mark-nowhere (decode c.args.g) c.args.e (sym c.find_class.ensures ∙ c.in-None.is)

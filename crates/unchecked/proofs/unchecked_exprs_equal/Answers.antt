-- `unchecked::unchecked_exprs_equal` meets its contract.
use mathlib.Core.Path.{sym, ap, subst, ◌∙◌}
use Rattle.arena.specs.Layout.{decode as nodes}
use Rattle.classes.specs.Inner.{Coded}
use Rattle.classes.specs.Layout.{decode}
use Rattle.classes.specs.declared.Group.{Group}
use Rattle.questions.specs.Questions.{exprs_equal}
use Rattle.answers.specs.Answers.{bit}
use Rattle.unchecked.proofs.unchecked_exprs_equal.Goals as goal

pub equal_in-requires : goal.equal_in-requires
equal_in-requires c = (c.requires.0, subst Coded (sym c.load_group.ensures) c.requires.1)

pub returns : goal.returns
returns c =
    let x = c.args in
    c.bit_of.ensures ∙ ap bit (c.equal_in.ensures ∙ ap (λ (g : Group). exprs_equal (nodes x.arena.now) (decode g) x.left x.right) c.load_group.ensures)

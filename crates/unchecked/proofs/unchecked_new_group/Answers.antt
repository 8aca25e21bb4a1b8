-- `unchecked::unchecked_new_group` meets its contract.
use mathlib.Core.Path.{ap, ◌∙◌}
use Rattle.lent_classes.specs.Lent.{classes_lent}
use Rattle.group_states.specs.Groups.{stored_group}
use Rattle.unchecked.proofs.Carried.{list-coded, group-coded, made_of, made-fits}
use Rattle.unchecked.proofs.unchecked_new_group.Goals as goal

pub lent_classes-requires : goal.lent_classes-requires
lent_classes-requires c = c.requires

pub from_classes-requires : goal.from_classes-requires
from_classes-requires c =
    list-coded (classes_lent c.args.classes.now) c.requires.1.1 c.lent_classes.result c.lent_classes.ensures

pub made-changed-requires : goal.made-changed-requires
made-changed-requires c =
    let l = c.lent_classes in
    group-coded (classes_lent c.args.classes.now) c.requires.1.1 l.result l.ensures c.from_classes.result c.from_classes.ensures

pub store_group-requires : goal.store_group-requires
store_group-requires c =
    let cs = classes_lent c.args.classes.now in
    let l = c.lent_classes in
    let g = c.from_classes in
    let m = c.made-changed in
    made-fits cs c.requires.1.1 m.result (made_of cs c.requires.1.1 l.result l.ensures g.result g.ensures m.result m.ensures)

pub returns : goal.returns
returns c =
    let cs = classes_lent c.args.classes.now in
    let l = c.lent_classes in
    let g = c.from_classes in
    let m = c.made-changed in
    c.store_group.ensures ∙ ap (stored_group c.args.made.now) (made_of cs c.requires.1.1 l.result l.ensures g.result g.ensures m.result m.ensures)

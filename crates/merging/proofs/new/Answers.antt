-- `merging::new` meets its contract.
use Rattle.arena.proofs.Refusals.{done-zero}
use Rattle.lent_classes.proofs.NumberLaws.{new-passes}
use Rattle.merging.proofs.NewLaws.{new-refused, list-coded, group-coded, new-made}
use mathlib.Core.Path.{sym, ◌∙◌}
use Rattle.merging.proofs.new.Goals as goal

pub returns-in-Err : goal.returns-in-Err
returns-in-Err c =
    let x = c.args in
    c.no_group.ensures ∙ new-refused x.cells.now x.list.now c.in-Err.why (sym c.new_number.ensures ∙ c.in-Err.is)

pub lent_classes-requires : goal.lent_classes-requires
lent_classes-requires c =
    let x = c.args in
    new-passes x.cells.now x.list.now (done-zero _ (sym c.new_number.ensures ∙ c.in_default.is))

pub from_classes-requires : goal.from_classes-requires
from_classes-requires c =
    let x = c.args in
    list-coded x.cells.now x.list.now (sym c.new_number.ensures ∙ c.in_default.is) c.lent_classes.result c.lent_classes.ensures

pub made-requires : goal.made-requires
made-requires c =
    let x = c.args in
    let l = c.lent_classes in
    group-coded x.cells.now x.list.now (sym c.new_number.ensures ∙ c.in_default.is) l.result l.ensures c.from_classes.result c.from_classes.ensures

pub returns : goal.returns
returns c =
    let x = c.args in
    let l = c.lent_classes in
    let g = c.from_classes in
    new-made x.cells.now x.list.now (sym c.new_number.ensures ∙ c.in_default.is) l.result l.ensures g.result g.ensures c.made.result c.made.ensures

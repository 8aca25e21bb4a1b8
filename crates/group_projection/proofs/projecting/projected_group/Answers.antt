-- `group_projection::projecting::projected_group` meets its contract.
use mathlib.Core.Path.{sym}
use lib.ListN.{take}
use Rattle.arena.specs.Layout.{count, decode as nodes}
use Rattle.arena.proofs.Layouts.{length-decode}
use Rattle.classes.specs.Good.{flat}
use Rattle.classes.specs.Layout.{decode}
use Rattle.mappings.specs.Layout.{decode as mapping}
use Rattle.projection.specs.Inner.{answers_in}
use Rattle.arena.proofs.Refusals.{handed-on}
use Rattle.group_projection.proofs.FairProjected.{members-answers, checked-targets, projected-over, list-coded, projected-made, projected-done}
use Rattle.group_projection.proofs.projecting.projected_group.Goals as goal

pub projected_list-requires : goal.projected_list-requires
projected_list-requires c = ((c.requires.0.0, c.requires.0.1.coded), c.requires.1)

pub returns-in_err-list : goal.returns-in_err-list
returns-in_err-list c =
    let m = c.args.m in
    rw (handed-on _ _ c.from_residual.ensures.1) (projected-over (nodes c.args.cells.now) (decode c.args.g) (mapping m) (answers_in c.args.table.now (flat (decode c.args.g))) (take m.count c.args.numbers) c.projected_list.result c.projected_list.ensures _ c.in_err-list.was)

pub from_classes-requires : goal.from_classes-requires
from_classes-requires c =
    let m = c.args.m in
    list-coded (nodes c.args.cells.now) (decode c.args.g) (mapping m) (answers_in c.args.table.now (flat (decode c.args.g))) (take m.count c.args.numbers) c.projected_list.result c.projected_list.ensures c.in_ok-list.list c.in_ok-list.was

pub source_constants-requires : goal.source_constants-requires
source_constants-requires c =
    let m = c.args.m in
    let n = count c.args.cells.now in
    ((c.requires.0.0.0, projected-made (nodes c.args.cells.now) (decode c.args.g) (mapping m) (answers_in c.args.table.now (flat (decode c.args.g))) (take m.count c.args.numbers) c.projected_list.result c.projected_list.ensures c.in_ok-list.list c.in_ok-list.was c.from_classes.result c.from_classes.ensures n (sym (length-decode c.args.cells.now)) (members-answers n c.args.table.now c.args.g c.requires.0.1.coded c.requires.1) (checked-targets n m c.requires.0.0.1)), (c.requires.0.1.coded, c.requires.0.0.1))

pub returns : goal.returns
returns c =
    let m = c.args.m in
    projected-done (nodes c.args.cells.now) (decode c.args.g) (mapping m) (answers_in c.args.table.now (flat (decode c.args.g))) (take m.count c.args.numbers) c.projected_list.result c.projected_list.ensures c.in_ok-list.list c.in_ok-list.was c.from_classes.result c.from_classes.ensures c.source_constants.result c.source_constants.ensures

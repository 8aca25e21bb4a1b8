-- `group_projection::listing::projected_list` meets its contract.
use mathlib.Core.Path.{◌≡◌}
use native.Mathlib.Omega.{arith}
use lib.ListN.{length, take}
use lib.Seq.{length-take-le}
use Rattle.arena.specs.Layout.{decode as nodes}
use Rattle.arena.proofs.Refusals.{handed-on}
use Rattle.group_projection.proofs.ListedLaws.{lists-list, answer-lists}
use Rattle.group_projection.proofs.ProjectedParts.{all_telling}
use Rattle.group_projection.proofs.SourceLaws.{list_over, list-made}
use borrow.Author.Rules.{rules}
use Rattle.group_projection.proofs.listing.projected_list.Goals as goal

pub projected_classes-requires : goal.projected_classes-requires
projected_classes-requires c = ((c.requires.0.0.0, c.requires.0.1), c.requires.1)

pub returns-in_err-projected_classes : goal.returns-in_err-projected_classes
returns-in_err-projected_classes c =
    rw (handed-on _ _ c.from_residual.ensures.1) (list_over (nodes c.args.cells.now) c.args.table.now c.args.g c.args.m (take c.args.m.count c.args.numbers) c.projected_classes.result c.projected_classes.ensures _ c.in_err-projected_classes.was)

pub source_classes-requires : goal.source_classes-requires
source_classes-requires c =
    (lists-list c.in_ok-projected_classes.field-0 (all_telling (nodes c.args.cells.now) c.args.table.now c.args.g) (answer-lists c.projected_classes.result (all_telling (nodes c.args.cells.now) c.args.table.now c.args.g) c.projected_classes.ensures c.in_ok-projected_classes.field-0 c.in_ok-projected_classes.was), c.requires.0.0)

pub returns : goal.returns
returns c =
    let mm : length c.args.numbers ≡ 64 = search rules in
    let len = length-take-le c.args.m.count c.args.numbers (omega (arith, c.requires.0.0.1.bounded.few)) in
    list-made (nodes c.args.cells.now) c.args.table.now c.args.g c.args.m (take c.args.m.count c.args.numbers) c.projected_classes.result c.projected_classes.ensures len c.in_ok-projected_classes.field-0 c.in_ok-projected_classes.was c.source_classes.result c.source_classes.ensures

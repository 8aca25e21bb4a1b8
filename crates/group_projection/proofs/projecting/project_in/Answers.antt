-- `group_projection::projecting::project_in` meets its contract.
use Rattle.mappings.specs.Layout.{decode as mapping}
use Rattle.group_projection.proofs.ProjectLaws.{over_done, over-refused}
use Rattle.group_projection.proofs.projecting.project_in.Goals as goal

pub project_over-requires : goal.project_over-requires
project_over-requires c = c.requires

pub returns-in-Err : goal.returns-in-Err
returns-in-Err c =
    let o = c.project_over in
    over-refused c.args.cells.now o.new.cells c.requires.0.0 c.args.g (mapping c.args.m) o.result o.ensures c.in-Err.why c.in-Err.is c.refusal.result c.refusal.ensures

pub returns : goal.returns
returns c =
    let o = c.project_over in
    over_done c.args.cells.now o.new.cells c.args.g (mapping c.args.m) o.result o.ensures c.in-Ok.group c.in-Ok.is

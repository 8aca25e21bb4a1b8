-- `dependencies::inserting::has_dependency` meets its contract.
use Rattle.std.proofs.Common.{◌≤◌, ap, ◌∙◌, rules, length, take}
use Rattle.laws.proofs.RunsD.{take-table}
use Rattle.classes.specs.Group.{among}
use Rattle.dependencies.specs.Layout.{entry_of}
use Rattle.dependencies.proofs.MapInserts.{any-among}
use Rattle.dependencies.proofs.inserting.has_dependency.Goals as goal

pub returns : goal.returns
unfolding entry_of
returns c =
    let l : c.args.r.size ≤ length c.args.r.dependencies = search rules in
    c.contains.ensures.value ∙ any-among c.args.key (take c.args.r.size c.args.r.dependencies) ∙ ap (among c.args.key) (take-table c.args.r.dependencies c.args.r.size l)

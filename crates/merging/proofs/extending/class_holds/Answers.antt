-- `merging::extending::class_holds` meets its contract.
use mathlib.Core.Path.{ap, ◌∙◌}
use Prim.Native.Nat.{◌+◌, ◌≤◌}
use lib.ListN.{get_or}
use native.Mathlib.Omega.{arith}
use borrow.Author.Rules.{rules}
use Rattle.classes.specs.Group.{among}
use Rattle.classes.proofs.Rebuilding.{start-inside}
use Rattle.merging.proofs.Meetings.{among-any, cut-inside, cut-is}
use Rattle.merging.proofs.extending.class_holds.Goals as goal

pub class_start-start-requires : goal.class_start-start-requires
class_start-start-requires c = start-inside c.args.g c.requires.0 c.args.i c.requires.1

pub overflow_add-start : goal.overflow_add-start
overflow_add-start c =
    omega (arith, cut-inside c.args.g c.requires.0 c.args.i c.class_start-start.result c.class_start-start.ensures)

pub offset_bounds-g-start : goal.offset_bounds-g-start
offset_bounds-g-start c =
    omega (arith, cut-inside c.args.g c.requires.0 c.args.i c.class_start-start.result c.class_start-start.ensures)

pub slice_bounds-contains-end : goal.slice_bounds-contains-end
slice_bounds-contains-end c =
    let b : c.class_start-start.result + get_or c.args.g.sizes c.args.i 0 ≤ 256 = cut-inside c.args.g c.requires.0 c.args.i c.class_start-start.result c.class_start-start.ensures in
    search rules

pub returns : goal.returns
returns c =
    let start = c.class_start-start in
    c.contains.ensures.value ∙ among-any c.args.e _ ∙ ap (among c.args.e) (cut-is c.args.g c.requires.0 c.args.i start.result start.ensures)

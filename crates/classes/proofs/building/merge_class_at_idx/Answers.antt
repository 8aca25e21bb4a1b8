-- `classes::building::merge_class_at_idx` meets its contract.
use Rattle.classes.proofs.Turns.{merged-asks, merged-next, merged-done}
use borrow.Author.Rules.{rules}
use Rattle.classes.proofs.building.merge_class_at_idx.Goals as goal

pub loop-k-init : goal.loop-k-init
loop-k-init c = (search rules, c.empty-out.ensures)

pub add_merged-out-requires : goal.add_merged-out-requires
add_merged-out-requires c =
    let l = c.loop-k in
    merged-asks c.args.g c.requires.0.0 c.args.i c.requires.0.1 c.args.src c.requires.1.0.0 c.args.j c.requires.1.0.1 c.requires.1.1 l.k l.out (search rules) l.invariant.1

pub loop-k-preserved : goal.loop-k-preserved
loop-k-preserved c =
    let l = c.loop-k in
    (search rules, merged-next c.args.g c.requires.0.0 c.args.i c.requires.0.1 c.args.src c.requires.1.0.0 c.args.j c.requires.1.0.1 c.requires.1.1 l.k l.out (search rules) l.invariant.1 c.add_merged-out.result c.add_merged-out.ensures)

pub returns : goal.returns
returns c =
    let l = c.loop-k in
    merged-done c.args.g c.requires.0.0 c.args.i c.requires.0.1 c.args.src c.requires.1.0.0 c.args.j c.requires.1.0.1 c.requires.1.1 l.k l.out (search rules) (search rules) l.invariant.1

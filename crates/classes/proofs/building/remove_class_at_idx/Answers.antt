-- `classes::building::remove_class_at_idx` meets its contract.
use Rattle.classes.proofs.Turns.{removed-room, removed-next, removed-done}
use borrow.Author.Rules.{rules}
use Rattle.classes.proofs.building.remove_class_at_idx.Goals as goal

pub loop-k-init : goal.loop-k-init
loop-k-init c = (search rules, c.empty-out.ensures)

pub add_class-out-requires : goal.add_class-out-requires
add_class-out-requires c =
    let l = c.loop-k in
    removed-room c.args.g c.requires.0 c.args.i c.requires.1 l.k c.moved_place.result l.out (search rules) l.invariant.1 c.moved_place.ensures.0 c.moved_place.ensures.1

pub loop-k-preserved : goal.loop-k-preserved
loop-k-preserved c =
    let l = c.loop-k in
    let m = c.moved_place in
    (search rules, removed-next c.args.g c.requires.0 c.args.i c.requires.1 l.k m.result l.out (search rules) l.invariant.1 m.ensures.0 m.ensures.1 c.add_class-out.result c.add_class-out.ensures)

pub returns : goal.returns
returns c =
    let l = c.loop-k in
    removed-done c.args.g c.requires.0 c.args.i c.requires.1 l.k l.out (search rules) (search rules) l.invariant.1

-- `classes::building::add_merged` meets its contract.
use Rattle.classes.proofs.Turns.{merged-room, merged-next-room, merged-made, merged-passed}
use Rattle.classes.proofs.building.add_merged.Goals as goal

pub add_class-next-requires : goal.add_class-next-requires
add_class-next-requires c =
    merged-room c.args.out c.args.g c.args.k c.args.i c.args.src c.args.j c.requires

pub merge_last-requires : goal.merge_last-requires
merge_last-requires c =
    merged-next-room c.args.out c.args.g c.args.k c.args.i c.args.src c.args.j c.requires c.add_class-next.result c.if-k-i.true c.add_class-next.ensures

pub returns-then-k-i : goal.returns-then-k-i
returns-then-k-i c =
    let a = c.add_class-next in
    merged-made c.args.out c.args.g c.args.k c.args.i c.args.src c.args.j c.requires a.result c.if-k-i.true a.ensures c.merge_last.result c.merge_last.ensures

pub returns-else-k-i : goal.returns-else-k-i
returns-else-k-i c =
    merged-passed c.args.out c.args.g c.args.k c.args.i c.args.src c.args.j c.requires c.add_class-next.result c.if-k-i.false c.add_class-next.ensures

-- `reduction::reducing::second` meets its contract.
use borrow.Author.Rules.{rules}
use Rattle.orderings.proofs.Codec.{count-few, place-held}
use Rattle.reduction.proofs.Contests.{number_fits, rest-fits, second_none, second-all, second-part}
use Rattle.reduction.proofs.reducing.second.Goals as goal

pub offset_bounds-g-i : goal.offset_bounds-g-i
offset_bounds-g-i c = let b = count-few c.args.g c.requires.0.0 in search rules

pub bounds-g-i : goal.bounds-g-i
bounds-g-i c = let b = count-few c.args.g c.requires.0.0 in search rules

pub offset_bounds-g-j : goal.offset_bounds-g-j
offset_bounds-g-j c = let b = count-few c.args.g c.requires.0.0 in search rules

pub bounds-g-j : goal.bounds-g-j
bounds-g-j c = let b = count-few c.args.g c.requires.0.0 in search rules

pub overlap-n-requires : goal.overlap-n-requires
overlap-n-requires c =
    (place-held c.args.g c.requires.0.0 c.args.j c.requires.1.1, place-held c.args.g c.requires.0.0 c.args.i c.requires.1.0)

pub returns-then-n-eq0 : goal.returns-then-n-eq0
returns-then-n-eq0 c =
    let o = c.overlap-n in
    second_none c.args.g c.requires.0.0 c.args.i c.args.j c.args.c o.result c.requires.1.0 c.requires.1.1 o.ensures c.if-n-eq0.true

pub remove-requires : goal.remove-requires
remove-requires c = (c.requires.0.0, c.requires.1.1)

pub returns-then-n-b : goal.returns-then-n-b
returns-then-n-b c =
    let o = c.overlap-n in
    second-all c.args.g c.requires.0.0 c.args.i c.args.j c.args.c o.result c.requires.1.0 c.requires.1.1 o.ensures c.if-n-eq0.false c.if-n-b.true c.remove.result c.remove.ensures

pub overflow_sub-b : goal.overflow_sub-b
overflow_sub-b c =
    let o = c.overlap-n in
    number_fits c.args.g c.requires.0.0 c.args.j c.args.i o.result c.requires.1.1 c.requires.1.0 o.ensures

pub cut-requires : goal.cut-requires
cut-requires c =
    let o = c.overlap-n in
    (c.requires.0.0, (c.requires.1.1, rest-fits c.args.g c.requires.0.0 c.args.j c.args.i o.result c.requires.1.1 c.requires.1.0 o.ensures))

pub returns : goal.returns
returns c =
    let o = c.overlap-n in
    second-part c.args.g c.requires.0.0 c.args.i c.args.j c.args.c o.result c.requires.1.0 c.requires.1.1 o.ensures c.if-n-eq0.false c.if-n-b.false c.cut.result c.cut.ensures

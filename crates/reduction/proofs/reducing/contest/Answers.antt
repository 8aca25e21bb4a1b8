-- `reduction::reducing::contest` meets its contract.
use native.Mathlib.Omega.{arith}
use borrow.Author.Rules.{rules}
use Rattle.orderings.proofs.Codec.{count-few, place-held}
use Rattle.reduction.proofs.Contests.{number_fits, rest-fits, cut-held, contest-none, contest-all, contest-part}
use Rattle.reduction.proofs.reducing.contest.Goals as goal

pub offset_bounds-g-i : goal.offset_bounds-g-i
offset_bounds-g-i c = let b = count-few c.args.g c.requires.0 in search rules

pub bounds-g-i : goal.bounds-g-i
bounds-g-i c = let b = count-few c.args.g c.requires.0 in search rules

pub offset_bounds-g-j : goal.offset_bounds-g-j
offset_bounds-g-j c = let b = count-few c.args.g c.requires.0 in search rules

pub bounds-g-j : goal.bounds-g-j
bounds-g-j c = let b = count-few c.args.g c.requires.0 in search rules

pub overlap-n-requires : goal.overlap-n-requires
overlap-n-requires c =
    (place-held c.args.g c.requires.0 c.args.i c.requires.1.0, place-held c.args.g c.requires.0 c.args.j c.requires.1.1)

pub second-requires : goal.second-requires
second-requires c = ((c.requires.0, search rules), c.requires.1)

pub returns-then-n-eq0 : goal.returns-then-n-eq0
returns-then-n-eq0 c =
    let o = c.overlap-n in
    contest-none c.args.g c.requires.0 c.args.i c.args.j o.result c.requires.1.0 c.requires.1.1 o.ensures c.if-n-eq0.true c.second.result c.second.ensures

pub remove-requires : goal.remove-requires
remove-requires c = (c.requires.0, c.requires.1.0)

pub returns-then-n-a : goal.returns-then-n-a
returns-then-n-a c =
    let o = c.overlap-n in
    contest-all c.args.g c.requires.0 c.args.i c.args.j o.result c.requires.1.0 c.requires.1.1 o.ensures c.if-n-eq0.false c.if-n-a.true c.remove.result c.remove.ensures

pub overflow_sub-a : goal.overflow_sub-a
overflow_sub-a c =
    let o = c.overlap-n in
    number_fits c.args.g c.requires.0 c.args.i c.args.j o.result c.requires.1.0 c.requires.1.1 o.ensures

pub cut-shorter-requires : goal.cut-shorter-requires
cut-shorter-requires c =
    let o = c.overlap-n in
    (c.requires.0, (c.requires.1.0, rest-fits c.args.g c.requires.0 c.args.i c.args.j o.result c.requires.1.0 c.requires.1.1 o.ensures))

pub second-requires-2 : goal.second-requires-2
second-requires-2 c =
    let o = c.overlap-n in
    let k = cut-held c.args.g c.requires.0 c.args.i c.args.j o.result c.requires.1.0 c.requires.1.1 o.ensures c.if-n-eq0.false c.if-n-a.false c.cut-shorter.result c.cut-shorter.ensures in
    ((k.0, search rules), (omega (arith, k.1), omega (arith, k.1)))

pub returns : goal.returns
returns c =
    let o = c.overlap-n in
    contest-part c.args.g c.requires.0 c.args.i c.args.j o.result c.requires.1.0 c.requires.1.1 o.ensures c.if-n-eq0.false c.if-n-a.false c.cut-shorter.result c.cut-shorter.ensures c.second-2.result c.second-2.ensures

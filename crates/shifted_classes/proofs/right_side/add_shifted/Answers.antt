-- `shifted_classes::right_side::add_shifted` meets its contract.
use Prim.Native.Nat.{◌<◌}
use mathlib.Core.Path.{◌≡◌}
use native.Mathlib.Omega.{arith}
use lib.ListN.{length}
use Rattle.arena.specs.Layout.{decode as nodes}
use Rattle.classes.specs.Layout.{decode}
use Rattle.classes.proofs.Codec.{size_is}
use Rattle.shifted_classes.proofs.ShiftedParts.{add-begins, add-room, add-next, add-ends, part-inside, part-next, part-below, total-none}
use borrow.Author.Rules.{rules}
use Rattle.shifted_classes.proofs.right_side.add_shifted.Goals as goal

pub loop-j-init : goal.loop-j-init
loop-j-init c =
    (total-none (decode c.args.right), add-begins (nodes c.args.cells.now) c.args.left c.args.right c.requires.0.0.0 c.args.members)

pub offset_bounds-right-j : goal.offset_bounds-right-j
offset_bounds-right-j c =
    search rules

pub bounds-right-j : goal.bounds-right-j
bounds-right-j c =
    omega (arith, c.requires.0.1.0, c.loop-j-test.true)

pub add_class_from-out-requires : goal.add_class_from-out-requires
add_class_from-out-requires c =
    let o = c.loop-j in
    let mm : length c.args.members ≡ 256 = search rules in
    let l : o.j < c.args.right.count = omega (arith, c.loop-j-test.true, c.loop-j-test) in
    let z = size_is c.args.right c.requires.0.0.1 o.j in
    let i = part-inside c.args.right c.requires.0.0.1 o.j o.start _ o.invariant.0 z in (
      add-room (nodes c.args.cells.now) c.args.left c.args.right c.requires.0.0.0 c.requires.0.0.1 c.requires.0.1.0 c.requires.0.1.1 c.args.members o.j l o.start _ o.invariant.0 z o.out o.invariant.1,
      (
        (c.requires.1.0, omega (arith, i, c.requires.0.0.1.small)),
        part-below c.args.right c.requires.0.0.1 o.j o.start _ o.invariant.0 z c.args.members mm (length (nodes c.args.cells.now)) c.requires.1.1,
      ),
    )

pub overflow_add-start : goal.overflow_add-start
overflow_add-start c =
    let o = c.loop-j in
    let i = part-inside c.args.right c.requires.0.0.1 o.j o.start _ o.invariant.0 (size_is c.args.right c.requires.0.0.1 o.j) in
    search rules

pub loop-j-preserved : goal.loop-j-preserved
loop-j-preserved c =
    let o = c.loop-j in
    let l : o.j < c.args.right.count = omega (arith, c.loop-j-test.true, c.loop-j-test) in
    let z = size_is c.args.right c.requires.0.0.1 o.j in (
      part-next c.args.right c.requires.0.0.1 o.j o.start _ o.invariant.0 z,
      add-next (nodes c.args.cells.now) c.args.left c.args.right c.requires.0.0.0 c.requires.0.0.1 c.requires.0.1.0 c.requires.0.1.1 c.args.members o.j l o.start _ o.invariant.0 z o.out o.invariant.1 c.add_class_from-out.result c.add_class_from-out.ensures,
    )

pub returns : goal.returns
returns c =
    let o = c.loop-j in
    add-ends (nodes c.args.cells.now) c.args.left c.args.right c.requires.0.0.0 c.args.members o.j o.out (omega (arith, c.loop-j-test, c.loop-j-test.false)) o.invariant.1

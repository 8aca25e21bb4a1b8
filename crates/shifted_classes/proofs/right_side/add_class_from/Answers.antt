-- `shifted_classes::right_side::add_class_from` meets its contract.
use Prim.Native.Nat.{◌+◌}
use mathlib.Core.Path.{◌≡◌, ◌∙◌}
use native.Mathlib.Omega.{arith}
use lib.ListN.{length, get_or, take, drop, length-drop}
use lib.Seq.{length-take-le, get_or-take, get_or-drop}
use Rattle.arena.specs.Layout.{decode as nodes}
use Rattle.arena.proofs.Layouts.{length-decode}
use Rattle.shifted_classes.proofs.ShiftedParts.{push-begins, push-asks, push-more, push-ends}
use borrow.Author.Rules.{rules}
use Rattle.shifted_classes.proofs.right_side.add_class_from.Goals as goal

pub open_empty-next-requires : goal.open_empty-next-requires
open_empty-next-requires c = (c.requires.0.0, c.requires.0.1.0)

pub loop-k-init : goal.loop-k-init
loop-k-init c =
    let mm : length c.args.members ≡ 256 = search rules in
    let len = length-take-le c.args.n (drop c.args.start c.args.members) (omega (arith, c.requires.1.0.1, length-drop c.args.start c.args.members)) in
    push-begins (nodes c.args.cells.now) c.args.out c.requires.0.0 c.requires.0.1.0 c.args.n c.requires.0.1.1 (take c.args.n (drop c.args.start c.args.members)) len c.open_empty-next.result c.open_empty-next.ensures

pub overflow_add-start : goal.overflow_add-start
overflow_add-start c =
    search rules

pub offset_bounds-members-start : goal.offset_bounds-members-start
offset_bounds-members-start c =
    search rules

pub bounds-members-start : goal.bounds-members-start
bounds-members-start c =
    omega (arith, c.requires.1.0.1, c.loop-k-test.true)

pub push-next-requires : goal.push-next-requires
push-next-requires c =
    let o = c.loop-k in
    let mm : length c.args.members ≡ 256 = search rules in
    let len = length-take-le c.args.n (drop c.args.start c.args.members) (omega (arith, c.requires.1.0.1, length-drop c.args.start c.args.members)) in
    let e : get_or (take c.args.n (drop c.args.start c.args.members)) o.k 0 ≡ get_or c.args.members (c.args.start + o.k) 0 = get_or-take c.args.n (drop c.args.start c.args.members) o.k 0 c.loop-k-test.true ∙ get_or-drop c.args.start c.args.members o.k 0 in
    let b = c.requires.1.1 o.k (omega (arith, len, c.loop-k-test.true)) in (
      push-asks (nodes c.args.cells.now) c.args.out c.requires.0.0 c.requires.0.1.0 c.args.n c.requires.0.1.1 (take c.args.n (drop c.args.start c.args.members)) len c.open_empty-next.result c.open_empty-next.ensures o.k o.next o.invariant c.loop-k-test.true,
      record { holds = c.requires.1.0.0; below = omega (arith, e, b, length-decode c.args.cells.now) },
    )

pub loop-k-preserved : goal.loop-k-preserved
loop-k-preserved c =
    let o = c.loop-k in
    let mm : length c.args.members ≡ 256 = search rules in
    let len = length-take-le c.args.n (drop c.args.start c.args.members) (omega (arith, c.requires.1.0.1, length-drop c.args.start c.args.members)) in
    let e : get_or (take c.args.n (drop c.args.start c.args.members)) o.k 0 ≡ get_or c.args.members (c.args.start + o.k) 0 = get_or-take c.args.n (drop c.args.start c.args.members) o.k 0 c.loop-k-test.true ∙ get_or-drop c.args.start c.args.members o.k 0 in
    push-more (nodes c.args.cells.now) c.args.out c.requires.0.0 c.requires.0.1.0 c.args.n c.requires.0.1.1 (take c.args.n (drop c.args.start c.args.members)) len c.open_empty-next.result c.open_empty-next.ensures o.k o.next o.invariant c.loop-k-test.true
    c.push-next.result _ e c.push-next.ensures

pub returns : goal.returns
returns c =
    let o = c.loop-k in
    let mm : length c.args.members ≡ 256 = search rules in
    let len = length-take-le c.args.n (drop c.args.start c.args.members) (omega (arith, c.requires.1.0.1, length-drop c.args.start c.args.members)) in
    push-ends (nodes c.args.cells.now) c.args.out c.requires.0.0 c.requires.0.1.0 c.args.n c.requires.0.1.1 (take c.args.n (drop c.args.start c.args.members)) len c.open_empty-next.result c.open_empty-next.ensures o.k o.next (omega (arith, c.loop-k-test.false)) o.invariant

-- `group_records::group::columns` meets its contract.
use Prim.Native.Nat.{◌<◌}
use mathlib.Core.Path.{sym, ◌∙◌}
use native.Mathlib.Omega.{arith}
use lib.ListN.{length}
use Rattle.group_records.specs.Inner.{given_of}
use Rattle.group_records.proofs.GroupWalk.{before-start, turn}
use Rattle.group_records.proofs.GroupCopy.{columns-none, columns-more, columns-all}
use borrow.Author.Rules.{rules}
use Rattle.group_records.proofs.group.columns.Goals as goal

pub loop-j-init : goal.loop-j-init
loop-j-init c =
    let b = c.args.body.now in
    (before-start b c.requires.0, columns-none (given_of b) c.empty-group.result c.empty-group.ensures)

pub member_count-m-requires : goal.member_count-m-requires
member_count-m-requires c =
    let b = c.args.body.now in
    let l = c.loop-j in
    let k : l.j < length (given_of b) = omega (arith, c.loop-j-test.true, c.class_count-n.ensures) in
    let t = turn b l.j l.at l.invariant.0 k in
    t.head

pub bounds-group-j : goal.bounds-group-j
bounds-group-j c =
    omega (arith, c.loop-j-test.true, c.class_count-n.ensures, c.requires.1.0)

pub field-requires : goal.field-requires
field-requires c =
    let b = c.args.body.now in
    let l = c.loop-j in
    let k : l.j < length (given_of b) = omega (arith, c.loop-j-test.true, c.class_count-n.ensures) in
    let t = turn b l.j l.at l.invariant.0 k in
    omega (arith, t.head)

pub bounds-group-j-in-loop-j : goal.bounds-group-j-in-loop-j
bounds-group-j-in-loop-j c =
    omega (arith, c.loop-j-test.true, c.class_count-n.ensures, c.requires.1.0)

pub overflow_add-at : goal.overflow_add-at
overflow_add-at c =
    let b = c.args.body.now in
    let l = c.loop-j in
    let k : l.j < length (given_of b) = omega (arith, c.loop-j-test.true, c.class_count-n.ensures) in
    let t = turn b l.j l.at l.invariant.0 k in
    let h = t.head in
    search rules

pub wide_field-requires : goal.wide_field-requires
wide_field-requires c =
    let b = c.args.body.now in
    let l = c.loop-j in
    let k : l.j < length (given_of b) = omega (arith, c.loop-j-test.true, c.class_count-n.ensures) in
    let t = turn b l.j l.at l.invariant.0 k in
    omega (arith, t.head)

pub bounds-group-j-in-loop-j-2 : goal.bounds-group-j-in-loop-j-2
bounds-group-j-in-loop-j-2 c =
    omega (arith, c.loop-j-test.true, c.class_count-n.ensures, c.requires.1.0)

pub overflow_add-at-in-loop-j-2 : goal.overflow_add-at-in-loop-j-2
overflow_add-at-in-loop-j-2 c =
    let b = c.args.body.now in
    let l = c.loop-j in
    let k : l.j < length (given_of b) = omega (arith, c.loop-j-test.true, c.class_count-n.ensures) in
    let t = turn b l.j l.at l.invariant.0 k in
    let h = t.whole in
    search rules

pub loop-j-preserved : goal.loop-j-preserved
loop-j-preserved c =
    let b = c.args.body.now in
    let l = c.loop-j in
    let k : l.j < length (given_of b) = omega (arith, c.loop-j-test.true, c.class_count-n.ensures) in
    let t = turn b l.j l.at l.invariant.0 k in
    (rw c.member_count-m.ensures.0 t.next, columns-more (given_of b) l.group l.j c.requires.1.0 c.requires.1.1 k l.invariant.1 c.member_count-m.result c.from.result c.wide_field.result (c.member_count-m.ensures.0 ∙ sym t.size) (c.from.ensures ∙ c.field.ensures ∙ sym t.flavour) (c.wide_field.ensures ∙ sym t.value))

pub returns : goal.returns
returns c =
    let b = c.args.body.now in
    let l = c.loop-j in
    columns-all (given_of b) l.group l.j c.class_count-n.result (omega (arith, c.loop-j-test.false, c.class_count-n.ensures)) c.class_count-n.ensures l.invariant.1

-- `group_records::group::flavours_known` meets its contract.
use Prim.Native.Nat.{◌<◌}
use mathlib.Core.Path.{sym, ◌∙◌}
use native.Mathlib.Omega.{arith}
use lib.ListN.{length}
use Rattle.laws.proofs.Each.{each_none, each_more, each-stops, each-ends}
use Rattle.group_records.specs.Inner.{given_of}
use Rattle.group_records.specs.GroupRecord.{flavours_known}
use Rattle.group_records.proofs.GroupWalk.{Known, before-start, turn, known_at}
use borrow.Author.Rules.{rules}
use Rattle.group_records.proofs.group.flavours_known.Goals as goal

pub loop-j-init : goal.loop-j-init
loop-j-init c =
    let b = c.args.body.now in
    (before-start b c.requires, each_none (Known b))

pub field-requires : goal.field-requires
field-requires c =
    let b = c.args.body.now in
    let l = c.loop-j in
    let k : l._j < length (given_of b) = omega (arith, c.loop-j-test.true, c.class_count-n.ensures) in
    let t = turn b l._j l.at l.invariant.0 k in
    omega (arith, t.head)

pub overflow_add-at : goal.overflow_add-at
overflow_add-at c =
    let b = c.args.body.now in
    let l = c.loop-j in
    let k : l._j < length (given_of b) = omega (arith, c.loop-j-test.true, c.class_count-n.ensures) in
    let t = turn b l._j l.at l.invariant.0 k in
    let h = t.head in
    search rules

pub wide_field-requires : goal.wide_field-requires
wide_field-requires c =
    let b = c.args.body.now in
    let l = c.loop-j in
    let k : l._j < length (given_of b) = omega (arith, c.loop-j-test.true, c.class_count-n.ensures) in
    let t = turn b l._j l.at l.invariant.0 k in
    omega (arith, t.head)

pub returns-then-not-known_flavour : goal.returns-then-not-known_flavour
unfolding flavours_known
returns-then-not-known_flavour c =
    let b = c.args.body.now in
    let l = c.loop-j in
    let k : l._j < length (given_of b) = omega (arith, c.loop-j-test.true, c.class_count-n.ensures) in
    let t = turn b l._j l.at l.invariant.0 k in
    each-stops (Known b) (length (given_of b)) l._j k (known_at b l._j l.at t c.from.result c.wide_field.result (c.from.ensures ∙ c.field.ensures) c.wide_field.ensures ∙ sym c.known_flavour.ensures ∙ c.if-not-known_flavour.true)

pub member_count-requires : goal.member_count-requires
member_count-requires c =
    let b = c.args.body.now in
    let l = c.loop-j in
    let k : l._j < length (given_of b) = omega (arith, c.loop-j-test.true, c.class_count-n.ensures) in
    let t = turn b l._j l.at l.invariant.0 k in
    t.head

pub overflow_add-at-in-loop-j-2 : goal.overflow_add-at-in-loop-j-2
overflow_add-at-in-loop-j-2 c =
    let b = c.args.body.now in
    let l = c.loop-j in
    let k : l._j < length (given_of b) = omega (arith, c.loop-j-test.true, c.class_count-n.ensures) in
    let t = turn b l._j l.at l.invariant.0 k in
    let h = t.whole in
    search rules

pub loop-j-preserved : goal.loop-j-preserved
loop-j-preserved c =
    let b = c.args.body.now in
    let l = c.loop-j in
    let k : l._j < length (given_of b) = omega (arith, c.loop-j-test.true, c.class_count-n.ensures) in
    let t = turn b l._j l.at l.invariant.0 k in
    (rw c.member_count.ensures.0 t.next, each_more (Known b) l._j l.invariant.1 (known_at b l._j l.at t c.from.result c.wide_field.result (c.from.ensures ∙ c.field.ensures) c.wide_field.ensures ∙ sym c.known_flavour.ensures ∙ c.if-not-known_flavour.false))

pub returns : goal.returns
unfolding flavours_known
returns c =
    let b = c.args.body.now in
    let l = c.loop-j in
    each-ends (Known b) (length (given_of b)) l._j l.invariant.0.below (omega (arith, c.loop-j-test.false, c.class_count-n.ensures)) l.invariant.1

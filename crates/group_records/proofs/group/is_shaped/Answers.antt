-- `group_records::group::is_shaped` meets its contract.
use Prim.Native.Nat.{◌<◌}
use mathlib.Core.Path.{sym, ◌∙◌}
use native.Mathlib.Omega.{arith}
use Rattle.group_records.proofs.Shape.{shape_short, shape_start, shape_stop, shape_step, shape_room, shape_head, shape_end}
use borrow.Author.Rules.{rules}
use Rattle.group_records.proofs.group.is_shaped.Goals as goal

pub returns-then-body-lt2 : goal.returns-then-body-lt2
returns-then-body-lt2 c =
    shape_short c.args.body.now (search rules)

pub loop-j-init : goal.loop-j-init
loop-j-init c =
    let b = c.args.body.now in
    (search rules, shape_start b c.index-n.result (search rules) (c.index-n.ensures.0 ∙ c.field.ensures))

pub returns-then-not-class_fits : goal.returns-then-not-class_fits
returns-then-not-class_fits c =
    let b = c.args.body.now in
    let l = c.loop-j in
    shape_stop b c.index-n.result l.at l._j (search rules) l.invariant.0 (sym c.class_fits.ensures ∙ c.if-not-class_fits.true) ∙ sym l.invariant.1

pub member_count-requires : goal.member_count-requires
member_count-requires c =
    let b = c.args.body.now in
    shape_head b c.loop-j.at (sym c.class_fits.ensures ∙ c.if-not-class_fits.false)

pub overflow_add-at-in-loop-j : goal.overflow_add-at-in-loop-j
overflow_add-at-in-loop-j c =
    let b = c.args.body.now in
    let r = shape_room b c.loop-j.at c.member_count.result c.member_count.ensures.0 (sym c.class_fits.ensures ∙ c.if-not-class_fits.false) in
    search rules

pub loop-j-preserved : goal.loop-j-preserved
loop-j-preserved c =
    let b = c.args.body.now in
    let l = c.loop-j in
    let t = sym c.class_fits.ensures ∙ c.if-not-class_fits.false in
    let r = shape_room b l.at c.member_count.result c.member_count.ensures.0 t in
    let k : l._j < c.index-n.result = search rules in
    (omega arith, l.invariant.1 ∙ shape_step b c.index-n.result l.at l._j c.member_count.result k l.invariant.0 c.member_count.ensures.0 t)

pub returns : goal.returns
returns c =
    let b = c.args.body.now in
    let l = c.loop-j in
    shape_end b c.index-n.result l.at l._j (search rules) l.invariant.0 ∙ sym l.invariant.1

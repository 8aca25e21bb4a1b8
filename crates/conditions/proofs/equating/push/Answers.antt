-- `conditions::equating::push` meets its contract.
use mathlib.Core.Bool.{false}
use mathlib.Core.Path.{ap, ◌∙◌}
use native.Mathlib.Omega.{arith}
use Rattle.arena.specs.Node.{node_at}
use Rattle.arena.specs.Layout.{decode as nodes}
use Rattle.classes.specs.Class.{Class, carried, single}
use Rattle.classes.specs.Group.{merged_at}
use Rattle.classes.specs.Layout.{encode, decode}
use Rattle.classes.proofs.OneClass.{alone, one-coded, one-count, one_size, one-is}
use Rattle.conditions.proofs.ConstantLaws.{refusal_is, accepted-is, push-full, push-room}
use Rattle.conditions.proofs.equating.push.Goals as goal

pub returns-then-g : goal.returns-then-g
unfolding single
returns-then-g c =
    let h = c.requires.0.0 in
    let k = carried (node_at (nodes c.args.cells.now) c.args.e) in
    refusal_is c.args.g h.coded c.refusal.result false (merged_at (decode c.args.g) c.args.i (alone c.args.e k)) c.refusal.ensures (push-full c.args.g h.coded c.args.i c.requires.0.1 c.args.e k c.if-g.true)

pub merge_class_at_idx-more-requires : goal.merge_class_at_idx-more-requires
unfolding single
merge_class_at_idx-more-requires c =
    let h = c.requires.0.0 in
    let k = carried (node_at (nodes c.args.cells.now) c.args.e) in
    let o = c.single_group-one.result in
    let p = c.single_group-one.ensures in
    ((h.coded, c.requires.0.1), ((one-coded o c.args.e k p, one-count o c.args.e k p), omega (arith, one_size o c.args.e k p, c.if-g.false, h.high)))

pub returns : goal.returns
unfolding single
returns c =
    let h = c.requires.0.0 in
    let k = carried (node_at (nodes c.args.cells.now) c.args.e) in
    let q = one-is c.single_group-one.result c.args.e k c.single_group-one.ensures in
    accepted-is c.args.g h.coded false (merged_at (decode c.args.g) c.args.i (alone c.args.e k)) c.merge_class_at_idx-more.result (push-room c.args.g h.coded c.args.i c.requires.0.1 c.args.e k c.if-g.false) (c.merge_class_at_idx-more.ensures ∙ ap (λ (d : Class). encode c.args.g.limit (merged_at (decode c.args.g) c.args.i d)) q)

-- `conditions::constants::push_constant` meets its contract.
use mathlib.Core.Bool.{false}
use mathlib.Core.Path.{ap, ◌∙◌}
use native.Mathlib.Omega.{arith}
use Rattle.classes.specs.declared.Constant.TheVariants.{NoConstant as no_constant}
use Rattle.classes.specs.Class.{Class}
use Rattle.classes.specs.Group.{merged_at}
use Rattle.classes.specs.Layout.{encode, decode}
use Rattle.classes.proofs.OneClass.{alone, one-coded, one-count, one_size, one-is}
use Rattle.conditions.proofs.ConstantLaws.{refusal_is, accepted-is, push-full, push-room}
use Rattle.conditions.proofs.constants.push_constant.Goals as goal

pub returns-then-g : goal.returns-then-g
returns-then-g c =
    refusal_is c.args.g c.requires.0.0 c.refusal.result false (merged_at (decode c.args.g) c.args.i (alone c.args.e no_constant)) c.refusal.ensures (push-full c.args.g c.requires.0.0 c.args.i c.requires.0.1 c.args.e no_constant c.if-g.true)

pub merge_class_at_idx-requires : goal.merge_class_at_idx-requires
merge_class_at_idx-requires c =
    let o = c.one_class-one.result in
    let p = c.one_class-one.ensures in
    (c.requires.0, ((one-coded o c.args.e no_constant p, one-count o c.args.e no_constant p), omega (arith, one_size o c.args.e no_constant p, c.if-g.false, c.requires.1)))

pub returns : goal.returns
returns c =
    let q = one-is c.one_class-one.result c.args.e no_constant c.one_class-one.ensures in
    accepted-is c.args.g c.requires.0.0 false (merged_at (decode c.args.g) c.args.i (alone c.args.e no_constant)) c.merge_class_at_idx.result (push-room c.args.g c.requires.0.0 c.args.i c.requires.0.1 c.args.e no_constant c.if-g.false) (c.merge_class_at_idx.ensures ∙ ap (λ (d : Class). encode c.args.g.limit (merged_at (decode c.args.g) c.args.i d)) q)

-- `conditions::constants::open_constant` meets its contract.
use mathlib.Core.Bool.{false}
use mathlib.Core.List.{[], ◌∷◌, ◌++◌}
use mathlib.Core.Path.{ap, ◌∙◌}
use native.Mathlib.Omega.{arith}
use Rattle.classes.specs.Class.{Class}
use Rattle.classes.specs.Layout.{encode, decode}
use Rattle.classes.proofs.OneClass.{alone, one-coded, one-count, one_size, one-is}
use Rattle.conditions.proofs.ConstantLaws.{refusal_is, accepted-is, open-many, open_full, open-room}
use Rattle.conditions.proofs.constants.open_constant.Goals as goal

pub returns-then-g-ge64 : goal.returns-then-g-ge64
returns-then-g-ge64 c =
    let k = c.args.constant in
    refusal_is c.args.g c.requires.0 c.refusal.result false (decode c.args.g ++ (alone c.args.e k ∷ [])) c.refusal.ensures (open-many c.args.g c.requires.0 c.args.e k c.if-g-ge64.true)

pub returns-then-g : goal.returns-then-g
returns-then-g c =
    let k = c.args.constant in
    refusal_is c.args.g c.requires.0 c.refusal-then-g.result false (decode c.args.g ++ (alone c.args.e k ∷ [])) c.refusal-then-g.ensures (open_full c.args.g c.requires.0 c.args.e k c.if-g.true)

pub add_class-requires : goal.add_class-requires
add_class-requires c =
    let k = c.args.constant in
    let o = c.one_class-one.result in
    let p = c.one_class-one.ensures in
    (record { out-coded = c.requires.0; src_coded = one-coded o c.args.e k p; there = one-count o c.args.e k p; members = omega (arith, one_size o c.args.e k p, c.if-g.false, c.requires.1) }, c.if-g-ge64.false)

pub returns : goal.returns
returns c =
    let k = c.args.constant in
    let q = one-is c.one_class-one.result c.args.e k c.one_class-one.ensures in
    accepted-is c.args.g c.requires.0 false (decode c.args.g ++ (alone c.args.e k ∷ [])) c.add_class.result (open-room c.args.g c.requires.0 c.args.e k c.if-g-ge64.false c.if-g.false) (c.add_class.ensures ∙ ap (λ (d : Class). encode c.args.g.limit (decode c.args.g ++ (d ∷ []))) q)

-- `conditions::equating::open_class` meets its contract.
use mathlib.Core.Bool.{true}
use mathlib.Core.List.{[], ◌∷◌, ◌++◌}
use mathlib.Core.Path.{sym, ap, ◌∙◌}
use native.Mathlib.Omega.{arith}
use Rattle.arena.specs.Node.{node_at}
use Rattle.arena.specs.Layout.{decode as nodes}
use Rattle.classes.specs.Class.{Class, carried, single}
use Rattle.classes.specs.Group.{pair}
use Rattle.classes.specs.Layout.{encode, decode}
use Rattle.classes.proofs.OneClass.{one-coded, one-count, one_size, one-is}
use Rattle.conditions.proofs.ConstantLaws.{refusal_is, accepted-is, more-many, more-full, more_room}
use Rattle.conditions.proofs.EquatingLaws.{pair_same, pair-two, pair_one, pair-both, pair-filled, last-asks, last-is}
use Rattle.conditions.proofs.equating.open_class.Goals as goal

pub returns-then-g-ge64 : goal.returns-then-g-ge64
returns-then-g-ge64 c =
    let g = c.args.g in
    let h = c.requires.0 in
    let ns = nodes c.args.cells.now in
    let pr = pair ns c.args.a c.args.b in
    refusal_is g h.coded c.refusal.result true (decode g ++ (pr ∷ [])) c.refusal.ensures (more-many g h.coded pr c.if-g-ge64.true)

pub returns-then-g : goal.returns-then-g
returns-then-g c =
    let g = c.args.g in
    let h = c.requires.0 in
    let ns = nodes c.args.cells.now in
    let pr = pair ns c.args.a c.args.b in
    refusal_is g h.coded c.refusal-then-g.result true (decode g ++ (pr ∷ [])) c.refusal-then-g.ensures (more-full g h.coded pr (omega (arith, c.if-g.true, pair-filled ns c.args.a c.args.b)))

pub add_class-next-requires : goal.add_class-next-requires
unfolding single
add_class-next-requires c =
    let h = c.requires.0 in
    let ns = nodes c.args.cells.now in
    let pr = pair ns c.args.a c.args.b in
    let k = carried (node_at ns c.args.a) in
    let o = c.single_group-one.result in
    let p = c.single_group-one.ensures in
    (record { out-coded = h.coded; src_coded = one-coded o c.args.a k p; there = one-count o c.args.a k p; members = omega (arith, one_size o c.args.a k p, c.if-g.false, h.high) }, c.if-g-ge64.false)

pub returns-then-a-b : goal.returns-then-a-b
unfolding single
returns-then-a-b c =
    let g = c.args.g in
    let h = c.requires.0 in
    let ns = nodes c.args.cells.now in
    let pr = pair ns c.args.a c.args.b in
    let k = carried (node_at ns c.args.a) in
    let o = c.single_group-one in
    let q = one-is o.result c.args.a k o.ensures ∙ sym (pair_same ns c.args.a c.args.b c.if-a-b.true) in
    accepted-is g h.coded true (decode g ++ (pr ∷ [])) c.add_class-next.result (more_room g h.coded pr c.if-g-ge64.false (omega (arith, pair_one ns c.args.a c.args.b c.if-a-b.true, c.if-g.false))) (c.add_class-next.ensures ∙ ap (λ (d : Class). encode g.limit (decode g ++ (d ∷ []))) q)

pub returns-then-g-2 : goal.returns-then-g-2
returns-then-g-2 c =
    let g = c.args.g in
    let h = c.requires.0 in
    let ns = nodes c.args.cells.now in
    let pr = pair ns c.args.a c.args.b in
    refusal_is g h.coded c.refusal-then-g-2.result true (decode g ++ (pr ∷ [])) c.refusal-then-g-2.ensures (more-full g h.coded pr (omega (arith, c.if-g-2.true, pair-both ns c.args.a c.args.b c.if-a-b.false)))

pub merge_last-requires : goal.merge_last-requires
unfolding single
merge_last-requires c =
    let g = c.args.g in
    let h = c.requires.0 in
    let ns = nodes c.args.cells.now in
    let pr = pair ns c.args.a c.args.b in
    let k = carried (node_at ns c.args.a) in
    let m = carried (node_at ns c.args.b) in
    let o = c.single_group-one in
    let t = c.add_class-next in
    let q = one-is o.result c.args.a k o.ensures in
    let n = t.ensures ∙ ap (λ (d : Class). encode g.limit (decode g ++ (d ∷ []))) q in
    last-asks g h.coded c.args.a k t.result n c.if-g-ge64.false (omega (arith, c.if-g-2.false, h.high)) c.single_group-other.result c.args.b m c.single_group-other.ensures

pub returns : goal.returns
unfolding single
returns c =
    let g = c.args.g in
    let h = c.requires.0 in
    let ns = nodes c.args.cells.now in
    let pr = pair ns c.args.a c.args.b in
    let k = carried (node_at ns c.args.a) in
    let m = carried (node_at ns c.args.b) in
    let o = c.single_group-one in
    let t = c.add_class-next in
    let q = one-is o.result c.args.a k o.ensures in
    let n = t.ensures ∙ ap (λ (d : Class). encode g.limit (decode g ++ (d ∷ []))) q in
    let u = last-is g h.coded c.args.a k t.result n c.if-g-ge64.false (omega (arith, c.if-g-2.false, h.high)) c.single_group-other.result c.args.b m c.single_group-other.ensures c.merge_last.result c.merge_last.ensures in
    accepted-is g h.coded true (decode g ++ (pr ∷ [])) c.merge_last.result (more_room g h.coded pr c.if-g-ge64.false (omega (arith, pair-both ns c.args.a c.args.b c.if-a-b.false, c.if-g-2.false))) (u ∙ ap (λ (d : Class). encode g.limit (decode g ++ (d ∷ []))) (sym (pair-two ns c.args.a c.args.b c.if-a-b.false)))

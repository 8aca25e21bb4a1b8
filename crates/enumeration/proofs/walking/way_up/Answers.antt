-- `enumeration::walking::way_up` meets its contract.
use Prim.Native.Nat.{◌-◌, ◌<◌}
use mathlib.Core.List.{[]}
use mathlib.Core.Path.{sym, ap, ◌∙◌}
use native.Mathlib.Omega.{arith}
use Rattle.arena.proofs.Refusals.{handed-on}
use Rattle.orderings.proofs.Extending.{row-short}
use Rattle.dependencies.specs.declared.DependencyNode.{DependencyNode}
use Rattle.enumeration.specs.Inner.{frame_at}
use Rattle.enumeration.proofs.Turns.{node-is, frame_below, depth_few, climbing_begins, climbing-room, climbing_on, climbing_stops, climbing_ends}
use borrow.Author.Rules.{rules}
use Rattle.enumeration.proofs.walking.way_up.Goals as goal

pub push-requires : goal.push-requires
push-requires c = rw c.nothing.ensures (row-short [] (omega arith))

pub returns-in_err-out : goal.returns-in_err-out
returns-in_err-out c = climbing-room c.args.m c.args.walk c.args.target c.nothing.result c.nothing.ensures _ _ c.in_err-out.ensures

pub loop-i-init : goal.loop-i-init
loop-i-init c = climbing_begins c.args.m c.args.walk c.args.target c.nothing.result c.nothing.ensures _ c.in_ok-out.ensures

pub offset_bounds-walk-i : goal.offset_bounds-walk-i
offset_bounds-walk-i c =
    omega (arith, c.loop-i.invariant.below, depth_few c.args.m c.args.walk c.requires)

pub bounds-walk-i : goal.bounds-walk-i
bounds-walk-i c =
    omega (arith, c.loop-i.invariant.below, depth_few c.args.m c.args.walk c.requires)

pub offset_bounds-m-place : goal.offset_bounds-m-place
offset_bounds-m-place c =
    omega (arith, frame_below c.args.m c.args.walk c.requires (c.loop-i.i - 1) (omega (arith, c.loop-i.invariant.below)))

pub bounds-m-place : goal.bounds-m-place
bounds-m-place c =
    frame_below c.args.m c.args.walk c.requires (c.loop-i.i - 1) (omega (arith, c.loop-i.invariant.below))

pub push-requires-in-loop-i : goal.push-requires-in-loop-i
push-requires-in-loop-i c = c.loop-i.invariant.short

pub returns-in_err-out-2 : goal.returns-in_err-out-2
returns-in_err-out-2 c =
    let l = c.loop-i in
    let up : 0 < l.i = search rules in
    let f = c.requires.framed (l.i - 1) (omega (arith, l.invariant.below)) in
    let target = sym (ap (λ (r : DependencyNode). r.target) (node-is c.args.m c.requires.map (frame_at c.args.walk (l.i - 1)).place f.there)) in
    handed-on _ _ c.from_residual-in_err-out-2.ensures.1 ∙ climbing_stops c.args.m c.args.walk c.args.target l.i l.out l.invariant up _ target _ c.in_err-out-2.ensures

pub loop-i-preserved : goal.loop-i-preserved
loop-i-preserved c =
    let l = c.loop-i in
    let up : 0 < l.i = search rules in
    let f = c.requires.framed (l.i - 1) (omega (arith, l.invariant.below)) in
    let target = sym (ap (λ (r : DependencyNode). r.target) (node-is c.args.m c.requires.map (frame_at c.args.walk (l.i - 1)).place f.there)) in
    climbing_on c.args.m c.args.walk c.args.target l.i l.out l.invariant up _ target _ c.in_ok-out-2.ensures

pub returns : goal.returns
returns c =
    let l = c.loop-i in
    climbing_ends c.args.m c.args.walk c.args.target l.i l.out l.invariant (search rules)

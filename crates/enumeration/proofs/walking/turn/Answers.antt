-- `enumeration::walking::turn` meets its contract.
use Prim.Native.Nat.{◌-◌}
use mathlib.Core.Path.{ap}
use native.Mathlib.Omega.{arith}
use Rattle.dependencies.specs.declared.DependencyNode.{DependencyNode}
use Rattle.enumeration.specs.Inner.{frame_at, turned}
use Rattle.enumeration.proofs.Turns.{frame_below, depth_few, top-framed, top-node, marks-are, opened-is, went_up, read-asks, went-read}
use Rattle.enumeration.proofs.walking.turn.Goals as goal

pub offset_bounds-walk-at : goal.offset_bounds-walk-at
offset_bounds-walk-at c = omega (arith, depth_few c.args.m c.args.walk.now c.requires.0)

pub bounds-walk-at : goal.bounds-walk-at
bounds-walk-at c = omega (arith, depth_few c.args.m c.args.walk.now c.requires.0, c.requires.1)

pub offset_bounds-m-place : goal.offset_bounds-m-place
offset_bounds-m-place c =
    let m = c.args.m in
    let e = c.args.walk.now in
    let w = c.requires.0 in
    omega (arith, frame_below m e w (e.depth - 1) (omega arith))

pub bounds-m-place : goal.bounds-m-place
bounds-m-place c =
    let m = c.args.m in
    let e = c.args.walk.now in
    let w = c.requires.0 in
    frame_below m e w (e.depth - 1) (omega arith)

pub offset_bounds-walk-place : goal.offset_bounds-walk-place
offset_bounds-walk-place c =
    let m = c.args.m in
    let e = c.args.walk.now in
    let w = c.requires.0 in
    omega (arith, frame_below m e w (e.depth - 1) (omega arith))

pub bounds-walk-place : goal.bounds-walk-place
bounds-walk-place c =
    let m = c.args.m in
    let e = c.args.walk.now in
    let w = c.requires.0 in
    frame_below m e w (e.depth - 1) (omega arith)

pub next_open-k-requires : goal.next_open-k-requires
next_open-k-requires c =
    let m = c.args.m in
    let e = c.args.walk.now in
    let w = c.requires.0 in
    let up = c.requires.1 in
    let z = ap (λ (r : DependencyNode). r.size) (top-node m e w up) in
    let f = top-framed m e w up in
    (omega (arith, z, f.next), omega (arith, z, (w.map.entries (frame_at e (e.depth - 1)).place f.there).short))

pub returns-then-node-k : goal.returns-then-node-k
unfolding turned
returns-then-node-k c =
    let m = c.args.m in
    let e = c.args.walk.now in
    let w = c.requires.0 in
    let up = c.requires.1 in
    let k = c.next_open-k in
    let q = top-node m e w up in
    let o = opened-is m e w up k.result _ _ q (marks-are m e w up) k.ensures in
    went_up m e w up k.result o (omega (arith, c.if-node-k.true, ap (λ (r : DependencyNode). r.size) q))

pub offset_bounds-node-k : goal.offset_bounds-node-k
offset_bounds-node-k c =
    let m = c.args.m in
    let e = c.args.walk.now in
    let w = c.requires.0 in
    let up = c.requires.1 in
    let z = ap (λ (r : DependencyNode). r.size) (top-node m e w up) in
    omega (arith, c.next_open-k.ensures.high, z, (w.map.entries (frame_at e (e.depth - 1)).place (top-framed m e w up).there).short)

pub bounds-node-k : goal.bounds-node-k
bounds-node-k c =
    let m = c.args.m in
    let e = c.args.walk.now in
    let w = c.requires.0 in
    let up = c.requires.1 in
    let z = ap (λ (r : DependencyNode). r.size) (top-node m e w up) in
    omega (arith, c.if-node-k.false, z, (w.map.entries (frame_at e (e.depth - 1)).place (top-framed m e w up).there).short)

pub overflow_add-walk : goal.overflow_add-walk
overflow_add-walk c =
    let m = c.args.m in
    let e = c.args.walk.now in
    let w = c.requires.0 in
    let up = c.requires.1 in
    let z = ap (λ (r : DependencyNode). r.size) (top-node m e w up) in
    omega (arith, c.next_open-k.ensures.high, z, (w.map.entries (frame_at e (e.depth - 1)).place (top-framed m e w up).there).short)

pub offset_bounds-walk-at-2 : goal.offset_bounds-walk-at-2
offset_bounds-walk-at-2 c =
    let m = c.args.m in
    let e = c.args.walk.now in
    let w = c.requires.0 in
    omega (arith, depth_few m e w)

pub bounds-walk-at-2 : goal.bounds-walk-at-2
bounds-walk-at-2 c =
    let m = c.args.m in
    let e = c.args.walk.now in
    let w = c.requires.0 in
    let up = c.requires.1 in
    omega (arith, depth_few m e w, up)

pub enter-requires : goal.enter-requires
enter-requires c =
    let m = c.args.m in
    let e = c.args.walk.now in
    let w = c.requires.0 in
    let up = c.requires.1 in
    let k = c.next_open-k in
    let q = top-node m e w up in
    let o = opened-is m e w up k.result _ _ q (marks-are m e w up) k.ensures in
    read-asks m e w up k.result o (omega (arith, c.if-node-k.false, ap (λ (r : DependencyNode). r.size) q)) _ q c.mark.result c.mark.ensures

pub returns : goal.returns
returns c =
    let m = c.args.m in
    let e = c.args.walk.now in
    let w = c.requires.0 in
    let up = c.requires.1 in
    let k = c.next_open-k in
    let q = top-node m e w up in
    let o = opened-is m e w up k.result _ _ q (marks-are m e w up) k.ensures in
    went-read m e w up k.result o (omega (arith, c.if-node-k.false, ap (λ (r : DependencyNode). r.size) q)) _ q c.mark.result c.mark.ensures (turned c.enter.new.walk c.enter.result) c.enter.ensures

-- `products::ordering::chain` meets its contract.
use Prim.Native.Nat.{◌<◌, ◌≤◌}
use native.Mathlib.Omega.{arith}
use mathlib.Core.Path.{◌∙◌}
use Rattle.arena.proofs.Refusals.{handed-on}
use Rattle.products.proofs.Chains.{chaining_begins, chaining_on, chaining_stops, chaining_ends, in_order, in_order-length, read_at, read_short, read_is}
use borrow.Author.Rules.{rules}
use Rattle.products.proofs.ordering.chain.Goals as goal

pub offset_bounds-choice-order : goal.offset_bounds-choice-order
offset_bounds-choice-order c =
    let b = c.requires.1 0 (omega (arith, c.requires.0.0.some, c.requires.0.1)) in
    search rules

pub bounds-choice-order : goal.bounds-choice-order
bounds-choice-order c =
    omega (arith, c.requires.1 0 (omega (arith, c.requires.0.0.some, c.requires.0.1)), c.requires.0.0.few)

pub loop-i-init : goal.loop-i-init
loop-i-init c =
    let some : 0 < c.args.order.size = omega (arith, c.requires.0.0.some, c.requires.0.1) in
    let h = c.requires.0.0 in
    let r = read_at c.args.choice c.args.order 0 in
    chaining_begins (in_order c.args.choice c.args.order) r (omega (arith, in_order-length c.args.choice c.args.order)) (read_short c.args.choice c.args.order h 0 some (c.requires.1 0 some)) (read_is c.args.choice c.args.order h 0 some (c.requires.1 0 some))

pub offset_bounds-choice-order-in-loop-i : goal.offset_bounds-choice-order-in-loop-i
offset_bounds-choice-order-in-loop-i c =
    let l = c.loop-i in
    let in_it : l.i < c.args.order.size = search rules in
    let b = c.requires.1 l.i in_it in
    search rules

pub bounds-choice-order-in-loop-i : goal.bounds-choice-order-in-loop-i
bounds-choice-order-in-loop-i c =
    let l = c.loop-i in
    let in_it : l.i < c.args.order.size = search rules in
    omega (arith, c.requires.1 l.i in_it, c.requires.0.0.few)

pub extend-requires : goal.extend-requires
extend-requires c =
    let l = c.loop-i in
    let in_it : l.i < c.args.order.size = search rules in
    (l.invariant.short, read_short c.args.choice c.args.order c.requires.0.0 l.i in_it (c.requires.1 l.i in_it))

pub returns-in_err-out : goal.returns-in_err-out
returns-in_err-out c =
    let l = c.loop-i in
    let h = c.requires.0.0 in
    let in_it : l.i < c.args.order.size = search rules in
    handed-on _ _ c.from_residual.ensures.1
    ∙ chaining_stops (in_order c.args.choice c.args.order) l.i l.out l.invariant (read_at c.args.choice c.args.order l.i) (omega (arith, in_order-length c.args.choice c.args.order)) (read_is c.args.choice c.args.order h l.i in_it (c.requires.1 l.i in_it)) _ c.in_err-out.ensures

pub loop-i-preserved : goal.loop-i-preserved
loop-i-preserved c =
    let l = c.loop-i in
    let h = c.requires.0.0 in
    let in_it : l.i < c.args.order.size = search rules in
    chaining_on (in_order c.args.choice c.args.order) l.i l.out l.invariant (read_at c.args.choice c.args.order l.i) (omega (arith, in_order-length c.args.choice c.args.order)) (read_is c.args.choice c.args.order h l.i in_it (c.requires.1 l.i in_it)) _ c.in_ok-out.ensures

pub returns : goal.returns
returns c =
    let l = c.loop-i in
    let out : c.args.order.size ≤ l.i = search rules in
    chaining_ends (in_order c.args.choice c.args.order) l.i l.out l.invariant (omega (arith, in_order-length c.args.choice c.args.order))

-- `group_records::group::numbers_apart` meets its contract.
use Prim.Native.Nat.{◌<◌}
use native.Mathlib.Omega.{arith}
use lib.ListN.{length, get_or}
use Rattle.laws.proofs.Each.{each_none, each_more, each-stops, each-ends}
use Rattle.classes.specs.Layout.{fresh}
use Rattle.group_records.proofs.Apart.{seen_none, seen_more, seen-fresh, seen_stale}
use borrow.Author.Rules.{rules}
use Rattle.group_records.proofs.group.numbers_apart.Goals as goal

pub loop-x-init : goal.loop-x-init
loop-x-init c =
    let x = c.args.numbers.now in
    (each_none (fresh x), seen_none x)

pub bounds-seen-e : goal.bounds-seen-e
bounds-seen-e c =
    let x = c.args.numbers.now in
    let l = c.loop-x in
    let b : l.x-index < length x = search rules in
    let h : get_or x l.x-index 0 < 65536 = c.requires l.x-index b in
    search rules

pub returns-then-seen-e-ne0 : goal.returns-then-seen-e-ne0
returns-then-seen-e-ne0 c =
    let x = c.args.numbers.now in
    let l = c.loop-x in
    let b : l.x-index < length x = search rules in
    each-stops (fresh x) (length x) l.x-index b (seen_stale x l.seen l.x-index l.invariant.1 (let n = rw c.wide-e.ensures at c.if-seen-e-ne0.true in omega arith))

pub bounds-seen-e-in-loop-x : goal.bounds-seen-e-in-loop-x
bounds-seen-e-in-loop-x c =
    let x = c.args.numbers.now in
    let l = c.loop-x in
    let b : l.x-index < length x = search rules in
    let h : get_or x l.x-index 0 < 65536 = c.requires l.x-index b in
    search rules

pub loop-x-preserved : goal.loop-x-preserved
loop-x-preserved c =
    let x = c.args.numbers.now in
    let l = c.loop-x in
    let b : l.x-index < length x = search rules in
    let h : get_or x l.x-index 0 < 65536 = c.requires l.x-index b in
    (each_more (fresh x) l.x-index l.invariant.0 (seen-fresh x l.seen l.x-index l.invariant.1 (rw c.wide-e.ensures at c.if-seen-e-ne0.false)), rw c.wide-e.ensures (seen_more x l.seen l.x-index l.invariant.1 h))

pub returns : goal.returns
returns c =
    let x = c.args.numbers.now in
    let l = c.loop-x in
    each-ends (fresh x) (length x) l.x-index (search rules) (search rules) l.invariant.0

-- `sort_keys::keys::sort_all` meets its contract.
use Prim.Native.Nat.{◌/◌, ◌<◌}
use mathlib.Core.Path.{◌≡◌}
use native.Mathlib.Omega.{arith}
use lib.ListN.{length}
use Rattle.arena.proofs.Refusals.{handed-on}
use Rattle.sort_keys.proofs.KeyLaws.{key-place}
use Rattle.sort_keys.proofs.Sorting.{sorted-begins, key-ready, key-known, sorted_more, sorted_fails, sorted-ends}
use Rattle.sort_keys.proofs.keys.sort_all.Goals as goal

pub loop-k-init : goal.loop-k-init
loop-k-init c =
    sorted-begins c.args.old c.args.firsts.now c.args.marks.now c.args.cells.now c.args.memo.now c.args.keys.now c.requires c.no_keys-out.result c.no_keys-out.ensures

pub bounds-keys-k : goal.bounds-keys-k
bounds-keys-k c =
    omega (arith, key-place (length c.args.keys.now) c.loop-k.k c.loop-k-test.true)

pub normalize-requires : goal.normalize-requires
normalize-requires c =
    let o = c.loop-k in
    let l : o.k < length c.args.keys.now / 2 = c.loop-k-test.true in
    key-ready c.args.old c.args.firsts.now c.args.marks.now c.args.cells.now c.args.memo.now c.args.keys.now c.requires o.cells o.memo o.out o.k o.invariant l

pub returns-in_err-e : goal.returns-in_err-e
returns-in_err-e c =
    let o = c.loop-k in
    let l : o.k < length c.args.keys.now / 2 = c.loop-k-test.true in
    rw (handed-on _ _ c.from_residual.ensures.1) (sorted_fails c.args.old c.args.firsts.now c.args.marks.now c.args.cells.now c.args.memo.now c.args.keys.now c.requires o.cells o.memo o.out o.k o.invariant l c.normalize.new.cells c.normalize.new.memo c.normalize.result _ c.in_err-e.was c.normalize.ensures)

pub bounds-keys-k-in-loop-k : goal.bounds-keys-k-in-loop-k
bounds-keys-k-in-loop-k c =
    key-place (length c.args.keys.now) c.loop-k.k c.loop-k-test.true

pub keep-out-requires : goal.keep-out-requires
keep-out-requires c =
    let o = c.loop-k in
    let l : o.k < length c.args.keys.now / 2 = c.loop-k-test.true in
    key-known c.args.old c.args.firsts.now c.args.marks.now c.args.cells.now c.args.memo.now c.args.keys.now c.requires o.cells o.memo o.out o.k o.invariant l c.normalize.new.cells c.normalize.new.memo c.normalize.result c.in_ok-e.e c.in_ok-e.was c.normalize.ensures

pub loop-k-preserved : goal.loop-k-preserved
loop-k-preserved c =
    let o = c.loop-k in
    let l : o.k < length c.args.keys.now / 2 = c.loop-k-test.true in
    sorted_more c.args.old c.args.firsts.now c.args.marks.now c.args.cells.now c.args.memo.now c.args.keys.now c.requires o.cells o.memo o.out o.k o.invariant l c.normalize.new.cells c.normalize.new.memo c.normalize.result c.in_ok-e.e c.in_ok-e.was c.normalize.ensures c.keep-out.result c.keep-out.ensures

pub returns : goal.returns
returns c =
    let o = c.loop-k in
    let e : o.k ≡ length c.args.keys.now / 2 = omega arith in
    sorted-ends c.args.old c.args.firsts.now c.args.marks.now c.args.cells.now c.args.memo.now c.args.keys.now c.requires o.cells o.memo o.out o.k o.invariant e

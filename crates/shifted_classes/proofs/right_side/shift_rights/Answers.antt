-- `shifted_classes::right_side::shift_rights` meets its contract.
use Prim.Native.Nat.{◌/◌, ◌<◌}
use mathlib.Core.List.{[], ◌∷◌, ◌++◌}
use mathlib.Core.Path.{refl}
use native.Mathlib.Omega.{arith}
use lib.ListN.{length}
use Rattle.shifted_classes.specs.Inner.{rights_lent}
use Rattle.shifted_classes.proofs.PairPlaces.{length-rights, right-at, right-inside}
use Rattle.shifted_classes.proofs.Placings.{walk-begin, walk-ready, walk_more, walk-fail, walk_end}
use Rattle.shifted_classes.proofs.right_side.shift_rights.Goals as goal

pub loop-k-init : goal.loop-k-init
loop-k-init c =
    ([], walk-begin c.args.lift c.args.cells.now c.args.memo.now (rights_lent c.args.pairs.now) c.requires)

pub bounds-pairs-k : goal.bounds-pairs-k
bounds-pairs-k c = omega (arith, right-inside c.args.pairs.now c.loop-k.k (omega (arith, c.loop-k-test.true)))

pub shift-requires : goal.shift-requires
shift-requires c =
    let o = c.loop-k in
    let h : o.k < length c.args.pairs.now / 2 = omega (arith, c.loop-k-test.true) in
    let l : o.k < length (rights_lent c.args.pairs.now) = omega (arith, h, length-rights c.args.pairs.now) in
    walk-ready c.args.lift c.args.cells.now c.args.memo.now (rights_lent c.args.pairs.now) c.requires o.cells o.memo o.invariant.0 o.k o.invariant.1 _ l (right-at c.args.pairs.now o.k h)

pub returns-in-Err : goal.returns-in-Err
returns-in-Err c =
    let o = c.loop-k in
    let w = c.shift in
    let h : o.k < length c.args.pairs.now / 2 = omega (arith, c.loop-k-test.true) in
    let l : o.k < length (rights_lent c.args.pairs.now) = omega (arith, h, length-rights c.args.pairs.now) in (
      (
        [],
        walk-fail c.args.lift c.args.cells.now c.args.memo.now (rights_lent c.args.pairs.now) c.requires o.cells o.memo o.invariant.0 o.k o.invariant.1 _ l (right-at c.args.pairs.now o.k h)
            w.new.cells w.new.memo w.result w.ensures c.in-Err.field-0 c.in-Err.is [],
      ),
      refl,
    )

pub loop-k-preserved : goal.loop-k-preserved
loop-k-preserved c =
    let o = c.loop-k in
    let w = c.shift in
    let e = c.in-Ok.field-0 in
    let h : o.k < length c.args.pairs.now / 2 = omega (arith, c.loop-k-test.true) in
    let l : o.k < length (rights_lent c.args.pairs.now) = omega (arith, h, length-rights c.args.pairs.now) in (
      o.invariant.0 ++ (e ∷ []),
      walk_more c.args.lift c.args.cells.now c.args.memo.now (rights_lent c.args.pairs.now) c.requires o.cells o.memo o.invariant.0 o.k o.invariant.1 _ l (right-at c.args.pairs.now o.k h)
          w.new.cells w.new.memo w.result w.ensures e c.in-Ok.is,
    )

pub returns : goal.returns
returns c =
    let o = c.loop-k in
    ((o.invariant.0, walk_end c.args.lift c.args.cells.now c.args.memo.now (rights_lent c.args.pairs.now) c.requires o.cells o.memo o.invariant.0 o.k o.invariant.1 (omega (arith, c.loop-k-test.false, length-rights c.args.pairs.now))), tt)

-- `joins::joining::equate_pairs` meets its contract.
use Prim.Native.Nat.{◌/◌, ◌<◌}
use mathlib.Core.Path.{◌∙◌}
use native.Mathlib.Omega.{arith}
use lib.ListN.{length}
use Rattle.classes.proofs.Judging.{refusal_is}
use Rattle.shifted_classes.proofs.PairPlaces.{right-inside}
use Rattle.joins.proofs.Joins.{equate-begins, equate-ends, equate-ready, equate-never, equate-same, equate-asks, equate-over, equate-more}
use Rattle.joins.proofs.joining.equate_pairs.Goals as goal

pub loop-k-init : goal.loop-k-init
loop-k-init c =
    equate-begins c.args.lift c.args.cells.now c.args.memo.now c.args.g c.args.pairs.now c.requires

pub bounds-pairs-k : goal.bounds-pairs-k
bounds-pairs-k c = omega (arith, right-inside c.args.pairs.now c.loop-k.k (omega (arith, c.loop-k-test.true)))

pub shift-requires : goal.shift-requires
shift-requires c =
    let o = c.loop-k in
    let l : o.k < length c.args.pairs.now / 2 = omega (arith, c.loop-k-test.true) in
    equate-ready c.args.lift c.args.cells.now c.args.memo.now c.args.g c.args.pairs.now c.requires o.cells o.memo o.out o.k o.invariant l

pub returns-in_default : goal.returns-in_default
returns-in_default c =
    let o = c.loop-k in
    let w = c.shift in
    let l : o.k < length c.args.pairs.now / 2 = omega (arith, c.loop-k-test.true) in
    absurd (equate-never c.args.lift c.args.cells.now c.args.memo.now c.args.g c.args.pairs.now c.requires o.cells o.memo o.out o.k o.invariant l
    w.new.cells w.new.memo w.result w.ensures c.in_default.field-0 c.in_default.is)

pub bounds-pairs-k-in-loop-k : goal.bounds-pairs-k-in-loop-k
bounds-pairs-k-in-loop-k c = omega (arith, right-inside c.args.pairs.now c.loop-k.k (omega (arith, c.loop-k-test.true)))

pub equal_condition_in-next-requires : goal.equal_condition_in-next-requires
equal_condition_in-next-requires c =
    let o = c.loop-k in
    let w = c.shift in
    let l : o.k < length c.args.pairs.now / 2 = omega (arith, c.loop-k-test.true) in
    equate-asks c.args.lift c.args.cells.now c.args.memo.now c.args.g c.args.pairs.now c.requires o.cells o.memo o.out o.k o.invariant l
    w.new.cells w.new.memo w.result w.ensures c.in-Ok.e c.in-Ok.is

pub returns-in-Err : goal.returns-in-Err
returns-in-Err c =
    let o = c.loop-k in
    let w = c.shift in
    let n = c.equal_condition_in-next in
    let l : o.k < length c.args.pairs.now / 2 = omega (arith, c.loop-k-test.true) in (
      equate-same c.args.lift c.args.cells.now c.args.memo.now c.args.g c.args.pairs.now c.requires o.cells o.memo o.out o.k o.invariant l
          w.new.cells w.new.memo w.result w.ensures c.in-Ok.e c.in-Ok.is,
      refusal_is _ c.in-Err.why c.args.g c.refusal-in-Err.ensures
          ∙ equate-over c.args.lift c.args.cells.now c.args.memo.now c.args.g c.args.pairs.now c.requires o.cells o.memo o.out o.k o.invariant l
          w.new.cells w.new.memo w.result w.ensures c.in-Ok.e c.in-Ok.is n.result n.ensures c.in-Err.why c.in-Err.is,
    )

pub loop-k-preserved : goal.loop-k-preserved
loop-k-preserved c =
    let o = c.loop-k in
    let w = c.shift in
    let n = c.equal_condition_in-next in
    let l : o.k < length c.args.pairs.now / 2 = omega (arith, c.loop-k-test.true) in
    equate-more c.args.lift c.args.cells.now c.args.memo.now c.args.g c.args.pairs.now c.requires o.cells o.memo o.out o.k o.invariant l
    w.new.cells w.new.memo w.result w.ensures c.in-Ok.e c.in-Ok.is n.result n.ensures c.in_default-answer.field-0 c.in_default-answer.is

pub made-requires : goal.made-requires
made-requires c = c.loop-k.invariant.held.coded

pub returns : goal.returns
returns c =
    let o = c.loop-k in (
      o.invariant.same,
      c.made.ensures
          ∙ equate-ends c.args.lift c.args.cells.now c.args.memo.now c.args.g c.args.pairs.now c.requires o.cells o.memo o.out o.k o.invariant (omega (arith, c.loop-k-test.false)),
    )

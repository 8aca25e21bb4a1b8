-- `ordering_joins::offsetting::shift_lists` meets its contract.
use mathlib.Core.Path.{sym, subst}
use borrow.Author.Rules.{rules}
use Rattle.std.specs.Prelude.{Result}
use Rattle.arena.specs.declared.Refusal.{Refusal}
use Rattle.orderings.specs.declared.Orderings.{Orderings}
use Rattle.ordering_joins.specs.Inner.{ShiftedLists}
use Rattle.arena.proofs.Refusals.{handed-on}
use Rattle.ordering_joins.proofs.KeyWalk.{few-lists, lists-begin, ordering-ready, list-room, lists-more, lists-fail, lists_end}
use Rattle.ordering_joins.proofs.offsetting.shift_lists.Goals as goal

pub loop-i-init : goal.loop-i-init
loop-i-init c =
    lists-begin c.args.lift c.args.cells.now c.args.memo.now c.args.g c.requires c.no_orderings-list.result c.no_orderings-list.ensures

pub offset_bounds-g-i : goal.offset_bounds-g-i
offset_bounds-g-i c =
    let f = few-lists c.args.lift c.args.cells.now c.args.memo.now c.args.g c.requires in
    search rules

pub bounds-g-i : goal.bounds-g-i
bounds-g-i c =
    let f = few-lists c.args.lift c.args.cells.now c.args.memo.now c.args.g c.requires in
    search rules

pub shift_keys-requires : goal.shift_keys-requires
shift_keys-requires c =
    let o = c.loop-i in
    ordering-ready c.args.lift c.args.cells.now c.args.memo.now c.args.g c.requires o.cells o.memo o.list o.i o.invariant c.loop-i-test.true

pub returns-in_err-one : goal.returns-in_err-one
returns-in_err-one c =
    let o = c.loop-i in
    let w = c.shift_keys in
    subst (λ (r : Result Orderings Refusal). ShiftedLists c.args.lift c.args.cells.now w.new.cells c.args.g r) (sym (handed-on _ _ c.from_residual.ensures.1))
    (lists-fail c.args.lift c.args.cells.now c.args.memo.now c.args.g c.requires o.cells o.memo o.list o.i o.invariant c.loop-i-test.true w.new.cells w.new.memo w.result w.ensures _ c.in_err-one.was)

pub append-list-requires : goal.append-list-requires
append-list-requires c =
    let o = c.loop-i in
    let w = c.shift_keys in
    (o.invariant.short, list-room c.args.lift c.args.cells.now c.args.memo.now c.args.g c.requires o.cells o.memo o.list o.i o.invariant c.loop-i-test.true w.new.cells w.new.memo w.result w.ensures)

pub loop-i-preserved : goal.loop-i-preserved
loop-i-preserved c =
    let o = c.loop-i in
    let w = c.shift_keys in
    lists-more c.args.lift c.args.cells.now c.args.memo.now c.args.g c.requires o.cells o.memo o.list o.i o.invariant c.loop-i-test.true w.new.cells w.new.memo w.result w.ensures c.in_ok-one.one c.in_ok-one.was c.append-list.result c.append-list.ensures

pub returns : goal.returns
returns c =
    let o = c.loop-i in
    lists_end c.args.lift c.args.cells.now c.args.memo.now c.args.g c.requires o.cells o.memo o.list o.i o.invariant c.loop-i-test.false

-- `enumeration::walking::construct_orderings` meets its contract.
use mathlib.Core.Path.{sym, subst}
use native.Mathlib.Omega.{arith}
use Rattle.arena.proofs.Refusals.{handed-on}
use Rattle.enumeration.specs.Inner.{turned, Walked}
use Rattle.enumeration.proofs.Marks.{left-few}
use Rattle.enumeration.proofs.Walks.{first-stops, goes_first, goes-next, walked-stops, walked_all}
use Rattle.enumeration.proofs.walking.construct_orderings.Goals as goal

pub enter-requires : goal.enter-requires
enter-requires c = (c.requires.0.0, omega (arith, c.requires.0.1, left-few c.args.walk))

pub returns-in_err-leaf : goal.returns-in_err-leaf
unfolding turned
returns-in_err-leaf c =
    let x = c.args in
    subst (Walked x.m x.walk x.found x.key) (sym (handed-on _ _ c.from_residual.ensures.1)) (first-stops x.m x.walk x.found x.key c.requires.0.1 _ c.in_err-leaf.ensures)

pub keep-rows-requires : goal.keep-rows-requires
keep-rows-requires c = c.requires.1.few

pub loop-way-init : goal.loop-way-init
unfolding turned
loop-way-init c =
    rw c.keep-rows.ensures (goes_first c.args.m c.args.walk c.args.found c.args.key _ c.requires.1 c.in_ok-leaf.ensures)

pub turn-requires : goal.turn-requires
turn-requires c = (c.loop-way.invariant.walking, c.loop-way-test.true)

pub returns-in_err-next : goal.returns-in_err-next
unfolding turned
returns-in_err-next c =
    let x = c.args in
    let l = c.loop-way in
    subst (Walked x.m x.walk x.found x.key) (sym (handed-on _ _ c.from_residual-in_err-next.ensures.1))
    (walked-stops x.m x.walk x.found x.key _ c.keep-rows.result l.way l.rows c.requires.0.1 c.requires.1 c.in_ok-leaf.ensures c.keep-rows.ensures l.invariant _ c.in_err-next.ensures)

pub keep-rows-requires-in-loop-way : goal.keep-rows-requires-in-loop-way
keep-rows-requires-in-loop-way c = c.loop-way.invariant.room.few

pub loop-way-smaller : goal.loop-way-smaller
unfolding turned
loop-way-smaller c = c.in_ok-next.ensures.less

pub loop-way-preserved : goal.loop-way-preserved
unfolding turned
loop-way-preserved c =
    let l = c.loop-way in
    rw c.keep-rows-in-loop-way.ensures (goes-next c.args.m _ c.keep-rows.result l.way l.rows l.invariant _ c.in_ok-next.ensures)

pub returns : goal.returns
unfolding turned
returns c =
    let x = c.args in
    let l = c.loop-way in
    walked_all x.m x.walk x.found x.key _ c.keep-rows.result l.way l.rows c.requires.0.1 c.requires.1 c.in_ok-leaf.ensures c.keep-rows.ensures l.invariant (omega (arith, c.loop-way-test.false))

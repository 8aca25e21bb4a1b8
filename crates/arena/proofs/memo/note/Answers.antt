-- `arena::memo::note` meets its contract.
use mathlib.Core.Path.{sym, ap}
use native.Mathlib.Omega.{arith}
use Rattle.arena.specs.Inner.{noted}
use Rattle.arena.proofs.memo.note.Goals as goal

pub overflow_add-memo : goal.overflow_add-memo
overflow_add-memo c =
    omega (arith, c.requires.1 c.in-Ok.i c.in-Ok.is)

pub returns-in-Ok : goal.returns-in-Ok
unfolding noted
returns-in-Ok c =
    sym (ap (noted c.args.memo.now c.args.e) c.in-Ok.is)

pub returns-in-Err : goal.returns-in-Err
unfolding noted
returns-in-Err c =
    sym (ap (noted c.args.memo.now c.args.e) c.in-Err.is)

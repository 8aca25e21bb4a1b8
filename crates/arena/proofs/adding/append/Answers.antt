-- `arena::adding::append` meets its contract.
use Prim.Native.Nat.{◌≤◌, ◌<◌}
use native.Mathlib.Omega.{arith}
use borrow.Author.Tests.{lt-ltb, le-ltb}
use Rattle.arena.specs.Layout.{count}
use Rattle.arena.specs.Inner.{appended}
use Rattle.arena.proofs.adding.append.Goals as goal

pub returns-then-n-lt1024 : goal.returns-then-n-lt1024
unfolding appended
returns-then-n-lt1024 c =
    let h : count c.args.cells.now < 1024 = omega (arith, c.node_count-n.ensures) in
    rw (lt-ltb _ _ h) (cc)

pub returns-else-n-lt1024 : goal.returns-else-n-lt1024
unfolding appended
returns-else-n-lt1024 c =
    let h : 1024 ≤ count c.args.cells.now = omega (arith, c.node_count-n.ensures) in
    rw (le-ltb _ _ h)

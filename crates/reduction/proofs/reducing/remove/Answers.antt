-- `reduction::reducing::remove` meets its contract.
use Prim.Native.Nat.{◌-◌}
use native.Mathlib.Omega.{arith}
use borrow.Author.Rules.{rules}
use Rattle.orderings.proofs.Codec.{count-few}
use Rattle.reduction.proofs.Removing.{place-removed}
use Rattle.reduction.proofs.reducing.remove.Goals as goal

pub overflow_sub-last : goal.overflow_sub-last
overflow_sub-last c = let b = count-few c.args.g c.requires.0 in search rules

pub offset_bounds-g-last : goal.offset_bounds-g-last
offset_bounds-g-last c = let b = count-few c.args.g c.requires.0 in search rules

pub bounds-g-last : goal.bounds-g-last
bounds-g-last c = let b = count-few c.args.g c.requires.0 in search rules

pub offset_bounds-out-i : goal.offset_bounds-out-i
offset_bounds-out-i c = let b = count-few c.args.g c.requires.0 in search rules

pub bounds-out-i : goal.bounds-out-i
bounds-out-i c = let b = count-few c.args.g c.requires.0 in search rules

pub offset_bounds-out-last : goal.offset_bounds-out-last
offset_bounds-out-last c = let b = count-few c.args.g c.requires.0 in search rules

pub bounds-out-last : goal.bounds-out-last
bounds-out-last c = let b = count-few c.args.g c.requires.0 in search rules

pub returns : goal.returns
returns c =
    rw c.nothing.ensures (place-removed c.args.g c.requires.0 c.args.i (c.args.g.count - 1) (omega arith) c.requires.1 (omega arith))

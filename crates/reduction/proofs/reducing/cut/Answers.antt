-- `reduction::reducing::cut` meets its contract.
use native.Mathlib.Omega.{arith}
use borrow.Author.Rules.{rules}
use lib.ListN.{take}
use Rattle.orderings.specs.Lists.{ordering_at}
use Rattle.orderings.specs.Layout.{decode}
use Rattle.orderings.proofs.Codec.{count-few, place-held, place-size, place-keys, place_set}
use Rattle.reduction.proofs.reducing.cut.Goals as goal

pub offset_bounds-g-i : goal.offset_bounds-g-i
offset_bounds-g-i c = let b = count-few c.args.g c.requires.0 in search rules

pub bounds-g-i : goal.bounds-g-i
bounds-g-i c = let b = count-few c.args.g c.requires.0 in search rules

pub truncate-requires : goal.truncate-requires
truncate-requires c =
    (place-held c.args.g c.requires.0 c.args.i c.requires.1.0, omega (arith, place-size c.args.g c.requires.0 c.args.i c.requires.1.0))

pub offset_bounds-out-i : goal.offset_bounds-out-i
offset_bounds-out-i c = let b = count-few c.args.g c.requires.0 in search rules

pub bounds-out-i : goal.bounds-out-i
bounds-out-i c = let b = count-few c.args.g c.requires.0 in search rules

pub returns : goal.returns
returns c =
    rw (c.truncate.ensures, place-keys c.args.g c.requires.0 c.args.i c.requires.1.0)
    (place_set c.args.g c.requires.0 c.args.i (take c.args.n (ordering_at (decode c.args.g) c.args.i)) c.requires.1.0)

-- `lent_classes::lent::literals_uniform` meets its contract.
use Prim.Native.Nat.{◌-◌}
use mathlib.Core.Bool.{true}
use mathlib.Core.Path.{◌≡◌}
use lib.ListN.{length}
use Rattle.arena.specs.Layout.{decode as nodes}
use Rattle.lent_classes.specs.Lent.{each_from, uniform_lent}
use Rattle.lent_classes.proofs.LentParts.{WholeAt, Going}
use Rattle.lent_classes.proofs.lent.literals_uniform.Given as goal

abbrev pub invariant-loop-at : goal.invariant-loop-at
invariant-loop-at l = (l.n ≡ length l.numbers) × ((each_from (WholeAt l.numbers) l.numbers l.at ≡ true) × Going (uniform_lent (nodes l.cells) l.numbers) l.numbers l.at)

abbrev pub decreases-loop-at : goal.decreases-loop-at
decreases-loop-at l = l.n - l.at

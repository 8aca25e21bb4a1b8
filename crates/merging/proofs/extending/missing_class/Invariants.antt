-- `merging::extending::missing_class` meets its contract.
use mathlib.Core.List.{[], ◌∷◌}
use mathlib.Core.Path.{◌≡◌}
use Rattle.classes.specs.Group.{class_at}
use Rattle.classes.specs.Layout.{encode, decode}
use Rattle.merging.specs.Inner.{missing_some}
use Rattle.merging.proofs.extending.missing_class.Given as goal

abbrev pub invariant-loop-k : goal.invariant-loop-k
invariant-loop-k l = l.out ≡ encode 256 (missing_some l.k (class_at (decode l.g) l.i) (class_at (decode l.g) l.j) ∷ [])

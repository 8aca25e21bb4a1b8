-- `classes::building::moved_place` meets its contract.
use mathlib.Core.Path.{refl}
use native.Mathlib.Omega.{arith}
use Rattle.classes.proofs.building.moved_place.Goals as goal

pub returns-then-i-k : goal.returns-then-i-k
returns-then-i-k c = (λ e. refl, λ n. absurd (n (omega (arith, c.if-i-k.true))))

pub returns-else-i-k : goal.returns-else-i-k
returns-else-i-k c = (λ e. absurd (omega (arith, e, c.if-i-k.false)), λ n. refl)

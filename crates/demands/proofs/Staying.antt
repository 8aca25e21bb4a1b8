-- Demand 3, second sentence: a yes of the equality question stays yes after any further conditions.
use Prim.Native.Nat.{ℕ, ◌<◌}
use mathlib.Core.Bool.{true}
use mathlib.Core.List.{List, []}
use mathlib.Core.Path.{◌≡◌}
use lib.ListN.{length}
use Rattle.arena.specs.Node.{Node}
use Rattle.arena.specs.Arena.{Sound}
use Rattle.classes.specs.Class.{Class}
use Rattle.classes.specs.Group.{equal_condition}
use Rattle.conditions.specs.Steps.{add_equal, after}
use Rattle.questions.specs.Questions.{exprs_equal}
use Rattle.questions.proofs.Asking.{yes_wider}
use Rattle.demands.proofs.Step.{Step}
use Rattle.demands.proofs.Chains.{stays_after}

module _ (ns : List Node) (OK : List Class → Type 0)
    (ok_step : (cs : List Class) → OK cs → (a b : ℕ) → Step cs a b (equal_condition ns cs a b).1)
    (ok-kept : (limit : ℕ) (cs : List Class) → OK cs → (a b : ℕ) → OK (add_equal limit ns a b cs).classes)
    (ok-none : OK []) where
  -- a yes stays yes after any further conditions
  pub yes_stays : Sound ns → (limit : ℕ) (cs : List Class) → OK cs → (ps : List (ℕ × ℕ)) (a b : ℕ) → a < length ns → exprs_equal ns cs a b ≡ true → exprs_equal ns (after limit ns cs ps) a b ≡ true
  yes_stays s limit cs k ps a b l h = yes_wider ns s cs (after limit ns cs ps) (stays_after ns OK ok_step ok-kept ok-none limit cs k ps) a b l h

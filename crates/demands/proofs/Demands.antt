-- The first three sentences of demand 3, over the functions that the contracts cite: for any limit and any sequence of equal conditions, refused ones included.
use Prim.Native.Nat.{ℕ, ◌<◌}
use mathlib.Core.Bool.{true}
use mathlib.Core.List.{List, []}
use mathlib.Core.Logic.{◌↔◌}
use mathlib.Core.Path.{◌≡◌}
use native.Mathlib.Omega.{arith}
use lib.ListN.{length}
use Rattle.arena.specs.Node.{Node}
use Rattle.arena.specs.Arena.{Sound}
use Rattle.classes.specs.Class.{Class}
use Rattle.classes.specs.Group.{same_class}
use Rattle.classes.specs.Good.{flat, Distinct}
use Rattle.conditions.specs.Steps.{Chain, add_equal, after, accepted}
use Rattle.questions.specs.Questions.{exprs_equal}
use Rattle.demands.proofs.Answers.{add_equal-holds}
use Rattle.demands.proofs.Chains as chains
use Rattle.demands.proofs.Staying as staying
use Rattle.demands.proofs.Conditions.{condition_step, condition_distinct}

-- no expression twice: what the theorems ask of a group to begin with
abbrev pub Apart : List Class → Type 0
Apart cs = Distinct (flat cs)

-- an empty group has no member twice
pub apart_none : Apart []
unfolding flat
apart_none = record { apart = λ i j a b e. omega arith }

-- and no equal condition makes one
pub apart-kept : (ns : List Node) (limit : ℕ) (cs : List Class) → Apart cs → (a b : ℕ) → Apart (add_equal limit ns a b cs).classes
apart-kept ns limit cs h a b = add_equal-holds (λ (ds : List Class). Apart ds) limit cs h ns a b (λ la lb q. condition_distinct ns cs h a b)

module _ (ns : List Node) where
  -- two different expressions are in one class exactly when a chain of accepted pairs joins them
  pub same_class_exactly : (limit : ℕ) (ps : List (ℕ × ℕ)) (x y : ℕ) → (x ≡ y → ⊥) → (same_class (after limit ns [] ps) x y ≡ true) ↔ Chain (accepted limit ns [] ps) x y
  same_class_exactly = chains.same_class_exactly ns Apart (condition_step ns) (apart-kept ns) apart_none

  -- a yes of the equality question stays yes after any further conditions
  pub yes_stays : Sound ns → (limit : ℕ) (cs : List Class) → Apart cs → (ps : List (ℕ × ℕ)) (a b : ℕ) → a < length ns → exprs_equal ns cs a b ≡ true → exprs_equal ns (after limit ns cs ps) a b ≡ true
  yes_stays = staying.yes_stays ns Apart (condition_step ns) (apart-kept ns) apart_none

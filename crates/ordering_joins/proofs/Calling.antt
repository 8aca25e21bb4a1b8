-- The public call that joins two lists: the answer where the check refuses, and where it passes.
use Rattle.std.specs.Prelude.{Ok, Err}
use Prim.Native.Nat.{ℕ}
use mathlib.Core.List.{List}
use mathlib.Core.Path.{◌≡◌, ap}
use Rattle.arena.specs.declared.Refusal.{Refusal}
use Rattle.arena.specs.Refusals.{outcome}
use Rattle.arena.proofs.Refusals.{ok-zero, err-refusal}
use Rattle.orderings.specs.Lists.{join_suffix}
use Rattle.orderings.specs.Layout.{decode}
use Rattle.orderings.specs.Calls.{two_number, listed}
use Rattle.ordering_joins.specs.Calls.{join_answer}
use Rattle.orderings.specs.declared.Orderings.{Orderings}
use Rattle.orderings.proofs.Appending.{told}

-- joining
module _ (cells : List ℕ) (g h : Orderings) where
  pub join-refused-by : (e : Refusal) → outcome (two_number cells g h) ≡ Err e → told (Err e) g ≡ join_answer cells g h
  unfolding join_answer
  join-refused-by e q = let r = err-refusal (two_number cells g h) e q in rw r.0 (ap (λ (x : Refusal). told (Err x) g) r.1)

  pub join-passed : outcome (two_number cells g h) ≡ Ok tt → join_answer cells g h ≡ listed g (join_suffix (decode g) (decode h))
  unfolding join_answer
  join-passed z = rw (ok-zero (two_number cells g h) z)

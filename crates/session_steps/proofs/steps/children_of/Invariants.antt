-- `session_steps::steps::children_of` meets its contract.
use mathlib.Core.Path.{◌≡◌}
use lib.ListN.{length, take}
use Rattle.records.specs.Fields.{fields}
use Rattle.session_steps.proofs.steps.children_of.Given as goal

abbrev pub invariant-loop-k : goal.invariant-loop-k
invariant-loop-k l = (length l.children ≡ 8) × (take l.k l.children ≡ fields l.body 4 l.k)

-- `projection::listing::write_answers` meets its contract.
use mathlib.Core.Path.{◌≡◌}
use Rattle.projection.proofs.Written.{written_to}
use Rattle.projection.proofs.listing.write_answers.Given as goal

abbrev pub invariant-loop-k : goal.invariant-loop-k
invariant-loop-k l = (l.out ≡ written_to l.table l.exprs l.initial.out l.k)

-- `projection::listing::project_all` meets its contract.
use Rattle.projection.proofs.ListLaws.{AllTo}
use Rattle.projection.proofs.listing.project_all.Given as goal

abbrev pub invariant-loop-k : goal.invariant-loop-k
invariant-loop-k l = AllTo l.initial.cells l.initial.table l.cells l.table l.exprs l.k

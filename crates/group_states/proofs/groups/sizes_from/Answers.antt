-- `group_states::groups::sizes_from` meets its contract.
use Rattle.std.proofs.Common.{◌+◌, get_or, rules, tests}
use Rattle.laws.proofs.RunsB.{table-from_fn}
use Rattle.states.specs.Cells.{part}
use Rattle.group_states.proofs.groups.sizes_from.Goals as goal

pub returns : goal.returns
unfolding part
returns c =
    table-from_fn (λ k. get_or c.args.cells.now (3 + k) 0) 64 0 _ _ c.from_fn.ensures.items (λ x b q k. search (rules, tests))

-- `arena::checking::lawful_nodes` meets its contract.
use Rattle.std.proofs.Common.{rules, tests}
use Rattle.laws.proofs.Runs.{each-all}
use Rattle.arena.specs.Layout.{lawful_node}
use Rattle.arena.proofs.checking.lawful_nodes.Goals as goal

pub returns : goal.returns
returns c =
    each-all (lawful_node c.args.cells.now) c.args.n _ _ _ c.all.ensures.ran (λ x b q k. search (rules, tests))

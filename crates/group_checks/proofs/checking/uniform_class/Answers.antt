-- `group_checks::checking::uniform_class` meets its contract.
use Rattle.std.proofs.Common.{rules, tests, not, ◌||◌, ◌&&◌, ◌+◌, ltb, leb, length, get_or}
use Rattle.laws.proofs.Runs.{each-all}
use Rattle.arena.specs.Node.{node_at}
use Rattle.arena.specs.Layout.{decode as nodes}
use Rattle.classes.specs.Layout.{uniform_at, is_literal, sum_to}
use Rattle.group_checks.proofs.checking.uniform_class.Goals as goal

pub returns : goal.returns
unfolding uniform_at
returns c =
    each-all (λ k. not (ltb (get_or c.args.g.members (sum_to c.args.g.sizes c.args.j + k) 0) (length (nodes c.args.cells.now)) && is_literal (node_at (nodes c.args.cells.now) (get_or c.args.g.members (sum_to c.args.g.sizes c.args.j + k) 0))) || leb 2 (get_or c.args.g.flavours c.args.j 0)) (get_or c.args.g.sizes c.args.j 0) _ _ _ c.all.ensures.ran (λ x b q k. search (rules, tests))

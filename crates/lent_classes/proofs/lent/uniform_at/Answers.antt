-- `lent_classes::lent::uniform_at` meets its contract.
use Rattle.std.proofs.Common.{rules, tests}
use Rattle.laws.proofs.Runs.{each-all}
use Rattle.arena.specs.Layout.{decode as nodes}
use Rattle.lent_classes.specs.Lent.{uniform_lent}
use Rattle.lent_classes.proofs.LentParts.{FitsAt}
use Rattle.lent_classes.proofs.lent.uniform_at.Goals as goal

pub returns : goal.returns
unfolding uniform_lent
returns c =
    let x = c.args in
    rw (← c.size_at.ensures.0) (each-all (FitsAt (nodes x.cells.now) x.numbers.now x.at) c.size_at.result _ _ _ c.all.ensures.ran (λ x b q k. search (rules, tests)))

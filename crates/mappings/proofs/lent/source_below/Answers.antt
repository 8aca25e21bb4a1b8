-- `mappings::lent::source_below` meets its contract.
use mathlib.Core.Path.{sym, ◌∙◌}
use native.Mathlib.Omega.{arith}
use borrow.Author.Rules.{rules}
use borrow.Author.Tests.{tests, lt-ltb, le-ltb}
use Rattle.laws.proofs.Runs.{each-all}
use Rattle.mappings.proofs.StructTests.{TargetBelow, below_of, source-outside}
use Rattle.mappings.proofs.lent.source_below.Goals as goal

pub returns-then-wide-n : goal.returns-then-wide-n
returns-then-wide-n c =
    let n = c.args.n in
    let r = c.args.source in
    each-all (TargetBelow n r) r.size _ _ _ c.all.ensures.ran (λ x b q k. search (rules, tests)) ∙ sym (rw (lt-ltb r.expr n (omega arith)) at (below_of n r))

pub returns-else-wide-n : goal.returns-else-wide-n
returns-else-wide-n c =
    let n = c.args.n in
    let r = c.args.source in
    le-ltb c.wide.result n (omega arith) ∙ source-outside n r (omega arith)

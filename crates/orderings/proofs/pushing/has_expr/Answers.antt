-- `orderings::pushing::has_expr` meets its contract.
use Rattle.std.proofs.Common.{rules, tests, eqb, get_or, ◌∙◌}
use Rattle.laws.proofs.RunsA.{any-table}
use Rattle.orderings.specs.Ordering.{expr_of}
use Rattle.orderings.specs.Layout.{keys_of}
use Rattle.orderings.proofs.Extending.{has-any}
use Rattle.orderings.proofs.pushing.has_expr.Goals as goal

pub returns : goal.returns
unfolding keys_of
returns c =
    any-table (λ k. eqb (expr_of k) c.args.expr) (λ k. get_or c.args.o.keys k 0) c.args.o.size _ _ _ c.any.ensures.ran (λ x b q k. search (rules, tests))
    ∙ has-any c.args.expr (keys_of c.args.o)

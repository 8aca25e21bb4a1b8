-- `orderings::pushing::push` meets its contract.
use Rattle.std.proofs.Common.{rules, sym, ◌∙◌}
use Rattle.orderings.proofs.Extending.{push-there, push-full, push-new}
use Rattle.orderings.proofs.pushing.push.Goals as goal

pub returns-then-has_expr : goal.returns-then-has_expr
returns-then-has_expr c =
    push-there c.args.o c.args.key c.requires (rw c.expr_of.ensures at (sym c.has_expr.ensures ∙ c.if-has_expr.true))

pub returns-then-n-ge16 : goal.returns-then-n-ge16
returns-then-n-ge16 c =
    push-full c.args.o c.args.key c.requires (rw c.expr_of.ensures at (sym c.has_expr.ensures ∙ c.if-has_expr.false)) (search rules)

pub returns : goal.returns
returns c =
    push-new c.args.o c.args.key c.requires (rw c.expr_of.ensures at (sym c.has_expr.ensures ∙ c.if-has_expr.false)) (search rules)

-- `products::ordering::order_at` meets its contract: one proof for the function that calls itself.
use mathlib.Core.Path.{◌∙◌}
use Rattle.products.proofs.Chains.{order_none, others-some, rest_below, others-open, order_begins}
use borrow.Author.Rules.{rules}
use Prim.Native.Nat.{◌≤◌}
use Rattle.products.proofs.ordering.+order_at.Goals as goal

pub returns-then-n-eq0 : goal.returns-then-n-eq0
returns-then-n-eq0 t c = order_none c.args.n c.args.number (search rules)

pub nonzero_rem-number : goal.nonzero_rem-number
nonzero_rem-number t c =
    others-some c.args.n c.args.number c.factorial-others.result c.requires.0 (search rules) c.requires.1 c.factorial-others.ensures

pub order_at-requires : goal.order_at-requires
order_at-requires t c =
    let some : 1 ≤ c.args.n = search rules in
    (search rules, (search rules, rest_below c.args.n c.args.number c.factorial-others.result c.requires.0 some c.requires.1 c.factorial-others.ensures))

pub nonzero_div-number : goal.nonzero_div-number
nonzero_div-number t c =
    others-some c.args.n c.args.number c.factorial-others.result c.requires.0 (search rules) c.requires.1 c.factorial-others.ensures

pub begin_with-requires : goal.begin_with-requires
begin_with-requires t c =
    let some : 1 ≤ c.args.n = search rules in
    others-open c.args.n c.args.number c.factorial-others.result c.requires.0 some c.requires.1 c.factorial-others.ensures c.order_at.result c.order_at.ensures

pub returns : goal.returns
returns t c =
    let some : 1 ≤ c.args.n = search rules in
    c.begin_with.ensures
    ∙ order_begins c.args.n c.args.number c.factorial-others.result c.requires.0 some c.requires.1 c.factorial-others.ensures c.order_at.result c.order_at.ensures

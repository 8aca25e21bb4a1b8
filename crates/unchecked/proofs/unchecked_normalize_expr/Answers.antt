-- `unchecked::unchecked_normalize_expr` meets its contract.
use Rattle.arena.specs.Refusals.{Added}
use mathlib.Core.List.{List}
use mathlib.Core.Path.{sym, ap, subst, ◌∙◌}
use Prim.Native.Nat.{ℕ}
use Rattle.arena.specs.Arena.{add_expression}
use Rattle.arena.specs.Calls.{in_cells, answered}
use Rattle.arena.specs.Expression.{expression_at}
use Rattle.arena.specs.Layout.{decode as nodes}
use Rattle.classes.specs.Inner.{Held}
use Rattle.classes.specs.Layout.{decode}
use Rattle.classes.specs.declared.Group.{Group}
use Rattle.normal.specs.Normal.{normal}
use Rattle.group_answers.specs.Answers.{added_in}
use Rattle.unchecked.proofs.Carried.{put_first}
use Rattle.unchecked.proofs.unchecked_normalize_expr.Goals as goal

pub normalize_in-added-requires : goal.normalize_in-added-requires
normalize_in-added-requires c =
    (c.requires.0, subst (Held (nodes c.args.arena.now)) (sym c.load_group.ensures) c.requires.1)

pub returns : goal.returns
returns c =
    let x = c.args in
    let ns = nodes x.arena.now in
    let n = c.normalize_in-added in
    let is : Group → Added × List ℕ = λ g. in_cells (answered ns (add_expression (normal ns (decode g) (expression_at ns x.expr)) ns)) in
    put_first (added_in x.answer.now) n.result (c.put_added.result, c.put_added.new.answer) n.new.cells _ c.put_added.ensures (n.ensures ∙ ap is c.load_group.ensures)

-- `classes::single::carried` meets its contract.
use mathlib.Core.Logic.{inl, inr}
use mathlib.Core.Path.{sym, ◌∙◌}
use Rattle.arena.specs.Node.{node_at}
use Rattle.arena.specs.Layout.{decode as nodes}
use Rattle.classes.proofs.OneClass.{read_back, carried-literal, carried-column, carried-operation}
use Rattle.classes.proofs.single.carried.Goals as goal

pub returns-in-Literal : goal.returns-in-Literal
returns-in-Literal c =
    let r = c.read_in in
    let w = c.wide in
    carried-literal (node_at (nodes c.args.cells.now) c.args.e) _ (sym (read_back (nodes c.args.cells.now) c.args.e w.result r.result w.ensures r.ensures) ∙ c.in-Literal.is)

pub returns-in-Column : goal.returns-in-Column
returns-in-Column c =
    let r = c.read_in in
    let w = c.wide in
    let b = read_back (nodes c.args.cells.now) c.args.e w.result r.result w.ensures r.ensures in
    elim c.in-Column.is [ inl x ↦ carried-column (node_at (nodes c.args.cells.now) c.args.e) _ _ (sym b ∙ x.2) | inr x ↦ carried-operation (node_at (nodes c.args.cells.now) c.args.e) _ _ (sym b ∙ x.2) ]

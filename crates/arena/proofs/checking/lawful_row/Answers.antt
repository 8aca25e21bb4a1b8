-- `arena::checking::lawful_row` meets its contract.
use Rattle.std.proofs.Common.{sym, ◌∙◌, arith}
use Rattle.arena.proofs.Rows.{kind-few}
use Rattle.laws.proofs.Booleans.{true_not_false}
use Rattle.arena.proofs.checking.lawful_row.Goals as goal
use Rattle.arena.proofs.checking.lawful_row.Goals.{then-lawful_kind, else-lawful_kind}

pub children_below-requires : goal.children_below-requires
children_below-requires c =
    omega (arith, kind-few _ _ (sym c.lawful_kind.ensures ∙ c.if-lawful_kind.true), c.wide.ensures)

pub places_unused-requires : goal.places_unused-requires
places_unused-requires c =
    elim c.if-lawful_kind.branch [ then-lawful_kind w ↦ omega (arith, kind-few _ _ (sym c.lawful_kind.ensures ∙ w.if-lawful_kind.true), c.wide-then-children_below.ensures) | else-lawful_kind w ↦ absurd (true_not_false c.if-children_below.true (w.value-is ∙ w.if-lawful_kind.false)) ]

-- `joins::join` meets its contract.
use mathlib.Core.Path.{sym, ap, ◌∙◌}
use Rattle.arena.proofs.Refusals.{done-zero}
use Rattle.classes.specs.declared.Changed.{Changed}
use Rattle.classes.proofs.Judging.{refusal_is}
use Rattle.joins.proofs.Joins.{Outcome, tables, number-kind, number-both, join-passed, join-refused}
use Rattle.joins.proofs.join.Goals as goal

pub returns-in-Err : goal.returns-in-Err
returns-in-Err c =
    ap {B = Outcome} (λ (x : Changed). (x, c.args.cells.now)) (refusal_is c.refusal.result c.in-Err.why c.args.left c.refusal.ensures)
    ∙ join-refused c.args.cells.now c.args.left c.args.right c.args.kind c.args.pairs.now c.args.left_size c.in-Err.why (sym c.join_number.ensures ∙ c.in-Err.is)

pub join_by-requires : goal.join_by-requires
join_by-requires c =
    let z = done-zero _ (sym c.join_number.ensures ∙ c.in_default.is) in
    (number-both c.args.cells.now c.args.left c.args.right c.args.kind c.args.pairs.now (tables c.args.left _ c.well_formed.1.0) (tables c.args.right _ c.well_formed.1.1.0) z, number-kind c.args.cells.now c.args.left c.args.right c.args.kind c.args.pairs.now z)

pub returns : goal.returns
returns c =
    c.join_by.ensures ∙ sym (join-passed c.args.cells.now c.args.left c.args.right c.args.kind c.args.pairs.now c.args.left_size (sym c.join_number.ensures ∙ c.in_default.is))

-- `group_checks::open_group` meets its contract.
use Rattle.std.proofs.Common.{sym, ap, ◌∙◌, arith}
use mathlib.Core.Logic.{inl, inr}
use Rattle.arena.specs.declared.Refusal.TheVariants.{BadNumber}
use Rattle.classes.proofs.Judging.{handed_back, refusal_is}
use Rattle.group_checks.proofs.Calling.{opened-none, opened-over, opened_in}
use Rattle.group_checks.proofs.open_group.Goals as goal

pub returns-then-limit-eq0 : goal.returns-then-limit-eq0
returns-then-limit-eq0 c =
    refusal_is c.refusal.result BadNumber c.empty.result c.refusal.ensures ∙ ap (handed_back BadNumber) c.empty.ensures
    ∙ elim c.then-limit-eq0.either [ inl e ↦ sym (opened-none c.args.limit e) | inr w ↦ sym (opened-over c.args.limit (omega (arith, w.1))) ]

pub returns : goal.returns
returns c =
    rw c.empty-2.ensures (sym (opened_in c.args.limit c.if-limit-eq0.false (omega (arith, c.if-limit-gt256.false))))

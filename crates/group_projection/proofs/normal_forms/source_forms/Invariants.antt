-- `group_projection::normal_forms::source_forms` meets its contract.
use Rattle.group_projection.proofs.FormLaws.{FormedTo}
use Rattle.group_projection.proofs.normal_forms.source_forms.Given as goal

abbrev pub invariant-loop-i : goal.invariant-loop-i
invariant-loop-i l = FormedTo l.old l.firsts l.initial.cells l.m l.cells l.memo l.numbers l.i

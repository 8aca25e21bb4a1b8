-- `ordering_joins::joining::join_in` meets its contract.
use mathlib.Core.Path.{◌∙◌}
use Rattle.orderings.specs.Lists.{join_suffix}
use Rattle.orderings.specs.Layout.{decode}
use Rattle.orderings.proofs.Appending.{listed-done, listed-refused}
use Rattle.ordering_joins.proofs.joining.join_in.Goals as goal

pub join_lists-requires : goal.join_lists-requires
join_lists-requires c = c.requires

pub returns-in-Ok : goal.returns-in-Ok
returns-in-Ok c = listed-done c.args.g (join_suffix (decode c.args.g) (decode c.args.h)) c.in-Ok.list c.in-Ok.ensures

pub returns-in-Err : goal.returns-in-Err
returns-in-Err c = c.refusal.ensures ∙ listed-refused c.args.g (join_suffix (decode c.args.g) (decode c.args.h)) c.in-Err.why c.in-Err.ensures

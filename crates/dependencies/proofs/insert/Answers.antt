-- `dependencies::insert` meets its contract.
use mathlib.Core.Path.{sym, ◌∙◌}
use Rattle.dependencies.proofs.MapCodec.{arrays_sized}
use Rattle.dependencies.proofs.MapCalls.{insert-refused, insert-passed, insert-asks}
use Rattle.dependencies.proofs.insert.Goals as goal

pub insert_in-requires : goal.insert_in-requires
insert_in-requires c =
    let x = c.args in
    insert-asks x.cells.now x.map x.expr x.options x.target x.dependency (sym c.check_insert.ensures ∙ c.in-Ok.is) (arrays_sized x.map _ c.well_formed.1.0)

pub returns-in-Ok : goal.returns-in-Ok
returns-in-Ok c =
    let x = c.args in
    insert-passed x.cells.now x.map x.expr x.options x.target x.dependency (sym c.check_insert.ensures ∙ c.in-Ok.is) c.insert_in.result c.insert_in.ensures

pub returns-in-Err : goal.returns-in-Err
returns-in-Err c =
    let x = c.args in
    insert-refused x.cells.now x.map x.expr x.options x.target x.dependency c.refusal.result c.in-Err.why (sym c.check_insert.ensures ∙ c.in-Err.is) c.refusal.ensures

-- `projection_table::table::source_entry` meets its contract.
use native.Mathlib.Omega.{arith}
use borrow.Author.Tests.{eq-eqb, ne_eqb}
use lib.Dec.{eqb}
use Rattle.projection_table.proofs.Sources.{target-under, searching_begins, searching_found, searching_on, searching_ends}
use Rattle.projection_table.proofs.table.source_entry.Goals as goal

pub loop-i-init : goal.loop-i-init
loop-i-init c = searching_begins (λ s. eqb s c.args.e) c.args.m

pub offset_bounds-m-i : goal.offset_bounds-m-i
offset_bounds-m-i c =
    let b = c.requires.bounded.few in
    omega (arith, b)

pub bounds-m-i : goal.bounds-m-i
bounds-m-i c =
    let b = c.requires.bounded.few in
    omega (arith, b)

pub bounds-source-0 : goal.bounds-source-0
bounds-source-0 c = omega arith

pub overflow_add-result : goal.overflow_add-result
overflow_add-result c =
    omega (arith, target-under 1024 c.args.m c.requires c.loop-i.i (omega arith))

pub returns-then-source-e : goal.returns-then-source-e
returns-then-source-e c =
    let k = c.loop-i in
    searching_found (λ x. eqb x c.args.e) c.args.m k.i k.invariant (omega arith) c.requires.bounded (eq-eqb _ _ c.if-source-e.true)

pub loop-i-preserved : goal.loop-i-preserved
loop-i-preserved c =
    let k = c.loop-i in
    searching_on (λ x. eqb x c.args.e) c.args.m k.i k.invariant (omega arith) (ne_eqb _ _ c.if-source-e.false)

pub returns : goal.returns
returns c =
    searching_ends (λ x. eqb x c.args.e) c.args.m c.loop-i.i c.loop-i.invariant (omega arith)

-- `projection_table::table::class_entry` meets its contract.
use mathlib.Core.Path.{sym, ◌∙◌}
use native.Mathlib.Omega.{arith}
use Rattle.questions.specs.Inner.{same_place}
use Rattle.mappings.proofs.PlaceReads.{read_below}
use Rattle.projection_table.proofs.Sources.{target-under, searching_begins, searching_found, searching_on, searching_ends}
use Rattle.projection_table.proofs.table.class_entry.Goals as goal

pub loop-i-init : goal.loop-i-init
loop-i-init c = searching_begins (λ s. same_place c.args.places.now s c.args.e) c.args.m

pub offset_bounds-m-i : goal.offset_bounds-m-i
offset_bounds-m-i c =
    let b = c.requires.0.bounded.few in
    omega (arith, b)

pub bounds-m-i : goal.bounds-m-i
bounds-m-i c =
    let b = c.requires.0.bounded.few in
    omega (arith, b)

pub same_place-requires : goal.same_place-requires
same_place-requires c =
    let u = read_below c.args.m c.loop-i.i (omega arith) 1024 c.requires.0 in
    (omega (arith, u, c.wide.ensures), omega (arith, c.requires.1, c.wide-in-loop-i.ensures))

pub bounds-one-0 : goal.bounds-one-0
bounds-one-0 c = omega arith

pub overflow_add-result : goal.overflow_add-result
overflow_add-result c =
    omega (arith, target-under 1024 c.args.m c.requires.0 c.loop-i.i (omega arith))

pub returns-then-same_place : goal.returns-then-same_place
returns-then-same_place c =
    let k = c.loop-i in
    let t = rw (c.wide.ensures, c.wide-in-loop-i.ensures) at c.same_place.ensures in
    searching_found (λ x. same_place c.args.places.now x c.args.e) c.args.m k.i k.invariant (omega arith) c.requires.0.bounded (sym t ∙ c.if-same_place.true)

pub loop-i-preserved : goal.loop-i-preserved
loop-i-preserved c =
    let k = c.loop-i in
    let t = rw (c.wide.ensures, c.wide-in-loop-i.ensures) at c.same_place.ensures in
    searching_on (λ x. same_place c.args.places.now x c.args.e) c.args.m k.i k.invariant (omega arith) (sym t ∙ c.if-same_place.false)

pub returns : goal.returns
returns c =
    searching_ends (λ x. same_place c.args.places.now x c.args.e) c.args.m c.loop-i.i c.loop-i.invariant (omega arith)

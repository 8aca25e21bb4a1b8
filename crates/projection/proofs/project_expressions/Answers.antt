-- `projection::project_expressions` meets its contract.
use Prim.Native.Nat.{ℕ}
use mathlib.Core.Bool.{true, false}
use mathlib.Core.List.{List}
use mathlib.Core.Path.{◌≡◌, refl, sym, ap, ◌∙◌}
use Rattle.std.specs.Prelude.{Result}
use borrow.Author.Tests.{eqb-false}
use Rattle.arena.specs.declared.Refusal.{Refusal}
use Rattle.arena.specs.Refusals.{outcome, refusal}
use lib.ListN.{length}
use Rattle.arena.specs.Layout.{count}
use Rattle.group_checks.proofs.HeldLaws.{number-held}
use Rattle.normal.proofs.Calling.{checked_refused}
use Rattle.mappings.specs.Lent.{mapping_lent}
use Rattle.mappings.specs.Calls.{project_number}
use Rattle.mappings.proofs.MappingChecked.{mapping-whole, group-passes}
use Rattle.projection.specs.Calls.{project_expressions, told_list}
use Rattle.arena.proofs.Refusals.{done-zero, err-refusal, handed-on}
use Rattle.projection.proofs.CallLaws.{all_below, each_below, lent-holds, lent-checked, exprs-unknown, exprs-known}
use borrow.Author.Rules.{rules}
use Rattle.projection.proofs.project_expressions.Goals as goal

-- an answer, the output and the cells
abbrev Told : Type 0
Told = (Result (Unit {0}) Refusal × List ℕ) × List ℕ

pub returns-in_err-project_number : goal.returns-in_err-project_number
returns-in_err-project_number c =
    let x = c.args in
    let n = project_number x.cells.now x.group x.mapping.now in
    let h = sym c.project_number.ensures ∙ c.in_err-project_number.was in
    ap {B = Told} (λ (r : Result (Unit {0}) Refusal). ((r, x.out.now), x.cells.now)) (handed-on _ _ c.from_residual.ensures.1 ∙ sym h)
    ∙ ap told_list (checked_refused n (λ (k : ℕ). (k, x.out.now)) (project_expressions x.exprs.now x.out.now (mapping_lent x.mapping.now)) x.cells.now x.group (eqb-false n 0 (err-refusal _ _ h).0))

pub returns-then-not-all_below : goal.returns-then-not-all_below
unfolding outcome refusal
returns-then-not-all_below c =
    let z = done-zero _ (sym c.project_number.ensures ∙ c.in_ok-project_number.was) in
    let t : all_below c.args.exprs.now (count c.args.cells.now) ≡ false = sym (rw c.node_count.ensures at c.all_below.ensures) ∙ c.if-not-all_below.true in
    ap told_list (exprs-unknown c.args.cells.now c.args.mapping.now c.args.group z c.args.exprs.now c.args.out.now t)

pub read_mapping-requires : goal.read_mapping-requires
read_mapping-requires c =
    mapping-whole c.args.cells.now c.args.mapping.now c.args.group (done-zero _ (sym c.project_number.ensures ∙ c.in_ok-project_number.was))

pub project_list-requires : goal.project_list-requires
project_list-requires c =
    let z = done-zero _ (sym c.project_number.ensures ∙ c.in_ok-project_number.was) in
    let sz : length c.args.group.sizes ≡ 64 = search rules in
    let fl : length c.args.group.flavours ≡ 64 = search rules in
    let vl : length c.args.group.values ≡ 64 = search rules in
    let mm : length c.args.group.members ≡ 256 = search rules in
    let t : all_below c.args.exprs.now (count c.args.cells.now) ≡ true = sym (rw c.node_count.ensures at c.all_below.ensures) ∙ c.if-not-all_below.false in
    let m = c.read_mapping in (
      ((lent-holds c.args.cells.now c.args.mapping.now c.args.group z, lent-checked c.args.cells.now c.args.mapping.now c.args.group z m.result m.ensures.0 m.ensures.1), (number-held c.args.cells.now c.args.group sz fl vl mm (group-passes c.args.cells.now c.args.mapping.now c.args.group z)).coded),
      each_below c.args.exprs.now (count c.args.cells.now) t,
    )

pub returns : goal.returns
returns c =
    let z = done-zero _ (sym c.project_number.ensures ∙ c.in_ok-project_number.was) in
    let t : all_below c.args.exprs.now (count c.args.cells.now) ≡ true = sym (rw c.node_count.ensures at c.all_below.ensures) ∙ c.if-not-all_below.false in
    let m = c.read_mapping in
    let w = c.project_list in
    w.ensures ∙ ap told_list (exprs-known c.args.cells.now c.args.mapping.now c.args.group z c.args.exprs.now c.args.out.now t m.result m.ensures.0 _ refl)

-- `mappings::lent::project_number` meets its contract.
use mathlib.Core.Bool.{true, false}
use mathlib.Core.Path.{sym, ap, ◌∙◌}
use Rattle.arena.specs.Refusals.{outcome, refusal}
use Rattle.arena.proofs.Refusals.{ok-zero, err-refusal, handed-on}
use Rattle.mappings.proofs.MappingChecked.{sizes-few}
use Rattle.mappings.proofs.ProjectNumbers.{lawful-whole, project-empty, project-set, project_unlawful, project-group, project-below}
use Rattle.mappings.proofs.lent.project_number.Goals as goal

pub returns-then-not-targets_given : goal.returns-then-not-targets_given
unfolding outcome refusal
returns-then-not-targets_given c =
    let x = c.args in
    ap outcome (project-empty x.cells.now x.g x.numbers.now (sym c.targets_given.ensures ∙ c.if-not-targets_given.true))

pub returns-then-not-in_set : goal.returns-then-not-in_set
unfolding outcome refusal
returns-then-not-in_set c =
    let x = c.args in
    ap outcome (project-set x.cells.now x.g x.numbers.now (sym c.targets_given.ensures ∙ c.if-not-targets_given.false) (sym c.in_set.ensures ∙ c.if-not-in_set.true))

pub returns-then-not-lawful_mapping : goal.returns-then-not-lawful_mapping
unfolding outcome refusal
returns-then-not-lawful_mapping c =
    let x = c.args in
    ap outcome (project_unlawful x.cells.now x.g x.numbers.now (sym c.targets_given.ensures ∙ c.if-not-targets_given.false) (sym c.in_set.ensures ∙ c.if-not-in_set.false) (sym c.lawful_mapping.ensures ∙ c.if-not-lawful_mapping.true))

pub returns-in_err-check_group : goal.returns-in_err-check_group
returns-in_err-check_group c =
    let x = c.args in
    let e = err-refusal _ _ (sym c.check_group.ensures ∙ c.in_err-check_group.was) in
    handed-on _ _ c.from_residual.ensures.1 ∙ sym c.in_err-check_group.was ∙ c.check_group.ensures
    ∙ ap outcome (project-group x.cells.now x.g x.numbers.now (sym c.targets_given.ensures ∙ c.if-not-targets_given.false) (sym c.in_set.ensures ∙ c.if-not-in_set.false) (sym c.lawful_mapping.ensures ∙ c.if-not-lawful_mapping.false) e.0)

pub read_mapping-requires : goal.read_mapping-requires
read_mapping-requires c =
    lawful-whole c.args.numbers.now (sym c.lawful_mapping.ensures ∙ c.if-not-lawful_mapping.false)

pub mapping_below-requires : goal.mapping_below-requires
mapping_below-requires c =
    let ns = c.args.numbers.now in
    let r = c.read_mapping in
    (r.ensures.1, sizes-few ns r.result r.ensures.0 (lawful-whole ns (sym c.lawful_mapping.ensures ∙ c.if-not-lawful_mapping.false)).0)

pub returns-then-not-mapping_below : goal.returns-then-not-mapping_below
unfolding outcome refusal
returns-then-not-mapping_below c =
    let x = c.args in
    ap outcome (project-below x.cells.now x.g x.numbers.now (sym c.targets_given.ensures ∙ c.if-not-targets_given.false) (sym c.in_set.ensures ∙ c.if-not-in_set.false) (sym c.lawful_mapping.ensures ∙ c.if-not-lawful_mapping.false)
    (ok-zero _ (sym c.check_group.ensures ∙ c.in_ok-check_group.was)) c.read_mapping.result c.read_mapping.ensures.0 c.node_count.result c.node_count.ensures false (sym c.mapping_below.ensures ∙ c.if-not-mapping_below.true))

pub returns : goal.returns
unfolding outcome refusal
returns c =
    let x = c.args in
    ap outcome (project-below x.cells.now x.g x.numbers.now (sym c.targets_given.ensures ∙ c.if-not-targets_given.false) (sym c.in_set.ensures ∙ c.if-not-in_set.false) (sym c.lawful_mapping.ensures ∙ c.if-not-lawful_mapping.false)
    (ok-zero _ (sym c.check_group.ensures ∙ c.in_ok-check_group.was)) c.read_mapping.result c.read_mapping.ensures.0 c.node_count.result c.node_count.ensures true (sym c.mapping_below.ensures ∙ c.if-not-mapping_below.false))

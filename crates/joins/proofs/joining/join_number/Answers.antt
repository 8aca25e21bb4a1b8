-- `joins::joining::join_number` meets its contract.
use mathlib.Core.Path.{refl, sym, ap, ◌∙◌}
use native.Mathlib.Omega.{arith}
use borrow.Author.Tests.{le-leb, lt-leb}
use Rattle.arena.specs.Layout.{decode as nodes}
use Rattle.arena.specs.Refusals.{outcome, refusal}
use Rattle.arena.proofs.Layouts.{lawful-holds}
use Rattle.group_checks.proofs.Checks.{limit-few}
use Rattle.joins.proofs.JoinNumbers.{join-kind, join-left-set, join-right-set, join-arena, join-left, join-right, join_odd, join-sides, used-few}
use Rattle.joins.proofs.joining.join_number.Goals as goal

pub returns-then-kind-gt9 : goal.returns-then-kind-gt9
unfolding outcome refusal
returns-then-kind-gt9 c =
    let x = c.args in
    ap outcome (join-kind x.cells.now x.left x.right x.kind x.pairs.now (lt-leb x.kind 9 (omega (arith, c.if-kind-gt9.true))))

pub returns-then-not-in_set : goal.returns-then-not-in_set
unfolding outcome refusal
returns-then-not-in_set c =
    let x = c.args in
    ap outcome (join-left-set x.cells.now x.left x.right x.kind x.pairs.now (le-leb x.kind 9 (omega arith)) (sym c.in_set.ensures ∙ c.if-not-in_set.true))

pub returns-then-not-in_set-2 : goal.returns-then-not-in_set-2
unfolding outcome refusal
returns-then-not-in_set-2 c =
    let x = c.args in
    ap outcome (join-right-set x.cells.now x.left x.right x.kind x.pairs.now (le-leb x.kind 9 (omega arith)) (sym c.in_set.ensures ∙ c.if-not-in_set.false) (sym c.in_set-2.ensures ∙ c.if-not-in_set-2.true))

pub returns-then-not-lawful_arena : goal.returns-then-not-lawful_arena
unfolding outcome refusal
returns-then-not-lawful_arena c =
    let x = c.args in
    ap outcome (join-arena x.cells.now x.left x.right x.kind x.pairs.now (le-leb x.kind 9 (omega arith)) (sym c.in_set.ensures ∙ c.if-not-in_set.false) (sym c.in_set-2.ensures ∙ c.if-not-in_set-2.false) (sym c.lawful_arena.ensures ∙ c.if-not-lawful_arena.true))

pub lawful_group-requires : goal.lawful_group-requires
lawful_group-requires c =
    let x = c.args in
    (lawful-holds x.cells.now (sym c.lawful_arena.ensures ∙ c.if-not-lawful_arena.false), limit-few x.left (sym c.in_set.ensures ∙ c.if-not-in_set.false))

pub returns-then-not-lawful_group : goal.returns-then-not-lawful_group
unfolding outcome refusal
returns-then-not-lawful_group c =
    let x = c.args in
    ap outcome (join-left x.cells.now x.left x.right x.kind x.pairs.now (le-leb x.kind 9 (omega arith)) (sym c.in_set.ensures ∙ c.if-not-in_set.false) (sym c.in_set-2.ensures ∙ c.if-not-in_set-2.false) (sym c.lawful_arena.ensures ∙ c.if-not-lawful_arena.false) (sym c.lawful_group.ensures ∙ c.if-not-lawful_group.true))

pub lawful_group-requires-2 : goal.lawful_group-requires-2
lawful_group-requires-2 c =
    let x = c.args in
    (lawful-holds x.cells.now (sym c.lawful_arena.ensures ∙ c.if-not-lawful_arena.false), limit-few x.right (sym c.in_set-2.ensures ∙ c.if-not-in_set-2.false))

pub returns-then-not-lawful_group-2 : goal.returns-then-not-lawful_group-2
unfolding outcome refusal
returns-then-not-lawful_group-2 c =
    let x = c.args in
    ap outcome (join-right x.cells.now x.left x.right x.kind x.pairs.now (le-leb x.kind 9 (omega arith)) (sym c.in_set.ensures ∙ c.if-not-in_set.false) (sym c.in_set-2.ensures ∙ c.if-not-in_set-2.false) (sym c.lawful_arena.ensures ∙ c.if-not-lawful_arena.false) (sym c.lawful_group.ensures ∙ c.if-not-lawful_group.false) (sym c.lawful_group-2.ensures ∙ c.if-not-lawful_group-2.true))

pub returns-then-pairs-ne0 : goal.returns-then-pairs-ne0
unfolding outcome refusal
returns-then-pairs-ne0 c =
    let x = c.args in
    ap outcome (join_odd x.cells.now x.left x.right x.kind x.pairs.now (le-leb x.kind 9 (omega arith)) (sym c.in_set.ensures ∙ c.if-not-in_set.false) (sym c.in_set-2.ensures ∙ c.if-not-in_set-2.false) (sym c.lawful_arena.ensures ∙ c.if-not-lawful_arena.false) (sym c.lawful_group.ensures ∙ c.if-not-lawful_group.false) (sym c.lawful_group-2.ensures ∙ c.if-not-lawful_group-2.false) c.if-pairs-ne0.true)

pub sides_number-requires : goal.sides_number-requires
sides_number-requires c =
    let x = c.args in
    let ns = nodes x.cells.now in (
      lawful-holds x.cells.now (sym c.lawful_arena.ensures ∙ c.if-not-lawful_arena.false),
      (used-few ns x.left (sym c.in_set.ensures ∙ c.if-not-in_set.false) (sym c.lawful_group.ensures ∙ c.if-not-lawful_group.false), used-few ns x.right (sym c.in_set-2.ensures ∙ c.if-not-in_set-2.false) (sym c.lawful_group-2.ensures ∙ c.if-not-lawful_group-2.false)),
    )

pub returns : goal.returns
returns c =
    let x = c.args in
    c.sides_number.ensures ∙ ap outcome (join-sides x.cells.now x.left x.right x.kind x.pairs.now (le-leb x.kind 9 (omega arith)) (sym c.in_set.ensures ∙ c.if-not-in_set.false) (sym c.in_set-2.ensures ∙ c.if-not-in_set-2.false) (sym c.lawful_arena.ensures ∙ c.if-not-lawful_arena.false) (sym c.lawful_group.ensures ∙ c.if-not-lawful_group.false) (sym c.lawful_group-2.ensures ∙ c.if-not-lawful_group-2.false) c.if-pairs-ne0.false _ refl)

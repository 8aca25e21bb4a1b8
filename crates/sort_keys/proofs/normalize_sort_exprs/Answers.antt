-- `sort_keys::normalize_sort_exprs` meets its contract.
use mathlib.Core.Bool.{true, false}
use mathlib.Core.Path.{◌≡◌, sym, ap, ◌∙◌}
use native.Mathlib.Omega.{arith}
use borrow.Author.Rules.{rules}
use Rattle.arena.specs.Layout.{count}
use Rattle.arena.specs.Refusals.{refusal, outcome}
use Rattle.arena.proofs.Layouts.{lawful-holds}
use Rattle.arena.proofs.Refusals.{handed-on, done-zero}
use Rattle.classes.specs.Calls.{group_number}
use Rattle.group_checks.proofs.HeldLaws.{number-lawful, number-held}
use Rattle.normal.proofs.Calling.{handed-back}
use Rattle.sort_keys.specs.Layout.{keys_of}
use Rattle.sort_keys.specs.Calls.{keys_number, normalize_sort_exprs}
use Rattle.sort_keys.proofs.KeyCalls.{Below, keys-known, keys-refused, options-unknown, group-outside, key-cut, keys-whole, keys-unknown, keys-sorted}
use Rattle.sort_keys.proofs.normalize_sort_exprs.Goals as goal
use Rattle.sort_keys.proofs.normalize_sort_exprs.Goals.{then-not-options_known-via-then-not-options_known, then-not-options_known-via-else-not-options_known+then-not-in_set}

pub returns-then-not-options_known : goal.returns-then-not-options_known
unfolding refusal
returns-then-not-options_known c =
    elim c.then-not-options_known.branch [
      | then-not-options_known-via-then-not-options_known w ↦ keys-refused c.args.keys.now c.args.cells.now c.args.group 12 (options-unknown c.args.keys.now c.args.cells.now c.args.group (sym c.options_known.ensures ∙ w.if-not-options_known.true)) (λ z. absurd (omega arith))
      | then-not-options_known-via-else-not-options_known+then-not-in_set w ↦ keys-refused c.args.keys.now c.args.cells.now c.args.group 12 (group-outside c.args.keys.now c.args.cells.now c.args.group (sym w.in_set.ensures ∙ w.if-not-in_set.true)) (λ z. absurd (omega arith))
    ]

pub returns-then-keys-ne0 : goal.returns-then-keys-ne0
unfolding refusal
returns-then-keys-ne0 c =
    let p = sym c.options_known.ensures ∙ c.if-not-options_known.false in
    let q = sym c.in_set.ensures ∙ c.if-not-in_set.false in
    keys-refused c.args.keys.now c.args.cells.now c.args.group 11 (key-cut c.args.keys.now c.args.cells.now c.args.group p q c.if-keys-ne0.true) (λ z. absurd (omega arith))

pub returns-in_err-check_group : goal.returns-in_err-check_group
returns-in_err-check_group c =
    let p = sym c.options_known.ensures ∙ c.if-not-options_known.false in
    let q = sym c.in_set.ensures ∙ c.if-not-in_set.false in
    let k = keys-whole c.args.keys.now c.args.cells.now c.args.group p q c.if-keys-ne0.false in
    handed-back (keys_number c.args.keys.now c.args.cells.now c.args.group) (normalize_sort_exprs (keys_of c.args.keys.now)) c.args.cells.now c.args.group _ _ (ap outcome k ∙ sym c.in_err-check_group.ensures) (handed-on _ _ c.from_residual.ensures.1)

pub returns-then-not-exprs_below : goal.returns-then-not-exprs_below
returns-then-not-exprs_below c =
    let p = sym c.options_known.ensures ∙ c.if-not-options_known.false in
    let q = sym c.in_set.ensures ∙ c.if-not-in_set.false in
    let z : group_number c.args.cells.now c.args.group ≡ 0 = done-zero _ (sym c.in_ok-check_group.ensures) in
    let k : keys_number c.args.keys.now c.args.cells.now c.args.group ≡ 0 = keys-whole c.args.keys.now c.args.cells.now c.args.group p q c.if-keys-ne0.false ∙ z in
    let h = lawful-holds c.args.cells.now (number-lawful c.args.cells.now c.args.group z) in
    let t : Below c.args.keys.now (count c.args.cells.now) ≡ false = sym (rw c.node_count-n.ensures at c.exprs_below.ensures) ∙ c.if-not-exprs_below.true in
    keys-unknown c.args.keys.now c.args.cells.now c.args.group k h t

pub sort_in-requires : goal.sort_in-requires
sort_in-requires c =
    let p = sym c.options_known.ensures ∙ c.if-not-options_known.false in
    let z : group_number c.args.cells.now c.args.group ≡ 0 = done-zero _ (sym c.in_ok-check_group.ensures) in
    let h = lawful-holds c.args.cells.now (number-lawful c.args.cells.now c.args.group z) in
    let t : Below c.args.keys.now (count c.args.cells.now) ≡ true = sym (rw c.node_count-n.ensures at c.exprs_below.ensures) ∙ c.if-not-exprs_below.false in
    ((h, keys-known c.args.keys.now (count c.args.cells.now) p t), number-held c.args.cells.now c.args.group (search rules) (search rules) (search rules) (search rules) z)

pub returns : goal.returns
returns c =
    let p = sym c.options_known.ensures ∙ c.if-not-options_known.false in
    let q = sym c.in_set.ensures ∙ c.if-not-in_set.false in
    let z : group_number c.args.cells.now c.args.group ≡ 0 = done-zero _ (sym c.in_ok-check_group.ensures) in
    let k : keys_number c.args.keys.now c.args.cells.now c.args.group ≡ 0 = keys-whole c.args.keys.now c.args.cells.now c.args.group p q c.if-keys-ne0.false ∙ z in
    let h = lawful-holds c.args.cells.now (number-lawful c.args.cells.now c.args.group z) in
    let t : Below c.args.keys.now (count c.args.cells.now) ≡ true = sym (rw c.node_count-n.ensures at c.exprs_below.ensures) ∙ c.if-not-exprs_below.false in
    keys-sorted c.args.keys.now c.args.cells.now c.args.group k h t (c.sort_in.result, c.sort_in.new.cells) c.sort_in.ensures

-- `conditions::add_constant` meets its contract.
use Prim.Native.Nat.{◌≤◌, ◌<◌, ◌+◌}
use mathlib.Core.Bool.{true}
use mathlib.Core.Path.{◌≡◌, sym, ap, ◌∙◌}
use native.Mathlib.Omega.{arith}
use borrow.Author.Rules.{rules}
use lib.ListN.{length}
use mathlib.Core.Path.{refl}
use Rattle.arena.specs.declared.Refusal.TheVariants.{BadNumber, UnknownExpression}
use Rattle.arena.specs.Refusals.{refusal}
use Rattle.arena.proofs.Refusals.{done-zero}
use Rattle.arena.specs.Layout.{decode as nodes}
use Rattle.arena.proofs.Layouts.{length-decode}
use Rattle.classes.specs.Layout.{decode, constant_from}
use Rattle.classes.specs.Calls.{changed}
use Rattle.group_checks.proofs.HeldLaws.{number-held}
use Rattle.classes.proofs.Judging.{refusal_is, handed_back_lem}
use Rattle.group_checks.proofs.Calling.{group-done, group-refused, number-known}
use Rattle.conditions.specs.Steps.{add_constant}
use Rattle.conditions.proofs.Calling.{say-unknown, say-known, said-small, constant-said, constant_unsaid}
use Rattle.conditions.proofs.add_constant.Goals as goal

pub returns-then-not-can_say : goal.returns-then-not-can_say
returns-then-not-can_say c =
    refusal_is c.refusal.result BadNumber c.args.group c.refusal.ensures ∙ sym (constant_unsaid c.args.cells.now c.args.group c.args.expr c.args.flavour c.args.value (sym c.can_say.ensures ∙ c.if-not-can_say.true))

pub returns-in-Err : goal.returns-in-Err
returns-in-Err c =
    refusal_is c.refusal-in-Err.result c.in-Err.why c.args.group c.refusal-in-Err.ensures ∙ group-refused c.args.cells.now c.args.group (λ ns cs. add_constant true c.args.group.limit ns c.args.expr (constant_from (c.args.flavour + 1) c.args.value) cs) c.in-Err.why (sym c.check_group.ensures ∙ c.in-Err.is) ∙ sym (constant-said c.args.cells.now c.args.group c.args.expr c.args.flavour c.args.value (sym c.can_say.ensures ∙ c.if-not-can_say.false))

pub returns-then-n-wide : goal.returns-then-n-wide
unfolding refusal
returns-then-n-wide c =
    let sz : length c.args.group.sizes ≡ 64 = search rules in
    let fl : length c.args.group.flavours ≡ 64 = search rules in
    let vl : length c.args.group.values ≡ 64 = search rules in
    let mm : length c.args.group.members ≡ 256 = search rules in
    let h = number-held c.args.cells.now c.args.group sz fl vl mm (done-zero _ (sym c.check_group.ensures ∙ c.in_default.is)) in
    let l : length (nodes c.args.cells.now) ≤ c.args.expr = omega (arith, length-decode c.args.cells.now, c.node_count-n.ensures, c.wide.ensures) in
    refusal_is c.refusal-then-n-wide.result UnknownExpression c.args.group c.refusal-then-n-wide.ensures ∙ sym (constant-said c.args.cells.now c.args.group c.args.expr c.args.flavour c.args.value (sym c.can_say.ensures ∙ c.if-not-can_say.false) ∙ group-done c.args.cells.now c.args.group (λ ns cs. add_constant true c.args.group.limit ns c.args.expr (constant_from (c.args.flavour + 1) c.args.value) cs) (sym c.check_group.ensures ∙ c.in_default.is) ∙ ap (changed c.args.group.limit) (say-unknown c.args.group.limit (nodes c.args.cells.now) (decode c.args.group) c.args.expr (constant_from (c.args.flavour + 1) c.args.value) l) ∙ handed_back_lem c.args.group 1 refl h.coded)

pub overflow_add-flavour : goal.overflow_add-flavour
overflow_add-flavour c =
    omega (arith, said-small c.args.flavour c.args.value (sym c.can_say.ensures ∙ c.if-not-can_say.false))

pub add_constant_in-requires : goal.add_constant_in-requires
add_constant_in-requires c =
    let sz : length c.args.group.sizes ≡ 64 = search rules in
    let fl : length c.args.group.flavours ≡ 64 = search rules in
    let vl : length c.args.group.values ≡ 64 = search rules in
    let mm : length c.args.group.members ≡ 256 = search rules in
    let h = number-held c.args.cells.now c.args.group sz fl vl mm (done-zero _ (sym c.check_group.ensures ∙ c.in_default.is)) in
    (h, number-known c.args.cells.now c.args.group c.args.expr (sym c.check_group.ensures ∙ c.in_default.is) (omega (arith, c.node_count-n.ensures, c.wide.ensures)))

pub returns : goal.returns
returns c =
    let l : c.args.expr < length (nodes c.args.cells.now) = omega (arith, length-decode c.args.cells.now, c.node_count-n.ensures, c.wide.ensures) in
    c.add_constant_in.ensures ∙ rw c.from_numbers-said.ensures (sym (constant-said c.args.cells.now c.args.group c.args.expr c.args.flavour c.args.value (sym c.can_say.ensures ∙ c.if-not-can_say.false) ∙ group-done c.args.cells.now c.args.group (λ ns cs. add_constant true c.args.group.limit ns c.args.expr (constant_from (c.args.flavour + 1) c.args.value) cs) (sym c.check_group.ensures ∙ c.in_default.is) ∙ ap (changed c.args.group.limit) (say-known c.args.group.limit (nodes c.args.cells.now) (decode c.args.group) c.args.expr (constant_from (c.args.flavour + 1) c.args.value) l)))

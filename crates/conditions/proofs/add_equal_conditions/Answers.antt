-- `conditions::add_equal_conditions` meets its contract.
use Prim.Native.Nat.{◌≤◌, ◌<◌}
use mathlib.Core.Path.{◌≡◌, sym, ap, ◌∙◌}
use native.Mathlib.Omega.{arith}
use borrow.Author.Rules.{rules}
use lib.ListN.{length}
use mathlib.Core.Path.{refl}
use Rattle.arena.specs.declared.Refusal.TheVariants.{UnknownExpression}
use Rattle.arena.specs.Refusals.{refusal}
use Rattle.arena.proofs.Refusals.{done-zero}
use Rattle.arena.specs.Layout.{decode as nodes}
use Rattle.arena.proofs.Layouts.{length-decode}
use Rattle.classes.specs.Layout.{decode}
use Rattle.classes.specs.Calls.{changed}
use Rattle.group_checks.proofs.HeldLaws.{number-held}
use Rattle.classes.proofs.Judging.{refusal_is, handed_back_lem}
use Rattle.group_checks.proofs.Calling.{group-done, group-refused, number-known}
use Rattle.conditions.specs.Steps.{add_equal}
use Rattle.conditions.proofs.Calling.{add_left, add_right, add-both}
use Rattle.conditions.proofs.add_equal_conditions.Goals as goal

pub returns-in-Err : goal.returns-in-Err
returns-in-Err c =
    refusal_is c.refusal.result c.in-Err.why c.args.group c.refusal.ensures ∙ group-refused c.args.cells.now c.args.group (λ ns cs. add_equal c.args.group.limit ns c.args.left c.args.right cs) c.in-Err.why (sym c.check_group.ensures ∙ c.in-Err.is)

pub returns-then-n-wide : goal.returns-then-n-wide
unfolding refusal
returns-then-n-wide c =
    let sz : length c.args.group.sizes ≡ 64 = search rules in
    let fl : length c.args.group.flavours ≡ 64 = search rules in
    let vl : length c.args.group.values ≡ 64 = search rules in
    let mm : length c.args.group.members ≡ 256 = search rules in
    let h = number-held c.args.cells.now c.args.group sz fl vl mm (done-zero _ (sym c.check_group.ensures ∙ c.in_default.is)) in
    let l : length (nodes c.args.cells.now) ≤ c.args.left = omega (arith, length-decode c.args.cells.now, c.node_count-n.ensures, c.wide.ensures) in
    refusal_is c.refusal-then-n-wide.result UnknownExpression c.args.group c.refusal-then-n-wide.ensures ∙ sym (group-done c.args.cells.now c.args.group (λ ns cs. add_equal c.args.group.limit ns c.args.left c.args.right cs) (sym c.check_group.ensures ∙ c.in_default.is) ∙ ap (changed c.args.group.limit) (add_left c.args.group.limit (nodes c.args.cells.now) (decode c.args.group) c.args.left c.args.right l) ∙ handed_back_lem c.args.group 1 refl h.coded)

pub returns-then-n-wide-2 : goal.returns-then-n-wide-2
unfolding refusal
returns-then-n-wide-2 c =
    let sz : length c.args.group.sizes ≡ 64 = search rules in
    let fl : length c.args.group.flavours ≡ 64 = search rules in
    let vl : length c.args.group.values ≡ 64 = search rules in
    let mm : length c.args.group.members ≡ 256 = search rules in
    let h = number-held c.args.cells.now c.args.group sz fl vl mm (done-zero _ (sym c.check_group.ensures ∙ c.in_default.is)) in
    let l : length (nodes c.args.cells.now) ≤ c.args.right = omega (arith, length-decode c.args.cells.now, c.node_count-n.ensures, c.wide-2.ensures) in
    refusal_is c.refusal-then-n-wide-2.result UnknownExpression c.args.group c.refusal-then-n-wide-2.ensures ∙ sym (group-done c.args.cells.now c.args.group (λ ns cs. add_equal c.args.group.limit ns c.args.left c.args.right cs) (sym c.check_group.ensures ∙ c.in_default.is) ∙ ap (changed c.args.group.limit) (add_right c.args.group.limit (nodes c.args.cells.now) (decode c.args.group) c.args.left c.args.right l) ∙ handed_back_lem c.args.group 1 refl h.coded)

pub equal_condition_in-requires : goal.equal_condition_in-requires
equal_condition_in-requires c =
    let sz : length c.args.group.sizes ≡ 64 = search rules in
    let fl : length c.args.group.flavours ≡ 64 = search rules in
    let vl : length c.args.group.values ≡ 64 = search rules in
    let mm : length c.args.group.members ≡ 256 = search rules in
    let h = number-held c.args.cells.now c.args.group sz fl vl mm (done-zero _ (sym c.check_group.ensures ∙ c.in_default.is)) in
    let z = (sym c.check_group.ensures ∙ c.in_default.is) in
    (h, (number-known c.args.cells.now c.args.group c.args.left z (omega (arith, c.node_count-n.ensures, c.wide.ensures)), number-known c.args.cells.now c.args.group c.args.right z (omega (arith, c.node_count-n.ensures, c.wide-2.ensures))))

pub returns : goal.returns
returns c =
    let l : c.args.left < length (nodes c.args.cells.now) = omega (arith, length-decode c.args.cells.now, c.node_count-n.ensures, c.wide.ensures) in
    let m : c.args.right < length (nodes c.args.cells.now) = omega (arith, length-decode c.args.cells.now, c.node_count-n.ensures, c.wide-2.ensures) in
    c.equal_condition_in.ensures ∙ sym (group-done c.args.cells.now c.args.group (λ ns cs. add_equal c.args.group.limit ns c.args.left c.args.right cs) (sym c.check_group.ensures ∙ c.in_default.is) ∙ ap (changed c.args.group.limit) (add-both c.args.group.limit (nodes c.args.cells.now) (decode c.args.group) c.args.left c.args.right l m))

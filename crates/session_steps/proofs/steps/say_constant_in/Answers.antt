-- `session_steps::steps::say_constant_in` meets its contract.
use Rattle.arena.specs.declared.Refusal.TheVariants.{UnknownExpression, BadNumber}
use Rattle.arena.specs.Refusals.{refusal}
use Prim.Native.Nat.{ℕ, ◌+◌, ◌<◌, ◌≤◌}
use mathlib.Core.Bool.{true, false}
use mathlib.Core.Path.{◌≡◌, refl, sym, ap, ◌∙◌}
use native.Mathlib.Omega.{arith}
use lib.ListN.{length}
use Rattle.arena.specs.Layout.{decode as nodes_in}
use Rattle.arena.proofs.Layouts.{length-decode}
use Rattle.classes.specs.Layout.{decode, constant_from}
use Rattle.classes.specs.Group.{with_constant}
use Rattle.classes.specs.Steps.{judged}
use Rattle.classes.specs.Calls.{changed}
use Rattle.conditions.specs.Calls.{sayable}
use Rattle.classes.proofs.Judging.{refusal_is, handed_back_lem}
use Rattle.session_steps.proofs.Deciding.{said-never, said-unknown, said-known}
use Rattle.session_steps.proofs.steps.say_constant_in.Goals as goal

pub returns-then-not-can_say : goal.returns-then-not-can_say
unfolding refusal
returns-then-not-can_say c =
    let s : sayable c.args.flavour c.args.value ≡ false = sym (rw c.from.ensures at c.can_say.ensures) ∙ c.if-not-can_say.true in
    refusal_is c.refusal.result BadNumber c.args.g c.refusal.ensures
    ∙ sym (ap (changed c.args.g.limit) (said-never c.args.e c.args.flavour c.args.value (nodes_in c.args.cells.now) (decode c.args.g) s) ∙ handed_back_lem c.args.g 12 refl c.requires.0.1.coded)

pub returns-then-n-index : goal.returns-then-n-index
unfolding refusal
returns-then-n-index c =
    let s : sayable c.args.flavour c.args.value ≡ true = sym (rw c.from.ensures at c.can_say.ensures) ∙ c.if-not-can_say.false in
    let l : length (nodes_in c.args.cells.now) ≤ c.args.e = omega (arith, length-decode c.args.cells.now, c.node_count-n.ensures, c.index.ensures.0, c.if-n-index.true) in
    refusal_is c.refusal-then-n-index.result UnknownExpression c.args.g c.refusal-then-n-index.ensures
    ∙ sym (ap (changed c.args.g.limit) (said-unknown c.args.e c.args.flavour c.args.value (nodes_in c.args.cells.now) (decode c.args.g) s l) ∙ handed_back_lem c.args.g 1 refl c.requires.0.1.coded)

pub add_constant_in-requires : goal.add_constant_in-requires
add_constant_in-requires c =
    (c.requires.0.1, rw c.from-3.ensures (record { holds = c.requires.0.0; below = omega (arith, c.node_count-n.ensures, c.index.ensures.0, c.if-n-index.false) }))

pub returns : goal.returns
returns c =
    let s : sayable c.args.flavour c.args.value ≡ true = sym (rw c.from.ensures at c.can_say.ensures) ∙ c.if-not-can_say.false in
    let l : c.args.e < length (nodes_in c.args.cells.now) = omega (arith, length-decode c.args.cells.now, c.node_count-n.ensures, c.index.ensures.0, c.if-n-index.false) in
    rw (c.from-3.ensures, c.from_numbers-said.ensures, c.from-2.ensures) at c.add_constant_in.ensures
    ∙ ap (λ (n : ℕ). changed c.args.g.limit (judged n (decode c.args.g) (false, with_constant true (nodes_in c.args.cells.now) (decode c.args.g) c.args.e (constant_from (c.args.flavour + 1) c.args.value)))) c.requires.1
    ∙ sym (ap (changed c.args.g.limit) (said-known c.args.e c.args.flavour c.args.value (nodes_in c.args.cells.now) (decode c.args.g) s l))

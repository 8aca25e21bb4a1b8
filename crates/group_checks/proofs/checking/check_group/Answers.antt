-- `group_checks::checking::check_group` meets its contract.
use Prim.Native.Nat.{ℕ}
use mathlib.Core.Bool.{true, false}
use mathlib.Core.Path.{◌≡◌, sym, ap, ◌∙◌}
use native.Mathlib.Omega.{arith}
use lib.Dec.{ltb}
use lib.ListN.{get_or}
use Rattle.laws.specs.Tests.{each}
use Rattle.arena.specs.Layout.{lawful, decode as nodes}
use Rattle.arena.proofs.Layouts.{length-decode, lawful-holds}
use Rattle.classes.specs.Layout.{in_set, lawful_group, members_inside}
use Rattle.classes.specs.Calls.{group_number}
use Rattle.group_checks.proofs.Checks.{limit-few, group-counts}
use Rattle.arena.specs.Refusals.{outcome, refusal}
use Rattle.group_checks.proofs.checking.check_group.Goals as goal

pub returns-then-not-in_set : goal.returns-then-not-in_set
unfolding group_number outcome refusal
returns-then-not-in_set c =
    let s : in_set c.args.g ≡ false = sym c.in_set.ensures ∙ c.if-not-in_set.true in
    rw s

pub returns-then-not-lawful_arena : goal.returns-then-not-lawful_arena
unfolding group_number outcome refusal
returns-then-not-lawful_arena c =
    let s : in_set c.args.g ≡ true = sym c.in_set.ensures ∙ c.if-not-in_set.false in
    let a : lawful c.args.cells.now ≡ false = sym c.lawful_arena.ensures ∙ c.if-not-lawful_arena.true in
    rw (s, a)

pub lawful_group-requires : goal.lawful_group-requires
lawful_group-requires c =
    let x = c.args in
    let s : in_set x.g ≡ true = sym c.in_set.ensures ∙ c.if-not-in_set.false in
    let a : lawful x.cells.now ≡ true = sym c.lawful_arena.ensures ∙ c.if-not-lawful_arena.false in
    (lawful-holds x.cells.now a, limit-few x.g s)

pub returns-then-not-lawful_group : goal.returns-then-not-lawful_group
unfolding group_number outcome refusal
returns-then-not-lawful_group c =
    let x = c.args in
    let s : in_set x.g ≡ true = sym c.in_set.ensures ∙ c.if-not-in_set.false in
    let a : lawful x.cells.now ≡ true = sym c.lawful_arena.ensures ∙ c.if-not-lawful_arena.false in
    let l : lawful_group (nodes x.cells.now) x.g ≡ false = sym c.lawful_group.ensures ∙ c.if-not-lawful_group.true in
    rw (s, a, l)

pub members_below-requires : goal.members_below-requires
members_below-requires c =
    let x = c.args in
    let s : in_set x.g ≡ true = sym c.in_set.ensures ∙ c.if-not-in_set.false in
    let l : lawful_group (nodes x.cells.now) x.g ≡ true = sym c.lawful_group.ensures ∙ c.if-not-lawful_group.false in
    omega (arith, limit-few x.g s, group-counts (nodes x.cells.now) x.g l)

pub returns-then-not-members_below : goal.returns-then-not-members_below
unfolding group_number members_inside outcome refusal
returns-then-not-members_below c =
    let x = c.args in
    let s : in_set x.g ≡ true = sym c.in_set.ensures ∙ c.if-not-in_set.false in
    let a : lawful x.cells.now ≡ true = sym c.lawful_arena.ensures ∙ c.if-not-lawful_arena.false in
    let l : lawful_group (nodes x.cells.now) x.g ≡ true = sym c.lawful_group.ensures ∙ c.if-not-lawful_group.false in
    let m : members_inside (nodes x.cells.now) x.g ≡ false = ap (λ (n : ℕ). each (λ k. ltb (get_or x.g.members k 0) n) x.g.used) (length-decode x.cells.now ∙ sym c.node_count-n.ensures) ∙ sym c.members_below.ensures ∙ c.if-not-members_below.true in
    rw (s, a, l, m)

pub returns : goal.returns
unfolding group_number members_inside outcome refusal
returns c =
    let x = c.args in
    let s : in_set x.g ≡ true = sym c.in_set.ensures ∙ c.if-not-in_set.false in
    let a : lawful x.cells.now ≡ true = sym c.lawful_arena.ensures ∙ c.if-not-lawful_arena.false in
    let l : lawful_group (nodes x.cells.now) x.g ≡ true = sym c.lawful_group.ensures ∙ c.if-not-lawful_group.false in
    let m : members_inside (nodes x.cells.now) x.g ≡ true = ap (λ (n : ℕ). each (λ k. ltb (get_or x.g.members k 0) n) x.g.used) (length-decode x.cells.now ∙ sym c.node_count-n.ensures) ∙ sym c.members_below.ensures ∙ c.if-not-members_below.false in
    rw (s, a, l, m)

-- `dependency_orderings::gathering::add_place` meets its contract.
use mathlib.Core.Path.{sym, subst}
use Rattle.std.specs.Prelude.{Result}
use native.Mathlib.Omega.{arith}
use Rattle.arena.specs.declared.Refusal.{Refusal}
use Rattle.arena.proofs.Refusals.{handed-on}
use Rattle.dependency_orderings.specs.Inner.{Steps, stepped}
use Rattle.dependency_orderings.proofs.GatherLaws.{standing-key, steps-walked, steps_halt, steps-found}
use Rattle.dependency_orderings.proofs.gathering.add_place.Goals as goal

pub bounds-g-place : goal.bounds-g-place
bounds-g-place c = omega (arith, c.requires.0.0.few, c.requires.0.1)

pub returns-then-g-place : goal.returns-then-g-place
unfolding stepped
returns-then-g-place c =
    λ k p. steps-walked c.args.m c.args.g.now k c.requires.1 c.args.place p c.if-g-place.true

pub prefixes_at-requires : goal.prefixes_at-requires
prefixes_at-requires c = (c.requires.0, c.requires.1.room)

pub returns-in_err-found : goal.returns-in_err-found
unfolding stepped
returns-in_err-found c =
    λ k p. subst (λ (r : Result (Unit {0}) Refusal). Steps c.args.m c.args.g.now k (stepped c.args.g.now r)) (sym (handed-on _ _ c.from_residual.ensures.1)) (steps_halt c.args.m c.args.g.now k c.requires.1 c.args.place p _ c.in_err-found.ensures)

pub note_key-requires : goal.note_key-requires
note_key-requires c = omega (arith, c.requires.0.0.few, c.requires.0.1)

pub add_found-requires : goal.add_found-requires
add_found-requires c = rw c.note_key.ensures (standing-key c.args.g.now c.args.place c.requires.1)

pub returns : goal.returns
unfolding stepped
returns c =
    λ k p. rw (c.add_found.ensures, c.note_key.ensures) (steps-found c.args.m c.args.g.now k c.requires.1 c.args.place p _ c.in_ok-found.ensures c.if-g-place.false (omega (arith, c.requires.0.0.few, c.requires.0.1)))

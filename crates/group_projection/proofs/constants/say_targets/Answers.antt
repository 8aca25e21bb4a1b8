-- `group_projection::constants::say_targets` meets its contract.
use mathlib.Core.Path.{refl, sym}
use native.Mathlib.Omega.{arith}
use lib.ListN.{get_or}
use Rattle.arena.specs.Layout.{decode as nodes}
use Rattle.arena.proofs.Layouts.{length-decode}
use Rattle.classes.specs.Layout.{decode}
use Rattle.mappings.specs.Layout.{mapped_of}
use Rattle.mappings.proofs.Targets.{mapped-length, mapped-target}
use Rattle.arena.proofs.Refusals.{handed-on}
use Rattle.group_projection.proofs.ConstantLaws.{said-begins, said-ends, target-over, target_more}
use Rattle.group_projection.proofs.constants.say_targets.Goals as goal

pub loop-k-init : goal.loop-k-init
loop-k-init c =
    said-begins (nodes c.args.cells.now) c.args.said (mapped_of c.args.source).targets (decode c.args.out) c.args.out c.requires.0.1 refl

pub bounds-source-k : goal.bounds-source-k
bounds-source-k c = omega (arith, c.loop-k-test.true, c.requires.1.0)

pub add_constant_in-step-requires : goal.add_constant_in-step-requires
add_constant_in-step-requires c =
    let o = c.loop-k in
    (o.invariant.made.held, record { holds = c.requires.0.0; below = c.requires.1.1 o.k c.loop-k-test.true })

pub returns-in_err-step : goal.returns-in_err-step
returns-in_err-step c =
    let o = c.loop-k in
    let t = c.args.source in
    rw (handed-on _ _ c.from_residual.ensures.1) (target-over (nodes c.args.cells.now) c.args.said (mapped_of c.args.source).targets (decode c.args.out) o.group o.k o.invariant (get_or t.targets o.k 0) (omega (arith, mapped-length t, c.loop-k-test.true)) (sym (mapped-target t o.k c.loop-k-test.true)) c.add_constant_in-step.result c.add_constant_in-step.ensures _ c.in_err-step.was)

pub loop-k-preserved : goal.loop-k-preserved
loop-k-preserved c =
    let o = c.loop-k in
    let t = c.args.source in
    let l = c.loop-k-test.true in
    target_more (nodes c.args.cells.now) c.args.said (mapped_of c.args.source).targets (decode c.args.out) o.group o.k o.invariant (get_or t.targets o.k 0) (omega (arith, mapped-length t, l)) (sym (mapped-target t o.k l)) c.add_constant_in-step.result c.add_constant_in-step.ensures (omega (arith, c.requires.1.1 o.k l, length-decode c.args.cells.now)) c.in_ok-step.field-0 c.in_ok-step.was

pub returns : goal.returns
returns c =
    let o = c.loop-k in
    said-ends (nodes c.args.cells.now) c.args.said (mapped_of c.args.source).targets (decode c.args.out) o.group o.k o.invariant (omega (arith, mapped-length c.args.source, c.loop-k-test.false))

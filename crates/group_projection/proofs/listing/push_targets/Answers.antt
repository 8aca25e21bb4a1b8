-- `group_projection::listing::push_targets` meets its contract.
use mathlib.Core.List.{[], ◌∷◌}
use mathlib.Core.Path.{refl}
use native.Mathlib.Omega.{arith}
use Rattle.arena.specs.Layout.{decode as nodes}
use Rattle.classes.specs.Group.{class_at}
use Rattle.classes.specs.Layout.{decode}
use Rattle.mappings.specs.Layout.{mapped_of}
use Rattle.merging.specs.Extending.{pushed_all}
use Rattle.arena.proofs.Refusals.{handed-on}
use Rattle.group_projection.proofs.ListedLaws.{lists-one, lists-made}
use Rattle.group_projection.proofs.SourceLaws.{first_targets, targets-begin, targets-more, targets-over, targets_end}
use Rattle.group_projection.proofs.listing.push_targets.Goals as goal

pub loop-k-init : goal.loop-k-init
loop-k-init c = targets-begin (nodes c.args.cells.now) c.args.source c.args.one c.requires.0.0

pub bounds-source-k : goal.bounds-source-k
bounds-source-k c = omega (arith, c.requires.1.0, c.loop-k-test.true)

pub push_target-requires : goal.push_target-requires
push_target-requires c =
    let o = c.loop-k in (
      lists-one o.out (pushed_all (nodes c.args.cells.now) (class_at (decode c.args.one) 0) (first_targets c.args.source o.k)) o.invariant,
      record { holds = c.requires.0.1; below = c.requires.1.1 o.k c.loop-k-test.true },
    )

pub returns-in_err-out : goal.returns-in_err-out
returns-in_err-out c =
    let o = c.loop-k in
    rw (handed-on _ _ c.from_residual.ensures.1) (targets-over (nodes c.args.cells.now) (class_at (decode c.args.one) 0) c.args.source o.k c.loop-k-test.true o.out o.invariant _ refl c.push_target.result c.push_target.ensures _ c.in_err-out.was)

pub loop-k-preserved : goal.loop-k-preserved
loop-k-preserved c =
    let o = c.loop-k in
    targets-more (nodes c.args.cells.now) (class_at (decode c.args.one) 0) c.args.source o.k c.loop-k-test.true o.out o.invariant _ refl c.push_target.result c.push_target.ensures c.in_ok-out.out c.in_ok-out.was

pub returns : goal.returns
returns c =
    let o = c.loop-k in
    lists-made o.out (pushed_all (nodes c.args.cells.now) (class_at (decode c.args.one) 0) (mapped_of c.args.source).targets ∷ [])
    (targets_end (nodes c.args.cells.now) (class_at (decode c.args.one) 0) c.args.source o.k o.out (omega (arith, c.loop-k-test.false)) o.invariant)

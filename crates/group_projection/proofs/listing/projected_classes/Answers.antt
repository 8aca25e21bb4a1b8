-- `group_projection::listing::projected_classes` meets its contract.
use native.Mathlib.Omega.{arith}
use Rattle.arena.specs.Layout.{count, decode as nodes}
use Rattle.classes.specs.Layout.{decode}
use Rattle.classes.proofs.Codec.{size_is}
use Rattle.arena.proofs.Refusals.{handed-on}
use Rattle.group_projection.proofs.ListedLaws.{lists-made}
use Rattle.group_projection.proofs.ProjectedParts.{part-inside, part-next, part-entries, all_telling, front-begins, front-asks, front-more, front-over, front_ends, none_before}
use borrow.Author.Rules.{rules}
use Rattle.group_projection.proofs.listing.projected_classes.Goals as goal

pub loop-j-init : goal.loop-j-init
loop-j-init c =
    (none_before (decode c.args.g), front-begins (nodes c.args.cells.now) c.args.table.now c.args.g c.empty-out.result c.empty-out.ensures)

pub bounds-g-j : goal.bounds-g-j
bounds-g-j c = omega (arith, c.requires.0.1.few, c.loop-j-test.true)

pub projected_class-requires : goal.projected_class-requires
projected_class-requires c =
    let o = c.loop-j in
    let z = size_is c.args.g c.requires.0.1 o.j in (
      (c.requires.0.0, omega (arith, part-inside c.args.g c.requires.0.1 o.j o.start _ o.invariant.0 z, c.requires.0.1.small)),
      part-entries c.args.g c.requires.0.1 o.j o.start _ o.invariant.0 z (count c.args.cells.now) c.args.table.now c.requires.1,
    )

pub keep_class-requires : goal.keep_class-requires
keep_class-requires c =
    let o = c.loop-j in
    front-asks (nodes c.args.cells.now) c.args.table.now c.args.g c.requires.0.1 o.j c.loop-j-test.true o.start _ o.invariant.0 (size_is c.args.g c.requires.0.1 o.j) o.out o.invariant.1 c.projected_class.result c.projected_class.ensures

pub returns-in_err-out : goal.returns-in_err-out
returns-in_err-out c =
    let o = c.loop-j in
    rw (handed-on _ _ c.from_residual.ensures.1) (front-over (nodes c.args.cells.now) c.args.table.now c.args.g c.requires.0.1 o.j c.loop-j-test.true o.start _ o.invariant.0 (size_is c.args.g c.requires.0.1 o.j) o.out o.invariant.1 c.projected_class.result c.projected_class.ensures
    c.keep_class.result c.keep_class.ensures _ c.in_err-out.was)

pub overflow_add-start : goal.overflow_add-start
overflow_add-start c =
    let o = c.loop-j in
    let i = part-inside c.args.g c.requires.0.1 o.j o.start _ o.invariant.0 (size_is c.args.g c.requires.0.1 o.j) in
    search rules

pub loop-j-preserved : goal.loop-j-preserved
loop-j-preserved c =
    let o = c.loop-j in
    let z = size_is c.args.g c.requires.0.1 o.j in (
      part-next c.args.g c.requires.0.1 o.j o.start _ o.invariant.0 z,
      front-more (nodes c.args.cells.now) c.args.table.now c.args.g c.requires.0.1 o.j c.loop-j-test.true o.start _ o.invariant.0 z o.out o.invariant.1 c.projected_class.result c.projected_class.ensures
          c.keep_class.result c.keep_class.ensures c.in_ok-out.out c.in_ok-out.was,
    )

pub returns : goal.returns
returns c =
    let o = c.loop-j in
    lists-made o.out (all_telling (nodes c.args.cells.now) c.args.table.now c.args.g)
    (front_ends (nodes c.args.cells.now) c.args.table.now c.args.g o.j o.out (omega (arith, c.loop-j-test.false)) o.invariant.1)

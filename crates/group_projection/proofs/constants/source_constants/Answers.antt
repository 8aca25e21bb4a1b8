-- `group_projection::constants::source_constants` meets its contract.
use Prim.Native.Nat.{ℕ}
use mathlib.Core.Path.{refl, sym, subst}
use native.Mathlib.Omega.{arith}
use Rattle.arena.specs.Layout.{count, decode as nodes}
use Rattle.arena.proofs.Layouts.{length-decode}
use Rattle.classes.specs.Layout.{decode}
use Rattle.merging.specs.Inner.{AllBelow}
use Rattle.mappings.specs.Layout.{mapped_of, decode as mapping}
use Rattle.mappings.proofs.Targets.{decode-length, targets-below}
use Rattle.mappings.proofs.PlaceReads.{read_in, read-rest, read_below, read-few, read-targets}
use Rattle.arena.proofs.Refusals.{handed-on}
use Rattle.group_projection.proofs.ConstantLaws.{sources-begin, sources_end, source-over, source_more}
use Rattle.group_projection.proofs.constants.source_constants.Goals as goal

pub loop-i-init : goal.loop-i-init
loop-i-init c =
    let m = c.args.m in
    sources-begin (nodes c.args.cells.now) (decode c.args.g) (mapping m) (decode c.args.out) c.args.out c.requires.0.1 refl

pub bounds-m-i : goal.bounds-m-i
bounds-m-i c = omega (arith, c.loop-i-test.true, c.requires.1.1.bounded.few)

pub say_source-requires : goal.say_source-requires
say_source-requires c =
    let m = c.args.m in
    let o = c.loop-i in
    let l = c.loop-i-test.true in
    (((c.requires.0.0, o.invariant.made), (c.requires.1.0, read_below m o.i l (count c.args.cells.now) c.requires.1.1)), (read-few m o.i l (count c.args.cells.now) c.requires.1.1, read-targets m o.i l (count c.args.cells.now) c.requires.1.1))

pub returns-in_err-group : goal.returns-in_err-group
returns-in_err-group c =
    let m = c.args.m in
    let o = c.loop-i in
    rw (handed-on _ _ c.from_residual.ensures.1) (source-over (nodes c.args.cells.now) (decode c.args.g) (mapping m) (decode c.args.out) o.group o.i o.invariant (mapped_of (read_in m o.i)) (read-rest m o.i c.loop-i-test.true) c.say_source.result c.say_source.ensures _ c.in_err-group.was)

pub loop-i-preserved : goal.loop-i-preserved
loop-i-preserved c =
    let m = c.args.m in
    let o = c.loop-i in
    let l = c.loop-i-test.true in
    source_more (nodes c.args.cells.now) (decode c.args.g) (mapping m) (decode c.args.out) o.group o.i o.invariant (mapped_of (read_in m o.i)) (read-rest m o.i l) c.say_source.result c.say_source.ensures (subst (λ (n : ℕ). AllBelow n (mapped_of (read_in m o.i)).targets) (sym (length-decode c.args.cells.now)) (targets-below (read_in m o.i) (count c.args.cells.now) (read-targets m o.i l (count c.args.cells.now) c.requires.1.1))) c.in_ok-group.group c.in_ok-group.was

pub returns : goal.returns
returns c =
    let m = c.args.m in
    let o = c.loop-i in
    sources_end (nodes c.args.cells.now) (decode c.args.g) (mapping m) (decode c.args.out) o.group o.i o.invariant (omega (arith, decode-length m, c.loop-i-test.false))

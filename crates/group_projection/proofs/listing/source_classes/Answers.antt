-- `group_projection::listing::source_classes` meets its contract.
use Prim.Native.Nat.{ℕ}
use mathlib.Core.Path.{◌≡◌, subst}
use native.Mathlib.Omega.{arith}
use lib.ListN.{take}
use Rattle.arena.specs.Layout.{decode as nodes}
use Rattle.arena.proofs.Refusals.{handed-on}
use Rattle.group_projection.proofs.ListedLaws.{Lists, lists-list, lists-made}
use Rattle.group_projection.proofs.SourceLaws.{with_sources, forms-begin, forms-more, forms-over}
use Rattle.group_projection.proofs.listing.source_classes.Goals as goal

pub loop-i-init : goal.loop-i-init
loop-i-init c =
    forms-begin (nodes c.args.cells.now) c.args.list c.args.m (take c.args.m.count c.args.numbers) c.requires.0

pub add_source_class-requires : goal.add_source_class-requires
add_source_class-requires c =
    let o = c.loop-i in
    ((lists-list o.out (with_sources (nodes c.args.cells.now) c.args.list c.args.m (take c.args.m.count c.args.numbers) o.i) o.invariant, c.loop-i-test.true), c.requires.1)

pub returns-in_err-out : goal.returns-in_err-out
returns-in_err-out c =
    let o = c.loop-i in
    rw (handed-on _ _ c.from_residual.ensures.1) (forms-over (nodes c.args.cells.now) c.args.list c.args.m (take c.args.m.count c.args.numbers) o.i o.out o.invariant c.add_source_class.result c.add_source_class.ensures c.args.m.count c.loop-i-test.true _ c.in_err-out.was)

pub loop-i-preserved : goal.loop-i-preserved
loop-i-preserved c =
    let o = c.loop-i in
    forms-more (nodes c.args.cells.now) c.args.list c.args.m (take c.args.m.count c.args.numbers) o.i o.out o.invariant c.add_source_class.result c.add_source_class.ensures c.in_ok-out.out c.in_ok-out.was

pub returns : goal.returns
returns c =
    let o = c.loop-i in
    let e : o.i ≡ c.args.m.count = omega (arith, c.loop-i-test.false) in
    lists-made o.out (with_sources (nodes c.args.cells.now) c.args.list c.args.m (take c.args.m.count c.args.numbers) c.args.m.count)
    (subst (λ (n : ℕ). Lists o.out (with_sources (nodes c.args.cells.now) c.args.list c.args.m (take c.args.m.count c.args.numbers) n)) e o.invariant)

-- `group_projection::normal_forms::source_forms` meets its contract.
use mathlib.Core.Path.{refl}
use native.Mathlib.Omega.{arith}
use lib.ListN.{replicate}
use Rattle.arena.specs.Layout.{decode as nodes}
use Rattle.arena.proofs.Walking.{memo-none}
use Rattle.normal.specs.Inner.{rewriting}
use Rattle.group_projection.proofs.FormLaws.{forms-begin, form-ready, forms-more, forms-fail, forms_end}
use Rattle.group_projection.proofs.normal_forms.source_forms.Goals as goal

pub loop-i-init : goal.loop-i-init
loop-i-init c =
    let m = c.args.m in
    forms-begin c.args.old c.args.firsts.now c.args.cells.now m c.requires (replicate 1024 0) (replicate 64 0) (memo-none (rewriting c.args.old c.args.firsts.now c.args.cells.now) (nodes c.args.cells.now) 1024) refl

pub bounds-m-i : goal.bounds-m-i
bounds-m-i c = omega (arith, c.loop-i-test.true, c.requires.few)

pub normalize-requires : goal.normalize-requires
normalize-requires c =
    let m = c.args.m in
    let o = c.loop-i in
    form-ready c.args.old c.args.firsts.now c.args.cells.now m c.requires o.cells o.memo o.numbers o.i o.invariant c.loop-i-test.true

pub returns-in_default : goal.returns-in_default
returns-in_default c =
    let m = c.args.m in
    let o = c.loop-i in
    let w = c.normalize in
    (forms-fail c.args.old c.args.firsts.now c.args.cells.now m c.requires o.cells o.memo o.numbers o.i o.invariant c.loop-i-test.true w.new.cells w.new.memo w.result w.ensures c.in_default.field-0 c.in_default.is _, refl)

pub bounds-numbers-i : goal.bounds-numbers-i
bounds-numbers-i c = omega (arith, c.loop-i-test.true, c.requires.few)

pub loop-i-preserved : goal.loop-i-preserved
loop-i-preserved c =
    let m = c.args.m in
    let o = c.loop-i in
    let w = c.normalize in
    forms-more c.args.old c.args.firsts.now c.args.cells.now m c.requires o.cells o.memo o.numbers o.i o.invariant c.loop-i-test.true w.new.cells w.new.memo w.result w.ensures c.requires.few c.in-Ok.e c.in-Ok.is

pub returns : goal.returns
returns c =
    let m = c.args.m in
    let o = c.loop-i in
    (forms_end c.args.old c.args.firsts.now c.args.cells.now m c.requires o.cells o.memo o.numbers o.i o.invariant (omega (arith, c.loop-i-test.false)), tt)

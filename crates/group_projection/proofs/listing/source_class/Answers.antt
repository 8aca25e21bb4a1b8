-- `group_projection::listing::source_class` meets its contract.
use Prim.Native.Nat.{ℕ}
use mathlib.Core.List.{[], ◌∷◌}
use mathlib.Core.Path.{◌≡◌, sym, ap}
use native.Mathlib.Omega.{arith}
use lib.Dec.{eqb}
use lib.ListN.{length, take}
use lib.Seq.{length-take-le, get_or-take}
use Rattle.arena.specs.Layout.{count, decode as nodes}
use Rattle.mappings.proofs.PlaceReads.{read-few, read-targets}
use Rattle.arena.proofs.Refusals.{handed-on}
use Rattle.group_projection.proofs.ListedLaws.{lists-one, lists-made}
use Rattle.group_projection.proofs.SourceLaws.{class_of_form, class_of_sources, sources-begin, sources-more, sources-over, sources_end}
use borrow.Author.Rules.{rules}
use Rattle.group_projection.proofs.listing.source_class.Goals as goal

pub loop-i-init : goal.loop-i-init
loop-i-init c =
    sources-begin (nodes c.args.cells.now) c.args.m (take c.args.m.count c.args.numbers) c.args.form c.one_empty-one.result c.one_empty-one.ensures

pub bounds-m-i : goal.bounds-m-i
bounds-m-i c = omega (arith, c.requires.1.bounded.few, c.loop-i-test.true)

pub bounds-numbers-i : goal.bounds-numbers-i
bounds-numbers-i c = omega (arith, c.requires.1.bounded.few, c.loop-i-test.true)

pub push_source-requires : goal.push_source-requires
push_source-requires c =
    let o = c.loop-i in (
      (lists-one o.one (class_of_sources (nodes c.args.cells.now) c.args.m (take c.args.m.count c.args.numbers) c.args.form o.i) o.invariant, c.requires.0),
      (read-few c.args.m o.i c.loop-i-test.true (count c.args.cells.now) c.requires.1, read-targets c.args.m o.i c.loop-i-test.true (count c.args.cells.now) c.requires.1),
    )

pub returns-in_err-one : goal.returns-in_err-one
returns-in_err-one c =
    let o = c.loop-i in
    let mm : length c.args.numbers ≡ 64 = search rules in
    let len = length-take-le c.args.m.count c.args.numbers (omega (arith, c.requires.1.bounded.few)) in
    rw (handed-on _ _ c.from_residual.ensures.1) (sources-over (nodes c.args.cells.now) c.args.m (take c.args.m.count c.args.numbers) c.args.form len o.i c.loop-i-test.true o.one o.invariant _ (ap (λ (x : ℕ). eqb x c.args.form) (sym (get_or-take c.args.m.count c.args.numbers o.i 0 c.loop-i-test.true)))
    c.push_source.result c.push_source.ensures _ c.in_err-one.was)

pub loop-i-preserved : goal.loop-i-preserved
loop-i-preserved c =
    let o = c.loop-i in
    let mm : length c.args.numbers ≡ 64 = search rules in
    let len = length-take-le c.args.m.count c.args.numbers (omega (arith, c.requires.1.bounded.few)) in
    sources-more (nodes c.args.cells.now) c.args.m (take c.args.m.count c.args.numbers) c.args.form len o.i c.loop-i-test.true o.one o.invariant _ (ap (λ (x : ℕ). eqb x c.args.form) (sym (get_or-take c.args.m.count c.args.numbers o.i 0 c.loop-i-test.true)))
    c.push_source.result c.push_source.ensures c.in_ok-one.one c.in_ok-one.was

pub returns : goal.returns
returns c =
    let o = c.loop-i in
    let mm : length c.args.numbers ≡ 64 = search rules in
    let len = length-take-le c.args.m.count c.args.numbers (omega (arith, c.requires.1.bounded.few)) in
    let js = take c.args.m.count c.args.numbers in
    lists-made o.one (class_of_form (nodes c.args.cells.now) c.args.m js c.args.form ∷ [])
    (sources_end (nodes c.args.cells.now) c.args.m js c.args.form o.i o.one (omega (arith, len, c.loop-i-test.false)) o.invariant)

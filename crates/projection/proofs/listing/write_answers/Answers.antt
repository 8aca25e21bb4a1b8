-- `projection::listing::write_answers` meets its contract.
use Prim.Native.Nat.{ℕ, ◌<◌}
use mathlib.Core.List.{List}
use mathlib.Core.Path.{refl, ◌∙◌, ap}
use native.Mathlib.Omega.{arith}
use lib.ListN.{length, get_or, set}
use Rattle.projection.specs.Calls.{output_of}
use Rattle.projection.specs.Inner.{answer_of}
use Rattle.projection.proofs.Written.{written-length, written-more, written_end}
use Rattle.projection.proofs.listing.write_answers.Goals as goal

pub loop-k-init : goal.loop-k-init
loop-k-init c = refl

pub offset_bounds-table-wide : goal.offset_bounds-table-wide
offset_bounds-table-wide c =
    omega (arith, c.wide.ensures, c.requires.1 c.loop-k.k c.loop-k-test.true)

pub bounds-table-wide : goal.bounds-table-wide
bounds-table-wide c =
    omega (arith, c.wide.ensures, c.requires.1 c.loop-k.k c.loop-k-test.true)

pub bounds-out-k : goal.bounds-out-k
bounds-out-k c =
    let o = c.loop-k in
    omega (arith, ap (λ (l : List ℕ). length l) o.invariant, written-length c.args.table.now c.args.exprs.now c.args.out.now o.k (omega arith) c.requires.0, c.requires.0, c.loop-k-test.true)

pub loop-k-preserved : goal.loop-k-preserved
loop-k-preserved c =
    let o = c.loop-k in
    let l : o.k < length c.args.exprs.now = c.loop-k-test.true in
    let a = c.output_of-answer.result in
    ap (λ (out : List ℕ). set out o.k a) o.invariant
    ∙ written-more c.args.table.now c.args.exprs.now c.args.out.now o.k a l c.requires.0
    (c.output_of-answer.ensures ∙ ap (λ (i : ℕ). output_of (answer_of (get_or c.args.table.now i 0))) c.wide.ensures)

pub shape_of-out : goal.shape_of-out
shape_of-out c =
    let o = c.loop-k in
    ap (λ (l : List ℕ). length l) o.invariant ∙ written-length c.args.table.now c.args.exprs.now c.args.out.now o.k (omega arith) c.requires.0

pub returns : goal.returns
returns c =
    let o = c.loop-k in
    o.invariant ∙ written_end c.args.table.now c.args.exprs.now c.args.out.now o.k (omega arith) (omega (arith, c.loop-k-test.false))

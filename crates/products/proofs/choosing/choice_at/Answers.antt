-- `products::choosing::choice_at` meets its contract.
use native.Mathlib.Omega.{arith}
use Rattle.products.proofs.Choices.{choices-drop, choosing-begins, choosing-ends, after-some, read_in_lem, choosing-on, found-sized}
use Rattle.products.proofs.choosing.choice_at.Goals as goal

pub loop-j-init : goal.loop-j-init
loop-j-init c =
    choosing-begins c.args.l c.args.number c.nothing.result c.requires.1.1 c.nothing.ensures

pub choices_from-after-requires : goal.choices_from-after-requires
choices_from-after-requires c =
    (c.requires.0.shaped, (omega arith, omega (arith, c.requires.1.0, choices-drop c.args.l 0)))

pub nonzero_div-at : goal.nonzero_div-at
nonzero_div-at c =
    let l = c.loop-j in
    let n = c.choices_from-after in
    after-some c.args.l c.requires.0 c.args.number l.j l.rest l.out l.invariant n.result n.ensures (omega arith)

pub overflow_add-at : goal.overflow_add-at
overflow_add-at c =
    let l = c.loop-j in
    let n = c.choices_from-after in
    let b = read_in_lem c.args.l c.requires.0 c.args.number l.j l.rest l.out l.invariant n.result n.ensures (omega arith) c.start_of.result c.start_of.ensures in
    omega arith

pub offset_bounds-found-at : goal.offset_bounds-found-at
offset_bounds-found-at c =
    let l = c.loop-j in
    let n = c.choices_from-after in
    let b = read_in_lem c.args.l c.requires.0 c.args.number l.j l.rest l.out l.invariant n.result n.ensures (omega arith) c.start_of.result c.start_of.ensures in
    omega arith

pub bounds-found-at : goal.bounds-found-at
bounds-found-at c =
    let l = c.loop-j in
    let n = c.choices_from-after in
    let b = read_in_lem c.args.l c.requires.0 c.args.number l.j l.rest l.out l.invariant n.result n.ensures (omega arith) c.start_of.result c.start_of.ensures in
    b

pub nonzero_rem-rest : goal.nonzero_rem-rest
nonzero_rem-rest c =
    let l = c.loop-j in
    let n = c.choices_from-after in
    after-some c.args.l c.requires.0 c.args.number l.j l.rest l.out l.invariant n.result n.ensures (omega arith)

pub loop-j-preserved : goal.loop-j-preserved
loop-j-preserved c =
    let l = c.loop-j in
    let n = c.choices_from-after in
    let p = c.start_of in
    choosing-on c.args.l c.requires.0 c.args.number l.j l.rest l.out l.invariant n.result n.ensures (omega arith) p.result (found-sized c.args.l _ c.well_formed.0) c.requires.1.1 p.ensures

pub returns : goal.returns
returns c =
    let l = c.loop-j in
    choosing-ends c.args.l c.requires.0 c.args.number l.j l.rest l.out l.invariant (omega arith) c.requires.1.1

-- `dependency_orderings::writing::write_all` meets its contract.
use Prim.Native.Nat.{ℕ, ◌+◌, ◌-◌}
use mathlib.Core.List.{◌++◌}
use mathlib.Core.Path.{sym, ap, ◌∙◌}
use native.Mathlib.Omega.{arith}
use lib.ListN.{length, take, drop}
use Rattle.products.specs.Orders.{product}
use Rattle.products.specs.Generate.{in_all_orders, all_orders}
use Rattle.products.specs.Inner.{choice_of, lists_of}
use Rattle.dependency_orderings.specs.Output.{written_all}
use Rattle.dependency_orderings.proofs.WrittenLaws.{out-begins, out-length, out_within, out-ends, out-on, part-short, part-within, part_room}
use Rattle.dependency_orderings.proofs.Measures.{ready-few, ready_in, ready-chosen, ready-next, ready-done}
use Rattle.dependency_orderings.proofs.writing.write_all.Goals as goal

pub loop-k-init : goal.loop-k-init
loop-k-init c =
    (out-begins (all_orders (product (lists_of c.args.l))) c.args.out.now c.requires.1.1 c.requires.1.0)

pub offset_bounds-out-at : goal.offset_bounds-out-at
offset_bounds-out-at c =
    let o = c.loop-k in
    let cs = product (lists_of c.args.l) in
    omega (arith, c.well_formed.0.1, out_within (all_orders cs) c.args.out.now c.requires.1.1 (all_orders (drop o.k cs)) o.out o.at o.invariant)

pub slice_bounds-write_choice-count : goal.slice_bounds-write_choice-count
slice_bounds-write_choice-count c =
    let o = c.loop-k in
    let cs = product (lists_of c.args.l) in
    let left = all_orders (drop o.k cs) in
    omega (arith, out_within (all_orders cs) c.args.out.now c.requires.1.1 left o.out o.at o.invariant, out-length (all_orders cs) c.args.out.now c.requires.1.1 left o.out o.at o.invariant)

pub slice_bounds-write_choice-start : goal.slice_bounds-write_choice-start
slice_bounds-write_choice-start c =
    let o = c.loop-k in
    let cs = product (lists_of c.args.l) in
    let left = all_orders (drop o.k cs) in
    omega (arith, out_within (all_orders cs) c.args.out.now c.requires.1.1 left o.out o.at o.invariant, out-length (all_orders cs) c.args.out.now c.requires.1.1 left o.out o.at o.invariant)

pub slice_bounds-write_choice-end : goal.slice_bounds-write_choice-end
slice_bounds-write_choice-end c = omega arith

pub choice_at-requires : goal.choice_at-requires
choice_at-requires c =
    (c.requires.0.laid, (omega (arith, c.requires.0.number, ready-few c.args.l c.args.n c.requires.0), ready_in c.args.l c.args.n c.requires.0 c.loop-k.k c.loop-k-test.true))

pub write_choice-used-requires : goal.write_choice-used-requires
write_choice-used-requires c =
    let o = c.loop-k in
    let x = c.choice_at in
    let cs = product (lists_of c.args.l) in
    let part = in_all_orders (choice_of x.result) in
    let left = all_orders (drop o.k cs) in
    let after = all_orders (drop (o.k + 1) cs) in
    let next = ready-next c.args.l c.args.n c.requires.0 o.k c.loop-k-test.true x.result x.ensures in (
      ready-chosen c.args.l c.args.n c.requires.0 o.k c.loop-k-test.true x.result x.ensures,
      (
        part-short (all_orders cs) c.args.out.now c.requires.1.1 left o.out o.at o.invariant part after next,
        part_room (all_orders cs) c.args.out.now c.requires.1.1 left o.out o.at o.invariant part after next,
      ),
    )

pub overflow_add-at : goal.overflow_add-at
overflow_add-at c =
    let o = c.loop-k in
    let x = c.choice_at in
    let cs = product (lists_of c.args.l) in
    let next = ready-next c.args.l c.args.n c.requires.0 o.k c.loop-k-test.true x.result x.ensures in
    omega (arith, c.well_formed.0.1, c.write_choice-used.ensures.0, part-within (all_orders cs) c.args.out.now c.requires.1.1 (all_orders (drop o.k cs)) o.out o.at o.invariant (in_all_orders (choice_of x.result)) (all_orders (drop (o.k + 1) cs)) next)

pub loop-k-preserved : goal.loop-k-preserved
loop-k-preserved c =
    let o = c.loop-k in
    let x = c.choice_at in
    let v = c.write_choice-used in
    let cs = product (lists_of c.args.l) in
    let part = in_all_orders (choice_of x.result) in
    let next = ready-next c.args.l c.args.n c.requires.0 o.k c.loop-k-test.true x.result x.ensures in
    out-on (all_orders cs) c.args.out.now c.requires.1.1 (all_orders (drop o.k cs)) o.out o.at o.invariant part (all_orders (drop (o.k + 1) cs)) next v.new.out v.result v.ensures.0
    (v.ensures.1 ∙ ap (λ (n : ℕ). written_all part ++ drop n (take (length o.out - o.at) (drop o.at o.out))) (sym v.ensures.0))

pub shape_of-out : goal.shape_of-out
shape_of-out c =
    let o = c.loop-k in
    let cs = product (lists_of c.args.l) in
    out-length (all_orders cs) c.args.out.now c.requires.1.1 (all_orders (drop o.k cs)) o.out o.at o.invariant

pub returns : goal.returns
returns c =
    let o = c.loop-k in
    let cs = product (lists_of c.args.l) in
    out-ends (all_orders cs) c.args.out.now c.requires.1.1 (all_orders (drop o.k cs)) o.out o.at o.invariant (ready-done c.args.l c.args.n c.requires.0 o.k (omega (arith, c.loop-k-test.false)))

-- `dependency_orderings::writing::write_ordering` meets its contract.
use Prim.Native.Nat.{ℕ, ◌+◌, ◌*◌, ◌/◌, ◌%◌}
use mathlib.Core.List.{List}
use mathlib.Core.Path.{◌≡◌, ap, ◌∙◌}
use native.Mathlib.Omega.{arith}
use lib.ListN.{length, get_or, set, length-set}
use Rattle.dependency_orderings.proofs.WrittenLaws.{begun-begins, begun-length, begun-next, begun-ends}
use Rattle.dependency_orderings.proofs.writing.write_ordering.Goals as goal

pub narrow-requires : goal.narrow-requires
narrow-requires c = c.requires.0.short

pub bounds-out-0 : goal.bounds-out-0
bounds-out-0 c = omega (arith, c.requires.1)

pub loop-k-init : goal.loop-k-init
loop-k-init c = begun-begins c.args.o c.args.out.now c.narrow.result (omega (arith, c.requires.1)) c.narrow.ensures

pub offset_bounds-o-k : goal.offset_bounds-o-k
offset_bounds-o-k c = omega (arith, c.requires.0.short, c.loop-k-test.true)

pub bounds-o-k : goal.bounds-o-k
bounds-o-k c = omega (arith, c.requires.0.short, c.loop-k-test.true)

pub overflow_mul-out : goal.overflow_mul-out
overflow_mul-out c = omega (arith, c.requires.0.short, c.loop-k-test.true)

pub overflow_add-out : goal.overflow_add-out
overflow_add-out c = omega (arith, c.requires.0.short, c.loop-k-test.true)

pub offset_bounds-out-k : goal.offset_bounds-out-k
offset_bounds-out-k c = omega (arith, c.requires.0.short, c.loop-k-test.true)

pub bounds-out-k : goal.bounds-out-k
bounds-out-k c =
    let o = c.loop-k in
    let first : List ℕ = set c.args.out.now 0 c.narrow.result in
    omega (arith, ap (λ (l : List ℕ). length l) o.invariant, begun-length c.args.o first o.k (omega arith) (omega (arith, c.requires.1, length-set c.args.out.now 0 c.narrow.result)), length-set c.args.out.now 0 c.narrow.result, c.requires.1, c.loop-k-test.true)

pub overflow_mul-out-in-loop-k : goal.overflow_mul-out-in-loop-k
overflow_mul-out-in-loop-k c = omega (arith, c.requires.0.short, c.loop-k-test.true)

pub overflow_add-out-in-loop-k : goal.overflow_add-out-in-loop-k
overflow_add-out-in-loop-k c = omega (arith, c.requires.0.short, c.loop-k-test.true)

pub offset_bounds-out-k-in-loop-k : goal.offset_bounds-out-k-in-loop-k
offset_bounds-out-k-in-loop-k c = omega (arith, c.requires.0.short, c.loop-k-test.true)

pub bounds-out-k-in-loop-k : goal.bounds-out-k-in-loop-k
bounds-out-k-in-loop-k c =
    let o = c.loop-k in
    let first : List ℕ = set c.args.out.now 0 c.narrow.result in
    omega (arith, length-set o.out (2 * o.k + 1) (get_or c.args.o.keys o.k 0 / 4), ap (λ (l : List ℕ). length l) o.invariant, begun-length c.args.o first o.k (omega arith) (omega (arith, c.requires.1, length-set c.args.out.now 0 c.narrow.result)), length-set c.args.out.now 0 c.narrow.result, c.requires.1, c.loop-k-test.true)

pub loop-k-preserved : goal.loop-k-preserved
loop-k-preserved c =
    let o = c.loop-k in
    let first : List ℕ = set c.args.out.now 0 c.narrow.result in
    let key : ℕ = get_or c.args.o.keys o.k 0 in
    ap (λ (l : List ℕ). set (set l (2 * o.k + 1) (key / 4)) (2 * o.k + 2) (key % 4)) o.invariant
    ∙ begun-next c.args.o first o.k c.loop-k-test.true (omega (arith, c.requires.1, length-set c.args.out.now 0 c.narrow.result))

pub shape_of-out : goal.shape_of-out
shape_of-out c =
    let o = c.loop-k in
    let first : List ℕ = set c.args.out.now 0 c.narrow.result in
    let e : length first ≡ length c.args.out.now = length-set c.args.out.now 0 c.narrow.result in
    ap (λ (l : List ℕ). length l) o.invariant ∙ begun-length c.args.o first o.k (omega arith) (omega (arith, c.requires.1, e)) ∙ e

pub returns : goal.returns
returns c =
    let o = c.loop-k in
    o.invariant ∙ begun-ends c.args.o c.args.out.now o.k c.narrow.result (omega arith) (omega (arith, c.loop-k-test.false))

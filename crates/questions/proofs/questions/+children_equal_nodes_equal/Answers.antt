-- `questions::questions::children_equal`, `questions::questions::nodes_equal` meet their contracts: one proof for their cycle of calls.
use mathlib.Core.Path.{sym, subst, ◌∙◌}
use native.Mathlib.Omega.{arith}
use Rattle.questions.specs.Inner.{Answered, AnsweredAll}
use Rattle.questions.proofs.Equality.{self-answered, class-answered, pair-answered, unpaired_answered, children-asked, children-answered, children-noted, going-begins, going-ends, left_there, right_there, left-lower, pair-asked, going_on, going-stops}
use Rattle.questions.proofs.questions.+children_equal_nodes_equal.Goals as goal
use Rattle.questions.proofs.questions.+children_equal_nodes_equal.Goals.{nodes_equal-then-a-b-via-then-a-b, nodes_equal-then-a-b-via-else-a-b+then-same_place}

pub children_equal-loop-k-init : goal.children_equal-loop-k-init
children_equal-loop-k-init t c =
    let s = c.args in
    going-begins s.cells.now s.places.now s.seen.now s.a s.b s.n c.requires

pub children_equal-child_in-x-requires : goal.children_equal-child_in-x-requires
children_equal-child_in-x-requires t c =
    let s = c.args in
    let q = c.requires in
    rw c.wide.ensures (q.asked.left, left_there s.cells.now s.places.now s.seen.now s.a s.b s.n q c.loop-k.seen c.loop-k.k c.loop-k.invariant c.loop-k-test.true)

pub children_equal-child_in-y-requires : goal.children_equal-child_in-y-requires
children_equal-child_in-y-requires t c =
    let s = c.args in
    let q = c.requires in
    rw c.wide-in-loop-k.ensures (q.asked.right, right_there s.cells.now s.places.now s.seen.now s.a s.b s.n q c.loop-k.seen c.loop-k.k c.loop-k.invariant c.loop-k-test.true)

pub children_equal-nodes_equal-requires : goal.children_equal-nodes_equal-requires
children_equal-nodes_equal-requires t c =
    let s = c.args in
    let q = c.requires in
    let ex = rw c.wide.ensures at c.child_in-x.ensures in
    let ey = rw c.wide-in-loop-k.ensures at c.child_in-y.ensures in
    let low = left-lower s.cells.now s.places.now s.seen.now s.a s.b s.n q c.loop-k.seen c.loop-k.k c.loop-k.invariant c.loop-k-test.true in
    (omega (arith, low, ex, c.decreases), pair-asked s.cells.now s.places.now s.seen.now s.a s.b s.n q c.loop-k.seen c.loop-k.k c.loop-k.invariant c.loop-k-test.true c.child_in-x.result c.child_in-y.result ex ey)

pub children_equal-returns-then-not-nodes_equal : goal.children_equal-returns-then-not-nodes_equal
children_equal-returns-then-not-nodes_equal t c =
    let s = c.args in
    let ex = rw c.wide.ensures at c.child_in-x.ensures in
    let ey = rw c.wide-in-loop-k.ensures at c.child_in-y.ensures in
    let t = c.nodes_equal.new.seen in
    let w = subst (Answered s.cells.now s.places.now t c.child_in-x.result c.child_in-y.result) c.if-not-nodes_equal.true c.nodes_equal.ensures in
    going-stops s.cells.now s.places.now s.seen.now s.a s.b s.n c.requires c.loop-k.seen c.loop-k.k c.loop-k.invariant c.loop-k-test.true c.child_in-x.result c.child_in-y.result ex ey t w

pub children_equal-loop-k-preserved : goal.children_equal-loop-k-preserved
children_equal-loop-k-preserved t c =
    let s = c.args in
    let ex = rw c.wide.ensures at c.child_in-x.ensures in
    let ey = rw c.wide-in-loop-k.ensures at c.child_in-y.ensures in
    let t = c.nodes_equal.new.seen in
    let w = subst (Answered s.cells.now s.places.now t c.child_in-x.result c.child_in-y.result) c.if-not-nodes_equal.false c.nodes_equal.ensures in
    going_on s.cells.now s.places.now s.seen.now s.a s.b s.n c.requires c.loop-k.seen c.loop-k.k c.loop-k.invariant c.loop-k-test.true c.child_in-x.result c.child_in-y.result ex ey t w

pub children_equal-returns : goal.children_equal-returns
children_equal-returns t c =
    let s = c.args in
    going-ends s.cells.now s.places.now s.seen.now s.a s.b s.n c.requires c.loop-k.seen c.loop-k.k c.loop-k.invariant (omega arith) (omega arith)

pub nodes_equal-returns-then-a-b : goal.nodes_equal-returns-then-a-b
nodes_equal-returns-then-a-b t c =
    let s = c.args in
    elim c.then-a-b.branch [
      | nodes_equal-then-a-b-via-then-a-b w ↦ self-answered s.cells.now s.places.now s.seen.now s.a s.b c.requires w.if-a-b.true
      | nodes_equal-then-a-b-via-else-a-b+then-same_place w ↦ class-answered s.cells.now s.places.now s.seen.now s.a s.b c.requires (sym (rw (c.wide-x.ensures, c.wide-y.ensures) at w.same_place.ensures) ∙ w.if-same_place.true)
    ]

pub nodes_equal-returns-then-not-children_pair_up : goal.nodes_equal-returns-then-not-children_pair_up
nodes_equal-returns-then-not-children_pair_up t c =
    let s = c.args in
    let p = rw (c.wide-x.ensures, c.wide-y.ensures) at c.same_place.ensures in
    let m = rw (c.wide-x.ensures, c.wide-y.ensures) at c.children_pair_up.ensures in
    unpaired_answered s.cells.now s.places.now s.seen.now s.a s.b c.requires c.if-a-b.false (sym p ∙ c.if-same_place.false) (sym m ∙ c.if-not-children_pair_up.true)

pub nodes_equal-returns-then-has_pair : goal.nodes_equal-returns-then-has_pair
nodes_equal-returns-then-has_pair t c =
    let s = c.args in
    let h = rw (c.wide-x.ensures, c.wide-y.ensures) at c.has_pair.ensures in
    pair-answered s.cells.now s.places.now s.seen.now s.a s.b c.requires (sym h ∙ c.if-has_pair.true)

pub nodes_equal-children_equal-requires : goal.nodes_equal-children_equal-requires
nodes_equal-children_equal-requires t c =
    let s = c.args in
    let p = rw (c.wide-x.ensures, c.wide-y.ensures) at c.same_place.ensures in
    let m = rw (c.wide-x.ensures, c.wide-y.ensures) at c.children_pair_up.ensures in
    let n = rw c.wide-x.ensures at c.child_count-n.ensures in
    (omega (arith, c.decreases), children-asked s.cells.now s.places.now s.seen.now s.a s.b c.requires c.if-a-b.false (sym p ∙ c.if-same_place.false) c.child_count-n.result n (sym m ∙ c.if-not-children_pair_up.false))

pub nodes_equal-returns-then-not-children_equal : goal.nodes_equal-returns-then-not-children_equal
nodes_equal-returns-then-not-children_equal t c =
    let s = c.args in
    let p = rw (c.wide-x.ensures, c.wide-y.ensures) at c.same_place.ensures in
    let m = rw (c.wide-x.ensures, c.wide-y.ensures) at c.children_pair_up.ensures in
    let n = rw c.wide-x.ensures at c.child_count-n.ensures in
    let t = c.children_equal.new.seen in
    let w = subst (AnsweredAll s.cells.now s.places.now t s.a s.b c.child_count-n.result) c.if-not-children_equal.true c.children_equal.ensures in
    children-answered s.cells.now s.places.now s.seen.now s.a s.b c.requires c.if-a-b.false (sym p ∙ c.if-same_place.false) c.child_count-n.result n (sym m ∙ c.if-not-children_pair_up.false) t w

pub nodes_equal-returns : goal.nodes_equal-returns
nodes_equal-returns t c =
    let s = c.args in
    let p = rw (c.wide-x.ensures, c.wide-y.ensures) at c.same_place.ensures in
    let m = rw (c.wide-x.ensures, c.wide-y.ensures) at c.children_pair_up.ensures in
    let n = rw c.wide-x.ensures at c.child_count-n.ensures in
    let t = c.children_equal.new.seen in
    let w = subst (AnsweredAll s.cells.now s.places.now t s.a s.b c.child_count-n.result) c.if-not-children_equal.false c.children_equal.ensures in
    children-noted s.cells.now s.places.now s.seen.now s.a s.b c.requires c.if-a-b.false (sym p ∙ c.if-same_place.false) c.child_count-n.result n (sym m ∙ c.if-not-children_pair_up.false) t c.add_pair.new.seen w (rw (c.wide-x.ensures, c.wide-y.ensures) at c.add_pair.ensures)

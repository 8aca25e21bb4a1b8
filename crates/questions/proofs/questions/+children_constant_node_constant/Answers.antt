-- `questions::questions::children_constant`, `questions::questions::node_constant` meet their contracts: one proof for their cycle of calls.
use mathlib.Core.Path.{sym, subst, ◌∙◌}
use native.Mathlib.Omega.{arith}
use Rattle.questions.specs.Inner.{AnsweredConstant, AnsweredConstants}
use Rattle.questions.proofs.Constancy.{literal-answered, seen-answered, class-constant, leaf_constant, constants-asked, constants-answered, constants-noted, passing_begins, passing-ends, child-there, child-less, child-asked, passing-on, passing-stops}
use Rattle.questions.proofs.questions.+children_constant_node_constant.Goals as goal
use Rattle.questions.proofs.questions.+children_constant_node_constant.Goals.{node_constant-then-cell_of-eq2-via-then-cell_of-eq2, node_constant-then-cell_of-eq2-via-else-cell_of-eq2+then-marks-i-ne0, node_constant-then-cell_of-eq2-via-else-cell_of-eq2+else-marks-i-ne0+then-seen-i-eq1}

pub children_constant-loop-k-init : goal.children_constant-loop-k-init
children_constant-loop-k-init t c =
    let s = c.args in
    passing_begins s.cells.now s.marks.now s.seen.now s.e s.n c.requires

pub children_constant-child_in-x-requires : goal.children_constant-child_in-x-requires
children_constant-child_in-x-requires t c =
    let s = c.args in
    let q = c.requires in
    rw c.wide.ensures (q.asked.known, child-there s.cells.now s.marks.now s.seen.now s.e s.n q c.loop-k.seen c.loop-k.k c.loop-k.invariant c.loop-k-test.true)

pub children_constant-node_constant-requires : goal.children_constant-node_constant-requires
children_constant-node_constant-requires t c =
    let s = c.args in
    let q = c.requires in
    let ex = rw c.wide.ensures at c.child_in-x.ensures in
    let low = child-less s.cells.now s.marks.now s.seen.now s.e s.n q c.loop-k.seen c.loop-k.k c.loop-k.invariant c.loop-k-test.true in
    (omega (arith, low, ex, c.decreases), child-asked s.cells.now s.marks.now s.seen.now s.e s.n q c.loop-k.seen c.loop-k.k c.loop-k.invariant c.loop-k-test.true c.child_in-x.result ex)

pub children_constant-returns-then-not-node_constant : goal.children_constant-returns-then-not-node_constant
children_constant-returns-then-not-node_constant t c =
    let s = c.args in
    let ex = rw c.wide.ensures at c.child_in-x.ensures in
    let t = c.node_constant.new.seen in
    let w = subst (AnsweredConstant s.cells.now s.marks.now t c.child_in-x.result) c.if-not-node_constant.true c.node_constant.ensures in
    passing-stops s.cells.now s.marks.now s.seen.now s.e s.n c.requires c.loop-k.seen c.loop-k.k c.loop-k.invariant c.loop-k-test.true c.child_in-x.result ex t w

pub children_constant-loop-k-preserved : goal.children_constant-loop-k-preserved
children_constant-loop-k-preserved t c =
    let s = c.args in
    let ex = rw c.wide.ensures at c.child_in-x.ensures in
    let t = c.node_constant.new.seen in
    let w = subst (AnsweredConstant s.cells.now s.marks.now t c.child_in-x.result) c.if-not-node_constant.false c.node_constant.ensures in
    passing-on s.cells.now s.marks.now s.seen.now s.e s.n c.requires c.loop-k.seen c.loop-k.k c.loop-k.invariant c.loop-k-test.true c.child_in-x.result ex t w

pub children_constant-returns : goal.children_constant-returns
children_constant-returns t c =
    let s = c.args in
    passing-ends s.cells.now s.marks.now s.seen.now s.e s.n c.requires c.loop-k.seen c.loop-k.k c.loop-k.invariant (omega arith) (omega arith)

pub node_constant-returns-then-cell_of-eq2 : goal.node_constant-returns-then-cell_of-eq2
node_constant-returns-then-cell_of-eq2 t c =
    let s = c.args in
    let m = rw c.wide-i.ensures at c.cell_of.ensures in
    elim c.then-cell_of-eq2.branch [
      | node_constant-then-cell_of-eq2-via-then-cell_of-eq2 w ↦ literal-answered s.cells.now s.marks.now s.seen.now s.e c.requires (sym m ∙ w.if-cell_of-eq2.true)
      | node_constant-then-cell_of-eq2-via-else-cell_of-eq2+then-marks-i-ne0 w ↦ class-constant s.cells.now s.marks.now s.seen.now s.e c.requires (λ z. w.if-cell_of-eq2.false (m ∙ z)) (rw c.wide-i.ensures at w.if-marks-i-ne0.true)
      | node_constant-then-cell_of-eq2-via-else-cell_of-eq2+else-marks-i-ne0+then-seen-i-eq1 w ↦ seen-answered s.cells.now s.marks.now s.seen.now s.e c.requires (rw c.wide-i.ensures at w.if-seen-i-eq1.true)
    ]

pub node_constant-returns-then-n-eq0 : goal.node_constant-returns-then-n-eq0
node_constant-returns-then-n-eq0 t c =
    let s = c.args in
    let m = rw c.wide-i.ensures at c.cell_of.ensures in
    let n = rw c.wide-i.ensures at c.child_count-n.ensures in
    leaf_constant s.cells.now s.marks.now s.seen.now s.e c.requires (λ z. c.if-cell_of-eq2.false (m ∙ z)) (rw c.wide-i.ensures at c.if-marks-i-ne0.false) (sym n ∙ c.if-n-eq0.true)

pub node_constant-children_constant-requires : goal.node_constant-children_constant-requires
node_constant-children_constant-requires t c =
    let s = c.args in
    let m = rw c.wide-i.ensures at c.cell_of.ensures in
    let n = rw c.wide-i.ensures at c.child_count-n.ensures in
    (omega (arith, c.decreases), constants-asked s.cells.now s.marks.now s.seen.now s.e c.requires (λ z. c.if-cell_of-eq2.false (m ∙ z)) (rw c.wide-i.ensures at c.if-marks-i-ne0.false) c.child_count-n.result n c.if-n-eq0.false)

pub node_constant-returns-then-not-children_constant : goal.node_constant-returns-then-not-children_constant
node_constant-returns-then-not-children_constant t c =
    let s = c.args in
    let m = rw c.wide-i.ensures at c.cell_of.ensures in
    let n = rw c.wide-i.ensures at c.child_count-n.ensures in
    let t = c.children_constant.new.seen in
    let w = subst (AnsweredConstants s.cells.now s.marks.now t s.e c.child_count-n.result) c.if-not-children_constant.true c.children_constant.ensures in
    constants-answered s.cells.now s.marks.now s.seen.now s.e c.requires (λ z. c.if-cell_of-eq2.false (m ∙ z)) (rw c.wide-i.ensures at c.if-marks-i-ne0.false) c.child_count-n.result n c.if-n-eq0.false t w

pub node_constant-returns : goal.node_constant-returns
node_constant-returns t c =
    let s = c.args in
    let m = rw c.wide-i.ensures at c.cell_of.ensures in
    let n = rw c.wide-i.ensures at c.child_count-n.ensures in
    let t = c.children_constant.new.seen in
    let w = subst (AnsweredConstants s.cells.now s.marks.now t s.e c.child_count-n.result) c.if-not-children_constant.false c.children_constant.ensures in
    rw c.wide-i.ensures (constants-noted s.cells.now s.marks.now s.seen.now s.e c.requires (λ z. c.if-cell_of-eq2.false (m ∙ z)) (rw c.wide-i.ensures at c.if-marks-i-ne0.false) c.child_count-n.result n c.if-n-eq0.false t w)

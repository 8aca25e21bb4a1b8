-- `questions::questions::constant_in` meets its contract.
use mathlib.Core.Path.{sym, ap, ◌∙◌}
use Rattle.classes.specs.declared.Constant.TheVariants.{Known}
use native.Mathlib.Omega.{arith}
use Rattle.arena.specs.Layout.{decode as nodes}
use Rattle.classes.specs.Layout.{decode}
use Rattle.questions.proofs.Constancy.{fresh-constant, literal-mark, class-mark, walk_yes, walk_no}
use Rattle.questions.proofs.questions.constant_in.Goals as goal

pub returns-then-cell_of-eq2 : goal.returns-then-cell_of-eq2
returns-then-cell_of-eq2 c =
    let s = c.args in
    let m = rw c.wide-i.ensures at c.cell_of.ensures in
    let v = rw c.wide-i.ensures at c.cell_of-value.ensures in
    ap Known v ∙ literal-mark s.cells.now (decode s.g) s.e c.requires.0 (sym m ∙ c.if-cell_of-eq2.true)

pub returns-then-flavour-ne0 : goal.returns-then-flavour-ne0
returns-then-flavour-ne0 c =
    let s = c.args in
    let m = rw c.wide-i.ensures at c.cell_of.ensures in
    class-mark s.cells.now (decode s.g) s.e c.requires.0 (λ z. c.if-cell_of-eq2.false (m ∙ z)) c.class_mark-own.result c.class_mark-own.ensures (λ z. c.if-flavour-ne0.true (c.flavour.ensures ∙ z))

pub class_marks-marks-requires : goal.class_marks-marks-requires
class_marks-marks-requires c =
    (c.requires.1, omega (arith, c.node_count-n.ensures, c.requires.0.holds.few))

pub node_constant-requires : goal.node_constant-requires
node_constant-requires c =
    record { known = c.requires.0; told = fresh-constant (nodes c.args.cells.now) c.class_marks-marks.result 1024 }

pub returns-then-node_constant : goal.returns-then-node_constant
returns-then-node_constant c =
    let s = c.args in
    let m = rw c.wide-i.ensures at c.cell_of.ensures in
    walk_yes s.cells.now (decode s.g) s.e c.requires.0 (λ z. c.if-cell_of-eq2.false (m ∙ z)) c.class_mark-own.result c.class_mark-own.ensures (sym c.flavour.ensures ∙ c.if-flavour-ne0.false) c.class_marks-marks.result (rw c.node_count-n.ensures at c.class_marks-marks.ensures) (sym c.if-node_constant.true ∙ c.node_constant.ensures.is)

pub returns-else-node_constant : goal.returns-else-node_constant
returns-else-node_constant c =
    let s = c.args in
    let m = rw c.wide-i.ensures at c.cell_of.ensures in
    walk_no s.cells.now (decode s.g) s.e c.requires.0 (λ z. c.if-cell_of-eq2.false (m ∙ z)) c.class_mark-own.result c.class_mark-own.ensures (sym c.flavour.ensures ∙ c.if-flavour-ne0.false) c.class_marks-marks.result (rw c.node_count-n.ensures at c.class_marks-marks.ensures) (sym c.if-node_constant.false ∙ c.node_constant.ensures.is)

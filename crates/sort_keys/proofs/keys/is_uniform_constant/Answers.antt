-- `sort_keys::keys::is_uniform_constant` meets its contract.
use Rattle.std.proofs.Common.{sym, ◌∙◌, arith, eq-eqb}
use borrow.Author.Tests.{le-ltb}
use Rattle.sort_keys.proofs.KeyLaws.{uniform-literal, uniform-added, uniform-class}
use Rattle.sort_keys.proofs.keys.is_uniform_constant.Goals as goal

pub returns-then-cell_of-eq2 : goal.returns-then-cell_of-eq2
returns-then-cell_of-eq2 c =
    eq-eqb _ _ c.if-cell_of-eq2.true ∙ uniform-literal c.args.cells.now c.args.old c.args.marks.now c.args.e c.requires.0.below (sym (rw c.wide-i.ensures at c.cell_of.ensures) ∙ c.if-cell_of-eq2.true)

pub returns-then-i-old : goal.returns-then-i-old
returns-then-i-old c =
    rw c.wide-i.ensures (uniform-class c.args.cells.now c.args.old c.args.marks.now c.args.e c.requires.0.below (λ q. c.if-cell_of-eq2.false ((rw c.wide-i.ensures at c.cell_of.ensures) ∙ q)) (omega (arith, c.wide-i.ensures)))

pub returns-else-i-old : goal.returns-else-i-old
returns-else-i-old c =
    le-ltb _ _ c.if-i-old.false ∙ uniform-added c.args.cells.now c.args.old c.args.marks.now c.args.e c.requires.0.below (λ q. c.if-cell_of-eq2.false ((rw c.wide-i.ensures at c.cell_of.ensures) ∙ q)) (omega (arith, c.wide-i.ensures))

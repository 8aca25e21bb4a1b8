-- `arena::reading::read_in` meets its contract.
use mathlib.Core.Path.{◌≡◌, sym, ◌∙◌}
use native.Mathlib.Omega.{arith}
use Rattle.arena.proofs.NodeCells.{read-column, read-literal, read-operation}
use Rattle.arena.proofs.reading.read_in.Goals as goal

pub cell_of-kind-requires : goal.cell_of-kind-requires
cell_of-kind-requires c =
    omega (arith, c.requires.below, c.requires.holds.few)

pub cell_of-payload-requires : goal.cell_of-payload-requires
cell_of-payload-requires c =
    omega (arith, c.requires.below, c.requires.holds.few)

pub returns-in-1 : goal.returns-in-1
returns-in-1 c =
    rw (read-column c.args.cells.now c.args.e c.requires (sym c.cell_of-kind.ensures ∙ c.in-1.is), c.cell_of-payload.ensures)

pub returns-in-2 : goal.returns-in-2
returns-in-2 c =
    rw (read-literal c.args.cells.now c.args.e c.requires (sym c.cell_of-kind.ensures ∙ c.in-2.is), c.cell_of-payload.ensures)

pub cell_of-requires : goal.cell_of-requires
cell_of-requires c =
    omega (arith, c.requires.below, c.requires.holds.few)

pub returns-in_default : goal.returns-in_default
returns-in_default c =
    rw (read-operation c.args.cells.now c.args.e c.requires (λ q. let k : c.cell_of-kind.result ≡ 1 = c.cell_of-kind.ensures ∙ q in omega arith) (λ q. let k : c.cell_of-kind.result ≡ 2 = c.cell_of-kind.ensures ∙ q in omega arith), c.cell_of-payload.ensures, c.cell_of.ensures)

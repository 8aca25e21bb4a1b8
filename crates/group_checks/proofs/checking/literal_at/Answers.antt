-- `group_checks::checking::literal_at` meets its contract.
use Prim.Native.Nat.{ℕ, ◌<◌}
use mathlib.Core.Bool.{true, false}
use mathlib.Core.Path.{◌≡◌, ap, ◌∙◌}
use native.Mathlib.Omega.{arith}
use lib.Dec.{eqb, ltb}
use lib.ListN.{length}
use borrow.Author.Tests.{lt-ltb, le-ltb}
use Rattle.arena.specs.Layout.{count, cell_of, decode as nodes}
use Rattle.arena.proofs.Layouts.{length-decode}
use Rattle.group_checks.proofs.Checks.{literal-cell}
use Rattle.group_checks.proofs.checking.literal_at.Goals as goal

pub cell_of-requires : goal.cell_of-requires
cell_of-requires c =
    omega (arith, c.node_count.ensures, c.requires.few)

pub returns-then-i-node_count : goal.returns-then-i-node_count
returns-then-i-node_count c =
    let x = c.args in
    let cells = x.cells.now in
    let l : x.e < count cells = omega (arith, c.node_count.ensures, c.wide-i.ensures) in
    let z : ltb x.e (length (nodes cells)) ≡ true = lt-ltb x.e (length (nodes cells)) (omega (arith, length-decode cells)) in
    let k : c.cell_of.result ≡ cell_of cells x.e 0 = c.cell_of.ensures ∙ ap (λ (i : ℕ). cell_of cells i 0) c.wide-i.ensures in
    rw (z, literal-cell cells x.e l) (ap (λ (x : ℕ). eqb x 2) k)

pub returns-else-i-node_count : goal.returns-else-i-node_count
returns-else-i-node_count c =
    let x = c.args in
    let cells = x.cells.now in
    let z : ltb x.e (length (nodes cells)) ≡ false = le-ltb x.e (length (nodes cells)) (omega (arith, length-decode cells, c.node_count.ensures, c.wide-i.ensures, c.if-i-node_count.false)) in
    rw z (le-ltb _ _ c.if-i-node_count.false)

-- `questions::questions::children_pair_up` meets its contract.
use Rattle.std.proofs.Common.{◌≡◌, length, ltb, lt-ltb, arith, true}
use Rattle.arena.specs.Node.{node_at, child_numbers}
use Rattle.arena.specs.Layout.{decode as nodes}
use Rattle.arena.proofs.NodeCells.{child-count}
use Rattle.questions.proofs.questions.children_pair_up.Goals as goal

pub returns-then-cell_of-ne0 : goal.returns-then-cell_of-ne0
returns-then-cell_of-ne0 c =
    let cells = c.args.cells.now in
    let js = child_numbers (node_at (nodes cells) c.args.x) in
    let ks = child_numbers (node_at (nodes cells) c.args.y) in
    let some : ltb 0 (length js) ≡ true = lt-ltb 0 (length js) (omega (arith, child-count cells c.args.x c.requires.0)) in
    let left : c.cell_of-then-cell_of-ne0.result ≡ length js = omega (arith, child-count cells c.args.x c.requires.0) in
    let right : c.cell_of-then-cell_of-ne0-2.result ≡ length ks = omega (arith, child-count cells c.args.y c.requires.1) in
    rw (some, left, right)

pub returns-else-cell_of-ne0 : goal.returns-else-cell_of-ne0
returns-else-cell_of-ne0 c =
    let cells = c.args.cells.now in
    let js = child_numbers (node_at (nodes cells) c.args.x) in
    let n : length js ≡ 0 = omega (arith, child-count cells c.args.x c.requires.0) in
    let z : c.cell_of.result ≡ 0 = omega arith in
    rw (n, z)

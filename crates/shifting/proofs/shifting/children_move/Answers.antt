-- `shifting::shifting::children_move` meets its contract.
use Rattle.std.proofs.Common.{rules, tests, false, ◌<◌, length, get_or, arith}
use Rattle.std.proofs.lemmas.Iterator.{serves_from_Range}
use Rattle.laws.proofs.Runs.{each-all}
use Rattle.arena.specs.Node.{node_at, child_numbers}
use Rattle.arena.specs.Layout.{decode}
use Rattle.arena.proofs.Children.{child-place}
use Rattle.shifting.proofs.shifting.children_move.Goals as goal

pub all-requires-clause-callable : goal.all-requires-clause-callable
all-requires-clause-callable c =
    serves_from_Range (λ x q k. search (rules, tests)) (λ x a b. let l : x < length (child_numbers (node_at (decode c.args.cells.now) c.args.e)) = omega arith in let p = child-place c.args.cells.now c.args.e c.requires x l in search (rules, arith))

pub returns : goal.returns
returns c =
    let ks = child_numbers (node_at (decode c.args.cells.now) c.args.e) in
    rw (← c.child_count.ensures) (each-all (λ k. get_or c.args.table.now (get_or ks k 0) false) c.child_count.result _ _ _ c.all.ensures.ran (λ x b q k. search (rules, tests)))

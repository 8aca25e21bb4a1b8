-- `projection_table::table::children_project` meets its contract.
use Prim.Native.Nat.{◌<◌}
use mathlib.Core.Bool.{not}
use native.Mathlib.Omega.{arith}
use borrow.Author.Rules.{rules}
use borrow.Author.Tests.{tests}
use lib.Dec.{eqb}
use lib.ListN.{length, get_or}
use Rattle.laws.proofs.Runs.{each-all}
use Rattle.laws.proofs.RunsC.{callable-below}
use Rattle.arena.specs.Node.{node_at, child_numbers}
use Rattle.arena.specs.Layout.{decode as nodes}
use Rattle.arena.proofs.Children.{child-place}
use Rattle.projection_table.proofs.table.children_project.Goals as goal

pub all-requires-clause-callable : goal.all-requires-clause-callable
all-requires-clause-callable c =
    let ks = child_numbers (node_at (nodes c.args.cells.now) c.args.e) in
    callable-below c.child_count.result (λ x q h. search rules)
    (λ k l. let below : get_or ks k 0 < 1024 = omega (arith, child-place c.args.cells.now c.args.e c.requires k (omega (arith, c.child_count.ensures))) in
    let inside : k < length ks = omega (arith, c.child_count.ensures) in
    search rules)

pub returns : goal.returns
returns c =
    let s = c.args in
    let ks = child_numbers (node_at (nodes s.cells.now) s.e) in
    rw (← c.child_count.ensures) (each-all (λ k. not (eqb (get_or s.table.now (get_or ks k 0) 0) 0)) c.child_count.result _ _ _ c.all.ensures.ran (λ x b q r. search (rules, tests)))

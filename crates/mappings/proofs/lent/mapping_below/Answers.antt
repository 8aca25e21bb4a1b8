-- `mappings::lent::mapping_below` meets its contract.
use Prim.Native.Nat.{◌≤◌, ◌<◌}
use mathlib.Core.Path.{sym, ◌∙◌}
use native.Mathlib.Omega.{arith}
use borrow.Author.Rules.{rules}
use borrow.Author.Tests.{tests}
use Rattle.laws.proofs.Runs.{each-all}
use Rattle.laws.proofs.RunsC.{callable-below}
use Rattle.mappings.proofs.PlaceReads.{read_in, read-size, read_mapped}
use Rattle.mappings.proofs.StructTests.{SourceBelow, mapping_below-of}
use Rattle.mappings.proofs.lent.mapping_below.Goals as goal

pub all-requires-clause-callable : goal.all-requires-clause-callable
all-requires-clause-callable c =
    let m = c.args.m in
    callable-below m.count (λ x q h. search rules)
    (λ i l. let b : (read_in m i).size ≤ 8 = omega (arith, read-size m i, c.requires.1 i l) in
    let f : i < 64 = omega (arith, c.requires.0) in
    search rules)

pub returns : goal.returns
returns c =
    let n = c.args.n in
    let m = c.args.m in
    each-all (SourceBelow n m) m.count _ _ _ c.all.ensures.ran (λ x b q k. rw (← read_mapped m x) (search (rules, tests))) ∙ sym (mapping_below-of m n)

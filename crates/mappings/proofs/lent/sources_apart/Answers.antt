-- `mappings::lent::sources_apart` meets its contract.
use mathlib.Core.Path.{sym, ◌∙◌}
use borrow.Author.Rules.{rules}
use borrow.Author.Tests.{tests}
use Rattle.laws.proofs.Runs.{each-all}
use Rattle.classes.specs.Layout.{fresh}
use Rattle.mappings.specs.Mapping.{sources}
use Rattle.mappings.specs.Layout.{decode}
use Rattle.mappings.proofs.StructTests.{apart_of}
use Rattle.mappings.proofs.lent.sources_apart.Goals as goal

pub returns : goal.returns
returns c =
    let m = c.args.m in
    each-all (λ k. fresh (sources (decode m)) k) m.count _ _ _ c.all.ensures.ran (λ x b q r. search (rules, tests)) ∙ sym (apart_of m)

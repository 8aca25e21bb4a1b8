-- `mappings::lent::source_fresh` meets its contract.
use mathlib.Core.Path.{sym, ◌∙◌}
use borrow.Author.Rules.{rules}
use borrow.Author.Tests.{tests}
use Rattle.laws.proofs.Runs.{each-all}
use Rattle.mappings.proofs.PlaceReads.{read-expr}
use Rattle.mappings.proofs.StructTests.{Unlike, fresh-of}
use Rattle.mappings.proofs.lent.source_fresh.Goals as goal

pub returns : goal.returns
returns c =
    let m = c.args.m in
    let k = c.args.k in
    each-all (Unlike m k) k _ _ _ c.all.ensures.ran (λ x b q r. rw (← read-expr m x, ← read-expr m k) (search (rules, tests))) ∙ sym (fresh-of m k c.requires.1)

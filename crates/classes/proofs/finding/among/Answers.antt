-- `classes::finding::among` meets its contract.
use Rattle.std.proofs.Common.{rules, tests, ◌+◌, eqb, get_or, sym, ◌∙◌}
use Rattle.laws.proofs.RunsA.{any-table}
use Rattle.classes.proofs.Members.{among-any}
use Rattle.classes.proofs.finding.among.Goals as goal

pub returns : goal.returns
returns c =
    let a = c.args in
    any-table (λ y. eqb y a.e) (λ k. get_or a.members.now (a.start + k) 0) a.n _ _ _ c.any.ensures.ran (λ x b q k. search (rules, tests))
    ∙ sym (among-any a.e _)

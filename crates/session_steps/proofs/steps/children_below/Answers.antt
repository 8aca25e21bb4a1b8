-- `session_steps::steps::children_below` meets its contract.
use Rattle.std.proofs.Common.{◌+◌, ◌*◌, ltb, get_or, ◌∙◌, rules, tests}
use Rattle.laws.proofs.Each.{each_cong}
use Rattle.laws.proofs.Runs.{each-all}
use Rattle.records.specs.Fields.{field, fields}
use Rattle.session_steps.proofs.Bodies.{at_fields}
use Rattle.session_steps.proofs.steps.children_below.Goals as goal

pub returns : goal.returns
returns c =
    let x = c.args in
    each-all (λ k. ltb (field x.body.now (4 + 2 * k)) x.count) x.n _ _ _ c.all.ensures.ran (λ k b q w. search (rules, tests))
    ∙ each_cong (λ k. ltb (field x.body.now (4 + 2 * k)) x.count) (λ k. ltb (get_or (fields x.body.now 4 x.n) k 0) x.count) x.n (λ i l. rw (at_fields x.body.now x.n i l))

-- `session_steps::steps::exprs_below` meets its contract.
use Rattle.std.proofs.Common.{◌*◌, ltb, ◌∙◌, rules, tests}
use Rattle.laws.proofs.Each.{each_cong}
use Rattle.laws.proofs.Runs.{each-all}
use Rattle.records.specs.Fields.{field}
use Rattle.records.specs.Record.{keys_in}
use Rattle.session_steps.specs.State.{key_expr}
use Rattle.session_steps.proofs.Bodies.{at-expr}
use Rattle.session_steps.proofs.steps.exprs_below.Goals as goal

pub returns : goal.returns
returns c =
    let x = c.args in
    each-all (λ k. ltb (field x.body.now (4 * k)) x.count) x.n _ _ _ c.all.ensures.ran (λ k b q w. search (rules, tests))
    ∙ each_cong (λ k. ltb (field x.body.now (4 * k)) x.count) (λ k. ltb (key_expr (keys_in x.body.now) k) x.count) x.n (λ i l. rw (at-expr x.body.now x.n c.requires i l))

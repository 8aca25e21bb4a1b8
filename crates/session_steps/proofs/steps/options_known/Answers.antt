-- `session_steps::steps::options_known` meets its contract.
use Rattle.std.proofs.Common.{◌+◌, ◌*◌, leb, ◌∙◌, rules, tests}
use Rattle.laws.proofs.Each.{each_cong}
use Rattle.laws.proofs.Runs.{each-all}
use Rattle.records.specs.Fields.{field}
use Rattle.records.specs.Record.{keys_in}
use Rattle.session_steps.specs.State.{key_options}
use Rattle.session_steps.proofs.Bodies.{at-options}
use Rattle.session_steps.proofs.steps.options_known.Goals as goal

pub returns : goal.returns
returns c =
    let x = c.args in
    each-all (λ k. leb (field x.body.now (4 * k + 2)) 3) x.n _ _ _ c.all.ensures.ran (λ k b q w. search (rules, tests))
    ∙ each_cong (λ k. leb (field x.body.now (4 * k + 2)) 3) (λ k. leb (key_options (keys_in x.body.now) k) 3) x.n (λ i l. rw (at-options x.body.now x.n c.requires i l))

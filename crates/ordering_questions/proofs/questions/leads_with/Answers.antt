-- `ordering_questions::questions::leads_with` meets its contract.
use Rattle.std.proofs.Common.{rules, ap, ◌∙◌}
use Rattle.std.specs.List.{list_any}
use Rattle.laws.proofs.RunsA.{any-table}
use Rattle.orderings.specs.Lists.{ordering_at}
use Rattle.orderings.specs.Layout.{decode}
use Rattle.ordering_questions.proofs.Leads.{Led, leads-any, places}
use Rattle.ordering_questions.proofs.questions.leads_with.Goals as goal

pub returns : goal.returns
returns c =
    any-table (Led c.args.e c.args.options) (ordering_at (decode c.args.g)) c.args.g.count _ _ _ c.any.ensures.ran (λ x b q k. search rules)
    ∙ ap (list_any (Led c.args.e c.args.options)) (places c.args.g) ∙ leads-any (decode c.args.g) c.args.e c.args.options

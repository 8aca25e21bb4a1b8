-- `dependency_orderings::answering::answer_gathered` meets its contract.
use mathlib.Core.Path.{sym, ap, subst, ◌∙◌}
use Rattle.std.specs.Prelude.{Result}
use Rattle.arena.specs.declared.Refusal.{Refusal}
use Rattle.arena.proofs.Refusals.{handed-on}
use Rattle.dependency_orderings.specs.Calls.{Answer}
use Rattle.dependency_orderings.specs.Inner.{Gathers, GatheredBy}
use Rattle.dependency_orderings.specs.declared.Enumerated.{Enumerated}
use Rattle.dependency_orderings.proofs.AnswerLaws.{gathers-stopped, gathers-over, gathers-done, gathers-laid}
use Rattle.dependency_orderings.proofs.answering.answer_gathered.Goals as goal

pub returns-in_err-g : goal.returns-in_err-g
returns-in_err-g c =
    λ m ks h. ap {B = Answer} (λ (r : Result Enumerated Refusal). (r, c.args.out.now)) (handed-on _ _ c.from_residual.ensures.1)
    ∙ gathers-stopped m ks c.args.out.now _ (subst (Gathers m ks) c.in_err-g.was h)

pub returns-then-over_bound : goal.returns-then-over_bound
returns-then-over_bound c =
    λ m ks h. gathers-over m ks c.args.out.now c.in_ok-g.g (subst (Gathers m ks) c.in_ok-g.was h) (sym c.over_bound.ensures ∙ c.if-over_bound.true)

pub answer-requires : goal.answer-requires
answer-requires c =
    gathers-laid c.in_ok-g.g (subst GatheredBy c.in_ok-g.was c.requires) (sym c.over_bound.ensures ∙ c.if-over_bound.false)

pub returns : goal.returns
returns c =
    λ m ks h. c.answer.ensures ∙ gathers-done m ks c.args.out.now c.in_ok-g.g (subst (Gathers m ks) c.in_ok-g.was h) (sym c.over_bound.ensures ∙ c.if-over_bound.false)

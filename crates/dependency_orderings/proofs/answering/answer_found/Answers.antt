-- `dependency_orderings::answering::answer_found` meets its contract.
use mathlib.Core.Path.{sym, ap, ◌∙◌, subst}
use mathlib.Core.List.{List}
use Prim.Native.Nat.{ℕ}
use Rattle.products.specs.Generate.{generated}
use Rattle.products.specs.Inner.{lists_of, Laid}
use Rattle.products.specs.declared.Lists.{Lists}
use Rattle.dependency_orderings.specs.Calls.{answered}
use Rattle.dependency_orderings.proofs.AnswerLaws.{answered-over, found-over, found-fits, one-laid, one-generated}
use Rattle.dependency_orderings.proofs.answering.answer_found.Goals as goal

pub returns-then-found : goal.returns-then-found
returns-then-found c =
    λ os rows. answered-over os c.args.out.now (found-over c.args.found os rows c.if-found.true)

pub answer-requires : goal.answer-requires
answer-requires c =
    let w = c.requires.1 in
    subst Laid (sym c.one_list.ensures) (one-laid c.args.found w.0 w.1 (found-fits c.args.found w.0 w.1 c.if-found.false))

pub returns : goal.returns
returns c =
    λ os rows.
    c.answer.ensures ∙ ap (λ (l : Lists). answered (generated (lists_of l)) c.args.out.now) c.one_list.ensures
    ∙ ap (λ (x : List (List ℕ)). answered x c.args.out.now) (one-generated c.args.found os rows (found-fits c.args.found os rows c.if-found.false))

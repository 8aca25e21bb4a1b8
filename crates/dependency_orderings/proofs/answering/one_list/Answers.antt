-- `dependency_orderings::answering::one_list` meets its contract.
use Rattle.dependency_orderings.proofs.AnswerLaws.{one_none, one-some}
use Rattle.dependency_orderings.proofs.answering.one_list.Goals as goal

pub returns-then-found-eq0 : goal.returns-then-found-eq0
returns-then-found-eq0 c = one_none c.args.found c.if-found-eq0.true

pub returns : goal.returns
returns c = one-some c.args.found c.if-found-eq0.false

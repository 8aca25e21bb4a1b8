-- `dependency_orderings::answering::answer_prefixes` meets its contract.
use mathlib.Core.Path.{sym, ap, ◌∙◌}
use Rattle.dependencies.specs.Layout.{decode}
use Rattle.dependencies.proofs.MapInserts.{key-inside}
use Rattle.enumeration.specs.Walk.{Walk}
use Rattle.dependency_orderings.specs.Calls.{walk_answer}
use Rattle.dependency_orderings.proofs.AnswerLaws.{nowhere-answered}
use Rattle.enumeration.proofs.WalkLaws.{prefix-there}
use Rattle.dependency_orderings.proofs.answering.answer_prefixes.Goals as goal

pub find_key-requires : goal.find_key-requires
find_key-requires c = c.requires.few

pub answer_place-requires : goal.answer_place-requires
answer_place-requires c = (c.requires, key-inside c.args.m c.args.key c.in-Some.i (sym c.find_key.ensures ∙ c.in-Some.is))

pub returns-in-Some : goal.returns-in-Some
returns-in-Some c =
    c.answer_place.ensures ∙ ap (λ (w : Walk). walk_answer w c.args.out.now) (sym (prefix-there (decode c.args.m) c.args.key c.in-Some.i (sym c.find_key.ensures ∙ c.in-Some.is)))

pub returns-in-None : goal.returns-in-None
returns-in-None c = nowhere-answered (decode c.args.m) c.args.key c.args.out.now (sym c.find_key.ensures ∙ c.in-None.is)

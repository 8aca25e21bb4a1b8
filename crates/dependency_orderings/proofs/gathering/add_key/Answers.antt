-- `dependency_orderings::gathering::add_key` meets its contract.
use mathlib.Core.Path.{sym, ◌∙◌}
use Rattle.dependencies.proofs.MapInserts.{key-inside}
use Rattle.dependency_orderings.specs.Inner.{stepped}
use Rattle.dependency_orderings.proofs.GatherLaws.{steps-missing}
use Rattle.dependency_orderings.proofs.gathering.add_key.Goals as goal

pub find_key-requires : goal.find_key-requires
find_key-requires c = c.requires.0.few

pub add_place-requires : goal.add_place-requires
add_place-requires c = ((c.requires.0, key-inside c.args.m c.args.key c.in-Some.i (sym c.find_key.ensures ∙ c.in-Some.is)), c.requires.1)

pub returns-in-Some : goal.returns-in-Some
returns-in-Some c = c.add_place.ensures c.args.key (sym c.find_key.ensures ∙ c.in-Some.is)

pub returns-in-None : goal.returns-in-None
unfolding stepped
returns-in-None c = steps-missing c.args.m c.args.g.now c.args.key c.requires.1 (sym c.find_key.ensures ∙ c.in-None.is)

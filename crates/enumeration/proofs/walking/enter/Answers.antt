-- `enumeration::walking::enter` meets its contract.
use mathlib.Core.Path.{sym, ◌∙◌}
use Rattle.dependencies.proofs.MapInserts.{key-inside}
use Rattle.enumeration.specs.Inner.{turned}
use Rattle.enumeration.proofs.Turns.{entered_there, entered_nowhere}
use Rattle.enumeration.proofs.walking.enter.Goals as goal

pub find_key-requires : goal.find_key-requires
find_key-requires c = c.requires.0.map.few

pub visit-requires : goal.visit-requires
visit-requires c = (c.requires, key-inside c.args.m c.args.key c.in-Some.i (sym c.find_key.ensures ∙ c.in-Some.is))

pub returns-in-Some : goal.returns-in-Some
returns-in-Some c = entered_there c.args.m c.args.walk.now c.args.key c.in-Some.i (turned c.visit.new.walk c.visit.result) (sym c.find_key.ensures ∙ c.in-Some.is) c.visit.ensures

pub returns-in-None : goal.returns-in-None
unfolding turned
returns-in-None c = entered_nowhere c.args.m c.args.walk.now c.args.key (sym c.find_key.ensures ∙ c.in-None.is)

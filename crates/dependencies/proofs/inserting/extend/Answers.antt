-- `dependencies::inserting::extend` meets its contract.
use mathlib.Core.Path.{ap, ◌∙◌}
use Rattle.dependencies.specs.Inner.{extended_by}
use Rattle.dependencies.proofs.MapInserts.{extended_none}
use Rattle.dependencies.proofs.MapCalls.{key-bounds, key-given, key-none}
use Rattle.dependencies.proofs.inserting.extend.Goals as goal

pub packed-requires : goal.packed-requires
packed-requires c = key-bounds c.args.dependency c.in-Some.key c.in-Some.is c.requires.1

pub depend_on-requires : goal.depend_on-requires
depend_on-requires c = c.requires.0

pub returns-in-Some : goal.returns-in-Some
returns-in-Some c =
    c.depend_on.ensures ∙ ap (extended_by c.args.r) (key-given c.args.dependency c.in-Some.key c.in-Some.is c.packed.result c.packed.ensures)

pub returns-in-None : goal.returns-in-None
returns-in-None c = extended_none c.args.r c.requires.0 ∙ ap (extended_by c.args.r) (key-none c.args.dependency c.in-None.is)

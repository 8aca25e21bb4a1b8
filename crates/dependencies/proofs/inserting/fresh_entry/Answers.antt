-- `dependencies::inserting::fresh_entry` meets its contract.
use Rattle.dependencies.proofs.MapCalls.{key-bounds, fresh-projected, fresh-bare}
use Rattle.dependencies.proofs.inserting.fresh_entry.Goals as goal

pub packed-requires : goal.packed-requires
packed-requires c = key-bounds c.args.target c.in-Some.given c.in-Some.is c.requires

pub returns-in-Some : goal.returns-in-Some
returns-in-Some c = fresh-projected c.args.target c.in-Some.given c.in-Some.is c.args.key c.packed.result c.nothing-r.result c.nothing-r.ensures c.packed.ensures

pub returns-in-None : goal.returns-in-None
returns-in-None c = fresh-bare c.args.target c.in-None.is c.args.key c.nothing-r.result c.nothing-r.ensures

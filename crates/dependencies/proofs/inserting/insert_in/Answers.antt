-- `dependencies::inserting::insert_in` meets its contract.
use Rattle.std.specs.Prelude.{None}
use mathlib.Core.Path.{sym, ◌∙◌}
use Rattle.dependencies.specs.Calls.{key_of}
use Rattle.dependencies.proofs.MapInserts.{key-inside, inserted-at, inserted-there}
use Rattle.dependencies.proofs.inserting.insert_in.Goals as goal

pub packed-key-requires : goal.packed-key-requires
packed-key-requires c = c.requires.0.1

pub find_key-requires : goal.find_key-requires
find_key-requires c = c.requires.0.0.few

pub replace-requires : goal.replace-requires
replace-requires c =
    ((c.requires.0.0, key-inside c.args.m c.packed-key.result c.in-Some.i (sym c.find_key.ensures ∙ c.in-Some.is)), c.requires.1.1)

pub append-requires : goal.append-requires
append-requires c = (c.requires.0.0, c.requires.1)

pub returns-in-Some : goal.returns-in-Some
returns-in-Some c =
    let k = c.packed-key in
    inserted-there c.args.m k.result _ (key_of c.args.target) (key_of c.args.dependency) c.replace.result c.in-Some.i
    (sym c.find_key.ensures ∙ c.in-Some.is) k.ensures c.replace.ensures

pub returns-in-None : goal.returns-in-None
returns-in-None c =
    let k = c.packed-key in
    inserted-at c.args.m k.result _ (key_of c.args.target) (key_of c.args.dependency) c.append.result None
    (sym c.find_key.ensures ∙ c.in-None.is) k.ensures c.append.ensures

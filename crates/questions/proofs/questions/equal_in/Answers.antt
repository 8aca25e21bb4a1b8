-- `questions::questions::equal_in` meets its contract.
use mathlib.Core.Path.{◌∙◌}
use native.Mathlib.Omega.{arith}
use Rattle.arena.specs.Layout.{decode as nodes}
use Rattle.classes.specs.Layout.{decode}
use Rattle.questions.proofs.Equality.{by-places, fresh-told}
use Rattle.questions.proofs.questions.equal_in.Goals as goal

pub class_places-places-requires : goal.class_places-places-requires
class_places-places-requires c =
    (c.requires.1, omega (arith, c.node_count-n.ensures, c.requires.0.0.holds.few))

pub nodes_equal-requires : goal.nodes_equal-requires
nodes_equal-requires c =
    record { left = c.requires.0.0; right = c.requires.0.1; told = fresh-told (nodes c.args.cells.now) c.class_places-places.result 16384 }

pub returns : goal.returns
returns c =
    let s = c.args in
    let k = c.requires.0 in
    c.nodes_equal.ensures.is ∙ by-places s.cells.now c.class_places-places.result (decode s.g) s.a s.b k.0 k.1 (rw c.node_count-n.ensures at c.class_places-places.ensures)

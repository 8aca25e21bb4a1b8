-- `joins::joining::sides_number` meets its contract.
use mathlib.Core.Bool.{true, false}
use mathlib.Core.Path.{sym, ap, ◌∙◌}
use Rattle.arena.specs.Refusals.{outcome, refusal}
use Rattle.joins.proofs.JoinNumbers.{sides-left, sides-right, sides-pairs}
use Rattle.joins.proofs.joining.sides_number.Goals as goal

pub members_below-requires : goal.members_below-requires
members_below-requires c = c.requires.1.0

pub returns-then-not-members_below : goal.returns-then-not-members_below
unfolding outcome refusal
returns-then-not-members_below c =
    let x = c.args in
    ap outcome (sides-left x.cells.now x.left x.right x.pairs.now c.node_count-n.result c.node_count-n.ensures (sym c.members_below.ensures ∙ c.if-not-members_below.true))

pub members_below-requires-2 : goal.members_below-requires-2
members_below-requires-2 c = c.requires.1.1

pub returns-then-not-members_below-2 : goal.returns-then-not-members_below-2
unfolding outcome refusal
returns-then-not-members_below-2 c =
    let x = c.args in
    ap outcome (sides-right x.cells.now x.left x.right x.pairs.now c.node_count-n.result c.node_count-n.ensures (sym c.members_below.ensures ∙ c.if-not-members_below.false) (sym c.members_below-2.ensures ∙ c.if-not-members_below-2.true))

pub returns-then-not-all_below : goal.returns-then-not-all_below
unfolding outcome refusal
returns-then-not-all_below c =
    let x = c.args in
    ap outcome (sides-pairs x.cells.now x.left x.right x.pairs.now c.node_count-n.result c.node_count-n.ensures (sym c.members_below.ensures ∙ c.if-not-members_below.false) (sym c.members_below-2.ensures ∙ c.if-not-members_below-2.false) false (sym c.all_below.ensures ∙ c.if-not-all_below.true))

pub returns : goal.returns
unfolding outcome refusal
returns c =
    let x = c.args in
    ap outcome (sides-pairs x.cells.now x.left x.right x.pairs.now c.node_count-n.result c.node_count-n.ensures (sym c.members_below.ensures ∙ c.if-not-members_below.false) (sym c.members_below-2.ensures ∙ c.if-not-members_below-2.false) true (sym c.all_below.ensures ∙ c.if-not-all_below.false))

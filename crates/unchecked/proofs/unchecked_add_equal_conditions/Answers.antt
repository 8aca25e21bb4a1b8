-- `unchecked::unchecked_add_equal_conditions` meets its contract.
use mathlib.Core.Path.{sym, ap, subst, ◌∙◌}
use Rattle.arena.specs.Layout.{decode as nodes}
use Rattle.classes.specs.Calls.{changed}
use Rattle.classes.specs.Group.{equal_condition}
use Rattle.classes.specs.Inner.{Held}
use Rattle.classes.specs.Layout.{decode}
use Rattle.classes.specs.Steps.{judged}
use Rattle.classes.specs.declared.Group.{Group}
use Rattle.classes.specs.declared.Changed.{Changed}
use Rattle.group_states.specs.Groups.{stored_group}
use Rattle.group_states.specs.Inner.{FitsIfDone}
use Rattle.unchecked.proofs.Carried.{judged-fits}
use Rattle.unchecked.proofs.unchecked_add_equal_conditions.Goals as goal

pub equal_condition_in-changed-requires : goal.equal_condition_in-changed-requires
equal_condition_in-changed-requires c =
    (subst (Held (nodes c.args.arena.now)) (sym c.load_group.ensures) c.requires.0, c.requires.1)

pub store_group-requires : goal.store_group-requires
store_group-requires c =
    let x = c.args in
    let g = c.load_group.result in
    let h = subst (Held (nodes x.arena.now)) (sym c.load_group.ensures) c.requires.0 in
    subst FitsIfDone (sym c.equal_condition_in-changed.ensures) (judged-fits g.limit (decode g) (equal_condition (nodes x.arena.now) (decode g) x.left x.right) h.high)

pub returns : goal.returns
returns c =
    let x = c.args in
    let is : Group → Changed = λ g. changed g.limit (judged g.limit (decode g) (equal_condition (nodes x.arena.now) (decode g) x.left x.right)) in
    c.store_group.ensures ∙ ap (stored_group x.group.now) (c.equal_condition_in-changed.ensures ∙ ap is c.load_group.ensures)

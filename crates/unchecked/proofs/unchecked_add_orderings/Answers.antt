-- `unchecked::unchecked_add_orderings` meets its contract.
use mathlib.Core.List.{◌++◌}
use mathlib.Core.Path.{sym, ap, subst, ◌∙◌}
use Rattle.orderings.specs.Inner.{Held}
use Rattle.orderings.specs.Layout.{decode}
use Rattle.orderings.specs.Lists.{built_all}
use Rattle.orderings.specs.declared.Listed.{Listed}
use Rattle.orderings.specs.declared.Orderings.{Orderings}
use Rattle.reduction.specs.Calls.{reduced_list}
use Rattle.reduction.specs.Lent.{lists_lent}
use Rattle.states.specs.Inner.{ListFitsIfDone}
use Rattle.states.specs.Orders.{stored_list}
use Rattle.state_laws.proofs.ListFit.{reduced_list-fits}
use Rattle.unchecked.proofs.unchecked_add_orderings.Goals as goal

pub add_in-listed-requires : goal.add_in-listed-requires
add_in-listed-requires c =
    (subst Held (sym c.load_orderings.ensures) c.requires.0, c.requires.1)

pub store_orderings-requires : goal.store_orderings-requires
store_orderings-requires c =
    let x = c.args in
    let g = c.load_orderings.result in
    subst ListFitsIfDone (sym c.add_in-listed.ensures) (reduced_list-fits g (decode g ++ built_all (lists_lent x.numbers.now)))

pub returns : goal.returns
returns c =
    let x = c.args in
    let is : Orderings → Listed = λ g. reduced_list g (decode g ++ built_all (lists_lent x.numbers.now)) in
    c.store_orderings.ensures ∙ ap (stored_list x.orderings.now) (c.add_in-listed.ensures ∙ ap is c.load_orderings.ensures)

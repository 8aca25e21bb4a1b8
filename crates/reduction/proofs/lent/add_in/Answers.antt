-- `reduction::lent::add_in` meets its contract.
use mathlib.Core.List.{◌++◌}
use mathlib.Core.Path.{sym, subst, ◌∙◌}
use Rattle.orderings.specs.Lists.{built_all}
use Rattle.reduction.specs.Lent.{lists_lent}
use Rattle.orderings.specs.Layout.{decode}
use Rattle.orderings.specs.Inner.{Held}
use Rattle.orderings.proofs.Codec.{good-held}
use Rattle.reduction.proofs.Adding.{added-good, made-refused, reduced-done}
use Rattle.orderings.proofs.Appending.{made-done}
use Rattle.reduction.proofs.lent.add_in.Goals as goal

pub add_all-requires : goal.add_all-requires
add_all-requires c = c.requires

pub remove_redundant_entries-requires : goal.remove_redundant_entries-requires
remove_redundant_entries-requires c =
    let g = c.args.g in
    let kss = lists_lent c.args.numbers.now in
    let w = made-done (decode g ++ built_all kss) c.in-Ok.all c.in-Ok.ensures in
    subst Held (sym w.1) (good-held (decode g ++ built_all kss) (added-good (decode g) kss c.requires.0.good w.0))

pub returns-in-Ok : goal.returns-in-Ok
returns-in-Ok c =
    let g = c.args.g in
    let r = c.remove_redundant_entries in
    reduced-done g (decode g ++ built_all (lists_lent c.args.numbers.now)) c.in-Ok.all c.in-Ok.ensures r.result r.ensures

pub returns-in-Err : goal.returns-in-Err
returns-in-Err c =
    c.refusal.ensures ∙ made-refused c.args.g (decode c.args.g ++ built_all (lists_lent c.args.numbers.now)) c.in-Err.why c.in-Err.ensures

-- `enumeration::marking::mark_node` meets its contract.
use mathlib.Core.Bool.{false, ◌||◌}
use lib.ListN.{get_or}
use Rattle.enumeration.specs.Inner.{hits, marked_node}
use Rattle.enumeration.proofs.Marks.{filled_none, filled_more, filled-all}
use borrow.Author.Rules.{rules}
use Rattle.enumeration.proofs.marking.mark_node.Goals as goal

pub loop-k-init : goal.loop-k-init
loop-k-init c =
    let x = c.args in
    filled_none (λ j. get_or x.seen.told j false || hits x.node j x.target x.dependency) false 16 false

pub loop-k-preserved : goal.loop-k-preserved
loop-k-preserved c =
    let x = c.args in
    let s = c.loop-k in
    filled_more (λ j. get_or x.seen.told j false || hits x.node j x.target x.dependency) false 16 s.k s.out.told c.told_after.result (search rules) s.invariant c.told_after.ensures

pub returns : goal.returns
unfolding marked_node
returns c =
    let x = c.args in
    let s = c.loop-k in
    λ t. record { told = filled-all (λ j. get_or x.seen.told j false || hits x.node j x.target x.dependency) false 16 s.k s.out.told (search rules) s.invariant t }

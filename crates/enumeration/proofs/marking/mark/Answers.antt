-- `enumeration::marking::mark` meets its contract.
use Rattle.dependencies.specs.Layout.{place_in}
use Rattle.dependencies.proofs.MapChecks.{sized}
use Rattle.enumeration.specs.Inner.{unmarked, seen_at, marked_node, marked}
use Rattle.enumeration.proofs.Marks.{filled_none, filled_more, filled-all, seen-sized, marked-read}
use borrow.Author.Rules.{rules}
use Rattle.enumeration.proofs.marking.mark.Goals as goal

pub loop-i-init : goal.loop-i-init
loop-i-init c =
    let x = c.args in
    filled_none (λ j. marked_node (place_in x.m j) (seen_at x.walk j) x.target x.dependency) unmarked 64 unmarked

pub loop-i-preserved : goal.loop-i-preserved
loop-i-preserved c =
    let x = c.args in
    let g = c.well_formed in
    let s = c.loop-i in
    filled_more (λ j. marked_node (place_in x.m j) (seen_at x.walk j) x.target x.dependency) unmarked 64 s.i s.seen c.mark_node.result (search rules) s.invariant
    (marked-read x.m x.walk x.target x.dependency s.i c.mark_node.result (sized x.m _ g.0) (seen-sized x.walk _ g.1.0) (search rules) c.mark_node.ensures)

pub returns : goal.returns
unfolding marked
returns c =
    let x = c.args in
    let s = c.loop-i in
    λ t. record {
      depth = x.walk.depth;
      frames = x.walk.frames;
      seen = filled-all (λ j. marked_node (place_in x.m j) (seen_at x.walk j) x.target x.dependency) unmarked 64 s.i s.seen (search rules) s.invariant t;
    }

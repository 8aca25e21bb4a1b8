-- `merging::extending::contains_any` meets its contract.
use mathlib.Core.Path.{◌≡◌, ap, ◌∙◌}
use Prim.Native.Nat.{◌+◌, ◌-◌, ◌≤◌}
use mathlib.Core.Bool.{Bool}
use lib.Dec.{eqb}
use lib.ListN.{get_or, take, drop}
use native.Mathlib.Omega.{arith}
use borrow.Author.Rules.{rules}
use borrow.Author.Tests.{tests}
use Rattle.std.proofs.Common.{List, ℕ}
use Rattle.std.specs.List.{list_any}
use Rattle.std.proofs.lemmas.Iterator.{YieldsList-from_slice}
use Rattle.std.proofs.lemmas.Iterator.Search.{any_from_yields_List}
use Rattle.merging.specs.Extending.{any_among, contains_any}
use Rattle.classes.specs.Group.{among, class_at}
use Rattle.classes.specs.Layout.{decode}
use Rattle.classes.proofs.Rebuilding.{start-inside}
use Rattle.merging.proofs.Meetings.{among-any, meets-any, cut-inside, cut-is}
use Rattle.merging.proofs.extending.contains_any.Goals as goal

pub class_start-start-requires : goal.class_start-start-requires
class_start-start-requires c = start-inside c.args.g c.requires.0 c.args.i c.requires.1.0

pub overflow_add-start : goal.overflow_add-start
overflow_add-start c =
    omega (arith, cut-inside c.args.g c.requires.0 c.args.i c.class_start-start.result c.class_start-start.ensures)

pub offset_bounds-g-start : goal.offset_bounds-g-start
offset_bounds-g-start c =
    omega (arith, cut-inside c.args.g c.requires.0 c.args.i c.class_start-start.result c.class_start-start.ensures)

pub class_start-other-requires : goal.class_start-other-requires
class_start-other-requires c = start-inside c.args.g c.requires.0 c.args.j c.requires.1.1

pub overflow_add-others : goal.overflow_add-others
overflow_add-others c =
    omega (arith, cut-inside c.args.g c.requires.0 c.args.j c.class_start-other.result c.class_start-other.ensures)

pub offset_bounds-g-other : goal.offset_bounds-g-other
offset_bounds-g-other c =
    omega (arith, cut-inside c.args.g c.requires.0 c.args.j c.class_start-other.result c.class_start-other.ensures)

pub slice_bounds-others-end : goal.slice_bounds-others-end
slice_bounds-others-end c =
    let b : c.class_start-other.result + get_or c.args.g.sizes c.args.j 0 ≤ 256 = cut-inside c.args.g c.requires.0 c.args.j c.class_start-other.result c.class_start-other.ensures in
    search rules

pub slice_bounds-iter-end : goal.slice_bounds-iter-end
slice_bounds-iter-end c =
    let b : c.class_start-start.result + get_or c.args.g.sizes c.args.i 0 ≤ 256 = cut-inside c.args.g c.requires.0 c.args.i c.class_start-start.result c.class_start-start.ensures in
    search rules

pub returns : goal.returns
unfolding contains_any
returns c =
    let start = c.class_start-start in
    let other = c.class_start-other in
    let ms = (class_at (decode c.args.g) c.args.j).members in
    let holds : (e : ℕ) (b : Bool) → b ≡ list_any (λ m. eqb m e) (take (other.result + get_or c.args.g.sizes c.args.j 0 - other.result) (drop other.result c.args.g.members)) → b ≡ among e ms =
    λ e b q. q ∙ among-any e _ ∙ ap (among e) (cut-is c.args.g c.requires.0 c.args.j other.result other.ensures) in
    any_from_yields_List (λ e. among e ms) _ _ c.any.result c.any.ensures.ran (YieldsList-from_slice _ c.iter.ensures.rest) (λ x b q k. (search rules, holds x.now b (search (rules, tests))))
    ∙ meets-any ms _ ∙ ap (λ (xs : List ℕ). any_among xs ms) (cut-is c.args.g c.requires.0 c.args.i start.result start.ensures)

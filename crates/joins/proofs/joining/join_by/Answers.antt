-- `joins::joining::join_by` meets its contract.
use mathlib.Core.List.{List}
use mathlib.Core.Path.{sym, ap, ◌∙◌}
use native.Mathlib.Omega.{arith}
use Rattle.arena.specs.Layout.{decode as nodes}
use Rattle.arena.specs.Calls.{in_cells}
use Rattle.classes.specs.Layout.{decode}
use Rattle.shifted_classes.specs.Lent.{pairs_lent}
use Rattle.joins.specs.Kinds.{join_kind}
use Rattle.joins.specs.Calls.{join_shifted}
use Rattle.joins.proofs.Joins.{no_sides, no_pairs, by-pairs, by-shift, by_left, by_right, by-none, made_beside, empty-made, empty-coded}
use Rattle.joins.proofs.joining.join_by.Goals as goal

pub kind_of-entry-requires : goal.kind_of-entry-requires
kind_of-entry-requires c = omega (arith, c.wide.ensures, c.requires.1)

pub join_shifted-requires : goal.join_shifted-requires
join_shifted-requires c = c.requires.0

pub returns-then-entry-2 : goal.returns-then-entry-2
returns-then-entry-2 c =
    let q = c.kind_of-entry.ensures ∙ ap join_kind c.wide.ensures in
    c.join_shifted.ensures
    ∙ ap in_cells (sym (by-pairs c.args.left c.args.right c.args.kind c.args.left_size (pairs_lent c.args.pairs.now) (nodes c.args.cells.now) c.kind_of-entry.result q c.if-entry.true c.if-entry-2.true))

pub join_shifted-requires-then-entry : goal.join_shifted-requires-then-entry
join_shifted-requires-then-entry c =
    no_sides c.args.cells.now c.args.left c.args.right c.args.pairs.now c.requires.0

pub returns-then-entry : goal.returns-then-entry
returns-then-entry c =
    let q = c.kind_of-entry.ensures ∙ ap join_kind c.wide.ensures in
    c.join_shifted-then-entry.ensures
    ∙ ap in_cells (ap (λ (ps : List _). join_shifted c.args.left (decode c.args.right) c.args.left_size ps (nodes c.args.cells.now)) no_pairs
    ∙ sym (by-shift c.args.left c.args.right c.args.kind c.args.left_size (pairs_lent c.args.pairs.now) (nodes c.args.cells.now) c.kind_of-entry.result q c.if-entry.true c.if-entry-2.false))

pub made-requires : goal.made-requires
made-requires c = c.requires.0.left-held.coded

pub returns-then-entry-3 : goal.returns-then-entry-3
returns-then-entry-3 c =
    let q = c.kind_of-entry.ensures ∙ ap join_kind c.wide.ensures in
    made_beside c.args.cells.now c.requires.0.holds c.made.result (decode c.args.left) _ c.made.ensures
    (by_left c.args.left c.args.right c.args.kind c.args.left_size (pairs_lent c.args.pairs.now) (nodes c.args.cells.now) c.kind_of-entry.result q c.if-entry.false c.if-entry-3.true)

pub made-requires-then-entry-4 : goal.made-requires-then-entry-4
made-requires-then-entry-4 c = c.requires.0.right-held.coded

pub returns-then-entry-4 : goal.returns-then-entry-4
returns-then-entry-4 c =
    let q = c.kind_of-entry.ensures ∙ ap join_kind c.wide.ensures in
    made_beside c.args.cells.now c.requires.0.holds c.made-then-entry-4.result (decode c.args.right) _ c.made-then-entry-4.ensures
    (by_right c.args.left c.args.right c.args.kind c.args.left_size (pairs_lent c.args.pairs.now) (nodes c.args.cells.now) c.kind_of-entry.result q c.if-entry.false c.if-entry-3.false c.if-entry-4.true)

pub made-requires-2 : goal.made-requires-2
made-requires-2 c = empty-coded c.empty.result c.empty.ensures

pub returns : goal.returns
returns c =
    let q = c.kind_of-entry.ensures ∙ ap join_kind c.wide.ensures in
    made_beside c.args.cells.now c.requires.0.holds c.made-2.result _ _ (empty-made c.empty.result c.made-2.result c.empty.ensures c.made-2.ensures)
    (by-none c.args.left c.args.right c.args.kind c.args.left_size (pairs_lent c.args.pairs.now) (nodes c.args.cells.now) c.kind_of-entry.result q c.if-entry.false c.if-entry-3.false c.if-entry-4.false)

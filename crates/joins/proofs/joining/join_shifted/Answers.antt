-- `joins::joining::join_shifted` meets its contract.
use mathlib.Core.Path.{◌≡◌, sym, ap, ◌∙◌}
use native.Mathlib.Omega.{arith}
use lib.ListN.{length}
use Rattle.arena.specs.declared.Refusal.TheVariants.{IndexOutOfRange}
use Rattle.arena.specs.Layout.{decode as nodes}
use Rattle.arena.proofs.Layouts.{length-decode}
use Rattle.classes.specs.declared.Changed.{Changed}
use Rattle.classes.proofs.Judging.{refusal_is}
use Rattle.joins.proofs.Joins.{Outcome, members-test, rights-test, members-placed, rights-placed, members-out, rights-out, shift-ready, shift-done, shift-refused}
use Rattle.joins.proofs.joining.join_shifted.Goals as goal

pub movable-table-requires : goal.movable-table-requires
movable-table-requires c =
    ((c.requires.holds, omega (arith, c.node_count.ensures)), c.lift_of_size-lift.ensures.0)

pub members_move-requires : goal.members_move-requires
members_move-requires c =
    (c.requires.right-held.coded, members-placed c.args.cells.now c.args.left c.args.right c.args.pairs.now c.requires)

pub returns-then-not-members_move : goal.returns-then-not-members_move
returns-then-not-members_move c =
    let w = c.lift_of_size-lift in
    let n : c.node_count.result ≡ length (nodes c.args.cells.now) = c.node_count.ensures ∙ sym (length-decode c.args.cells.now) in
    ap {B = Outcome} (λ (x : Changed). (x, c.args.cells.now)) (refusal_is c.refusal.result IndexOutOfRange c.args.left c.refusal.ensures)
    ∙ members-out c.args.cells.now c.args.left c.args.right c.args.pairs.now c.args.left_size w.result c.requires w.ensures.1
    (sym (members-test c.args.cells.now c.args.left c.args.right c.args.pairs.now w.result c.node_count.result c.requires n c.movable-table.result c.movable-table.ensures) ∙ sym c.members_move.ensures ∙ c.if-not-members_move.true)

pub rights_move-requires : goal.rights_move-requires
rights_move-requires c =
    rights-placed c.args.cells.now c.args.left c.args.right c.args.pairs.now c.requires

pub returns-then-not-rights_move : goal.returns-then-not-rights_move
returns-then-not-rights_move c =
    let w = c.lift_of_size-lift in
    let n : c.node_count.result ≡ length (nodes c.args.cells.now) = c.node_count.ensures ∙ sym (length-decode c.args.cells.now) in
    ap {B = Outcome} (λ (x : Changed). (x, c.args.cells.now)) (refusal_is c.refusal-then-not-rights_move.result IndexOutOfRange c.args.left c.refusal-then-not-rights_move.ensures)
    ∙ rights-out c.args.cells.now c.args.left c.args.right c.args.pairs.now c.args.left_size w.result c.requires w.ensures.1
    (sym (rights-test c.args.cells.now c.args.left c.args.right c.args.pairs.now w.result c.node_count.result c.requires n c.movable-table.result c.movable-table.ensures) ∙ sym c.rights_move.ensures ∙ c.if-not-rights_move.true)

pub join_placed-joined-requires : goal.join_placed-joined-requires
join_placed-joined-requires c =
    let w = c.lift_of_size-lift in
    let n : c.node_count.result ≡ length (nodes c.args.cells.now) = c.node_count.ensures ∙ sym (length-decode c.args.cells.now) in
    let a = sym (members-test c.args.cells.now c.args.left c.args.right c.args.pairs.now w.result c.node_count.result c.requires n c.movable-table.result c.movable-table.ensures) ∙ sym c.members_move.ensures ∙ c.if-not-members_move.false in
    let b = sym (rights-test c.args.cells.now c.args.left c.args.right c.args.pairs.now w.result c.node_count.result c.requires n c.movable-table.result c.movable-table.ensures) ∙ sym c.rights_move.ensures ∙ c.if-not-rights_move.false in
    shift-ready c.args.cells.now c.args.left c.args.right c.args.pairs.now c.args.left_size w.result c.requires w.ensures.1 a b w.ensures.0

pub returns-in-Err : goal.returns-in-Err
returns-in-Err c =
    let w = c.lift_of_size-lift in
    let j = c.join_placed-joined in
    let n : c.node_count.result ≡ length (nodes c.args.cells.now) = c.node_count.ensures ∙ sym (length-decode c.args.cells.now) in
    let a = sym (members-test c.args.cells.now c.args.left c.args.right c.args.pairs.now w.result c.node_count.result c.requires n c.movable-table.result c.movable-table.ensures) ∙ sym c.members_move.ensures ∙ c.if-not-members_move.false in
    let b = sym (rights-test c.args.cells.now c.args.left c.args.right c.args.pairs.now w.result c.node_count.result c.requires n c.movable-table.result c.movable-table.ensures) ∙ sym c.rights_move.ensures ∙ c.if-not-rights_move.false in
    ap {B = Outcome} (λ (x : Changed). (x, c.args.cells.now)) (refusal_is c.refusal-in-Err.result c.in-Err.why c.args.left c.refusal-in-Err.ensures)
    ∙ shift-refused c.args.cells.now c.args.left c.args.right c.args.pairs.now c.args.left_size w.result c.requires w.ensures.1 a b j.new.cells j.result j.ensures c.in-Err.why c.in-Err.is

pub returns : goal.returns
returns c =
    let w = c.lift_of_size-lift in
    let j = c.join_placed-joined in
    let n : c.node_count.result ≡ length (nodes c.args.cells.now) = c.node_count.ensures ∙ sym (length-decode c.args.cells.now) in
    let a = sym (members-test c.args.cells.now c.args.left c.args.right c.args.pairs.now w.result c.node_count.result c.requires n c.movable-table.result c.movable-table.ensures) ∙ sym c.members_move.ensures ∙ c.if-not-members_move.false in
    let b = sym (rights-test c.args.cells.now c.args.left c.args.right c.args.pairs.now w.result c.node_count.result c.requires n c.movable-table.result c.movable-table.ensures) ∙ sym c.rights_move.ensures ∙ c.if-not-rights_move.false in
    shift-done c.args.cells.now c.args.left c.args.right c.args.pairs.now c.args.left_size w.result c.requires w.ensures.1 a b j.new.cells j.result j.ensures c.in_default.field-0 c.in_default.is

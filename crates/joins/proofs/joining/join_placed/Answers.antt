-- `joins::joining::join_placed` meets its contract.
use mathlib.Core.Bool.{true, false, not}
use mathlib.Core.Path.{refl, sym, ap, ◌∙◌, subst}
use Rattle.std.specs.Prelude.{is_ok}
use Rattle.arena.specs.declared.Refusal.TheVariants.{ArenaFull, GroupFull}
use native.Mathlib.Omega.{arith}
use lib.ListN.{take}
use Rattle.classes.proofs.Judging.{refusal_is}
use Rattle.joins.specs.Inner.{Joined}
use Rattle.joins.proofs.Joins.{members-ready, members-full, rights-ready, rights-full, classes-over, members-over, list-asks, list-coded, all_coded, pairs_ask, join-done}
use Rattle.joins.proofs.joining.join_placed.Goals as goal

pub shift_members-requires : goal.shift_members-requires
shift_members-requires c =
    (c.requires.held.right-held.coded, members-ready c.args.lift c.args.cells.now c.args.left c.args.right c.args.pairs.now c.requires 1024)

pub returns-in_default : goal.returns-in_default
returns-in_default c =
    let a = c.shift_members in
    subst (Joined c.args.lift c.args.cells.now a.new.cells c.args.left c.args.right c.args.pairs.now) (sym (refusal_is c.refusal.result ArenaFull c.args.left c.refusal.ensures))
    (members-full c.args.lift c.args.cells.now c.args.left c.args.right c.args.pairs.now c.requires a.new.cells a.new.memo false _ (rw c.in_default.is at a.ensures.0) refl)

pub shift_rights-requires : goal.shift_rights-requires
shift_rights-requires c =
    let a = c.shift_members in
    rights-ready c.args.lift c.args.cells.now c.args.left c.args.right c.args.pairs.now c.requires a.new.cells a.new.memo true (take c.args.right.used c.in-Ok.members) (rw c.in-Ok.is at a.ensures.0) refl

pub returns-then-is_err : goal.returns-then-is_err
returns-then-is_err c =
    let a = c.shift_members in
    let b = c.shift_rights in
    subst (Joined c.args.lift c.args.cells.now b.new.cells c.args.left c.args.right c.args.pairs.now) (sym (refusal_is c.refusal-then-is_err.result ArenaFull c.args.left c.refusal-then-is_err.ensures))
    (rights-full c.args.lift c.args.cells.now c.args.left c.args.right c.args.pairs.now c.requires a.new.cells a.new.memo true (take c.args.right.used c.in-Ok.members) (rw c.in-Ok.is at a.ensures.0) refl
    b.new.cells b.new.memo (is_ok b.result) b.ensures.0.0 b.ensures.0.1 (c.is_err.ensures.negation ∙ ap not c.if-is_err.true))

pub overflow_add-left : goal.overflow_add-left
overflow_add-left c =
    let l = c.requires.held.left-held.coded.few in
    let r = c.requires.held.right-held.coded.few in
    record { fits = omega (arith, l, r) }

pub returns-then-left-right-gt64 : goal.returns-then-left-right-gt64
returns-then-left-right-gt64 c =
    let a = c.shift_members in
    let b = c.shift_rights in
    subst (Joined c.args.lift c.args.cells.now b.new.cells c.args.left c.args.right c.args.pairs.now) (sym (refusal_is c.refusal-then-left-right-gt64.result GroupFull c.args.left c.refusal-then-left-right-gt64.ensures))
    (classes-over c.args.lift c.args.cells.now c.args.left c.args.right c.args.pairs.now c.requires a.new.cells a.new.memo true (take c.args.right.used c.in-Ok.members) (rw c.in-Ok.is at a.ensures.0) refl
    b.new.cells b.new.memo (is_ok b.result) b.ensures.0.0 b.ensures.0.1 (c.is_err.ensures.negation ∙ ap not c.if-is_err.false) c.if-left-right-gt64.true)

pub overflow_add-left-2 : goal.overflow_add-left-2
overflow_add-left-2 c =
    let l = c.requires.held.left-held.coded.small in
    let r = c.requires.held.right-held.coded.small in
    record { fits = omega (arith, l, r) }

pub returns-then-left-right-gt256 : goal.returns-then-left-right-gt256
returns-then-left-right-gt256 c =
    let a = c.shift_members in
    let b = c.shift_rights in
    subst (Joined c.args.lift c.args.cells.now b.new.cells c.args.left c.args.right c.args.pairs.now) (sym (refusal_is c.refusal-then-left-right-gt256.result GroupFull c.args.left c.refusal-then-left-right-gt256.ensures))
    (members-over c.args.lift c.args.cells.now c.args.left c.args.right c.args.pairs.now c.requires a.new.cells a.new.memo true (take c.args.right.used c.in-Ok.members) (rw c.in-Ok.is at a.ensures.0) refl
    b.new.cells b.new.memo (is_ok b.result) b.ensures.0.0 b.ensures.0.1 (c.is_err.ensures.negation ∙ ap not c.if-is_err.false) c.if-left-right-gt256.true)

pub add_shifted-list-requires : goal.add_shifted-list-requires
add_shifted-list-requires c =
    let a = c.shift_members in
    let b = c.shift_rights in
    list-asks c.args.lift c.args.cells.now c.args.left c.args.right c.args.pairs.now c.requires a.new.cells a.new.memo true (take c.args.right.used c.in-Ok.members) (rw c.in-Ok.is at a.ensures.0) refl
    b.new.cells b.new.memo (is_ok b.result) b.ensures.0.0 b.ensures.0.1 (c.is_err.ensures.negation ∙ ap not c.if-is_err.false) (omega arith) c.if-left-right-gt256.false

pub made-requires : goal.made-requires
made-requires c =
    let a = c.shift_members in
    let b = c.shift_rights in
    list-coded c.args.lift c.args.cells.now c.args.left c.args.right c.args.pairs.now c.requires a.new.cells a.new.memo true (take c.args.right.used c.in-Ok.members) (rw c.in-Ok.is at a.ensures.0) refl
    b.new.cells b.new.memo (is_ok b.result) b.ensures.0.0 b.ensures.0.1 (c.is_err.ensures.negation ∙ ap not c.if-is_err.false) (omega arith) c.if-left-right-gt256.false c.add_shifted-list.result c.add_shifted-list.ensures

pub from_classes-requires : goal.from_classes-requires
from_classes-requires c =
    let a = c.shift_members in
    let b = c.shift_rights in
    all_coded c.args.lift c.args.cells.now c.args.left c.args.right c.args.pairs.now c.requires a.new.cells a.new.memo true (take c.args.right.used c.in-Ok.members) (rw c.in-Ok.is at a.ensures.0) refl
    b.new.cells b.new.memo (is_ok b.result) b.ensures.0.0 b.ensures.0.1 (c.is_err.ensures.negation ∙ ap not c.if-is_err.false) (omega arith) c.if-left-right-gt256.false c.add_shifted-list.result c.add_shifted-list.ensures c.made.result c.made.ensures

pub equate_pairs-requires : goal.equate_pairs-requires
equate_pairs-requires c =
    let a = c.shift_members in
    let b = c.shift_rights in
    pairs_ask c.args.lift c.args.cells.now c.args.left c.args.right c.args.pairs.now c.requires a.new.cells a.new.memo true (take c.args.right.used c.in-Ok.members) (rw c.in-Ok.is at a.ensures.0) refl
    b.new.cells b.new.memo (is_ok b.result) b.ensures.0.0 b.ensures.0.1 (c.is_err.ensures.negation ∙ ap not c.if-is_err.false) (omega arith) c.if-left-right-gt256.false c.add_shifted-list.result c.add_shifted-list.ensures c.made.result c.made.ensures c.from_classes.result c.from_classes.ensures

pub returns : goal.returns
returns c =
    let a = c.shift_members in
    let b = c.shift_rights in
    let e = c.equate_pairs in
    join-done c.args.lift c.args.cells.now c.args.left c.args.right c.args.pairs.now c.requires a.new.cells a.new.memo true (take c.args.right.used c.in-Ok.members) (rw c.in-Ok.is at a.ensures.0) refl
    b.new.cells b.new.memo (is_ok b.result) b.ensures.0.0 b.ensures.0.1 (c.is_err.ensures.negation ∙ ap not c.if-is_err.false) (omega arith) c.if-left-right-gt256.false c.add_shifted-list.result c.add_shifted-list.ensures c.made.result c.made.ensures c.from_classes.result c.from_classes.ensures
    e.new.cells e.ensures.0 e.result e.ensures.1

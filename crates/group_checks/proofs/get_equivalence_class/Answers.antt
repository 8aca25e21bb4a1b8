-- `group_checks::get_equivalence_class` meets its contract.
use Prim.Native.Nat.{◌≤◌, ◌<◌}
use Rattle.std.specs.Prelude.{None, Some, Err}
use mathlib.Core.Path.{◌≡◌, sym, ◌∙◌}
use native.Mathlib.Omega.{arith}
use borrow.Author.Rules.{rules}
use lib.ListN.{length}
use Rattle.arena.specs.Layout.{decode as nodes}
use Rattle.arena.proofs.Layouts.{length-decode}
use Rattle.classes.specs.Group.{class_of}
use Rattle.classes.specs.Layout.{decode}
use Rattle.group_checks.specs.Calls.{class_answer}
use Rattle.arena.specs.Refusals.{refusal}
use Rattle.arena.proofs.Refusals.{handed-on, done-zero}
use Rattle.classes.proofs.Codec.{length-decode as length-classes, size_is}
use Rattle.classes.proofs.Places.{class_of-some}
use Rattle.group_checks.proofs.HeldLaws.{number-held}
use Rattle.group_checks.proofs.Calling.{ask_done, ask_refused, class-unknown, class-nowhere, class-at}
use Rattle.group_checks.proofs.get_equivalence_class.Goals as goal

pub returns-in_err-check_group : goal.returns-in_err-check_group
returns-in_err-check_group c =
    ask_refused c.args.cells.now c.args.group (class_answer c.args.expr) c.from_residual.result _ (sym c.in_err-check_group.ensures) (handed-on _ _ c.from_residual.ensures.1)

pub returns-then-node_count-wide : goal.returns-then-node_count-wide
returns-then-node_count-wide c =
    let l : length (nodes c.args.cells.now) ≤ c.args.expr = omega (arith, length-decode c.args.cells.now, c.node_count.ensures, c.wide.ensures) in
    sym ((ask_done c.args.cells.now c.args.group (λ k. Err (refusal k)) (class_answer c.args.expr) (sym c.in_ok-check_group.ensures)) ∙ class-unknown (nodes c.args.cells.now) (decode c.args.group) c.args.expr l)

pub find_class-requires : goal.find_class-requires
find_class-requires c =
    let sz : length c.args.group.sizes ≡ 64 = search rules in
    let fl : length c.args.group.flavours ≡ 64 = search rules in
    let vl : length c.args.group.values ≡ 64 = search rules in
    let mm : length c.args.group.members ≡ 256 = search rules in
    let h = number-held c.args.cells.now c.args.group sz fl vl mm (done-zero _ (sym c.in_ok-check_group.ensures)) in
    h.coded

pub class_size-requires : goal.class_size-requires
class_size-requires c =
    let sz : length c.args.group.sizes ≡ 64 = search rules in
    let fl : length c.args.group.flavours ≡ 64 = search rules in
    let vl : length c.args.group.values ≡ 64 = search rules in
    let mm : length c.args.group.members ≡ 256 = search rules in
    let h = number-held c.args.cells.now c.args.group sz fl vl mm (done-zero _ (sym c.in_ok-check_group.ensures)) in
    let o : class_of (decode c.args.group) c.args.expr ≡ Some c.in-Some.place = sym c.find_class.ensures ∙ c.in-Some.is in
    let w : c.in-Some.place < c.args.group.count = rw (length-classes c.args.group) at (class_of-some (decode c.args.group) c.args.expr c.in-Some.place o).0 in
    (h.coded, w)

pub first_member-requires : goal.first_member-requires
first_member-requires c =
    let sz : length c.args.group.sizes ≡ 64 = search rules in
    let fl : length c.args.group.flavours ≡ 64 = search rules in
    let vl : length c.args.group.values ≡ 64 = search rules in
    let mm : length c.args.group.members ≡ 256 = search rules in
    let h = number-held c.args.cells.now c.args.group sz fl vl mm (done-zero _ (sym c.in_ok-check_group.ensures)) in
    let o : class_of (decode c.args.group) c.args.expr ≡ Some c.in-Some.place = sym c.find_class.ensures ∙ c.in-Some.is in
    let w : c.in-Some.place < c.args.group.count = rw (length-classes c.args.group) at (class_of-some (decode c.args.group) c.args.expr c.in-Some.place o).0 in
    let f = h.good.filled c.in-Some.place (rw (length-classes c.args.group) w) in
    (h.coded, (w, rw (size_is c.args.group h.coded c.in-Some.place) f))

pub constant_of-requires : goal.constant_of-requires
constant_of-requires c =
    let sz : length c.args.group.sizes ≡ 64 = search rules in
    let fl : length c.args.group.flavours ≡ 64 = search rules in
    let vl : length c.args.group.values ≡ 64 = search rules in
    let mm : length c.args.group.members ≡ 256 = search rules in
    let h = number-held c.args.cells.now c.args.group sz fl vl mm (done-zero _ (sym c.in_ok-check_group.ensures)) in
    let o : class_of (decode c.args.group) c.args.expr ≡ Some c.in-Some.place = sym c.find_class.ensures ∙ c.in-Some.is in
    let w : c.in-Some.place < c.args.group.count = rw (length-classes c.args.group) at (class_of-some (decode c.args.group) c.args.expr c.in-Some.place o).0 in
    (h.coded, w)

pub returns-in-Some : goal.returns-in-Some
returns-in-Some c =
    let o : class_of (decode c.args.group) c.args.expr ≡ Some c.in-Some.place = sym c.find_class.ensures ∙ c.in-Some.is in
    let w : c.in-Some.place < c.args.group.count = rw (length-classes c.args.group) at (class_of-some (decode c.args.group) c.args.expr c.in-Some.place o).0 in
    let l : c.args.expr < length (nodes c.args.cells.now) = omega (arith, length-decode c.args.cells.now, c.node_count.ensures, c.wide.ensures) in
    rw (c.class_size.ensures, c.first_member.ensures, c.constant_of.ensures) (sym ((ask_done c.args.cells.now c.args.group (λ k. Err (refusal k)) (class_answer c.args.expr) (sym c.in_ok-check_group.ensures)) ∙ class-at (nodes c.args.cells.now) (decode c.args.group) c.args.expr l c.in-Some.place o))

pub returns-in-None : goal.returns-in-None
returns-in-None c =
    let o : class_of (decode c.args.group) c.args.expr ≡ None = sym c.find_class.ensures ∙ c.in-None.is in
    let l : c.args.expr < length (nodes c.args.cells.now) = omega (arith, length-decode c.args.cells.now, c.node_count.ensures, c.wide.ensures) in
    sym ((ask_done c.args.cells.now c.args.group (λ k. Err (refusal k)) (class_answer c.args.expr) (sym c.in_ok-check_group.ensures)) ∙ class-nowhere (nodes c.args.cells.now) (decode c.args.group) c.args.expr l o)

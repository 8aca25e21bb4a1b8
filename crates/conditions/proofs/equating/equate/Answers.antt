-- `conditions::equating::equate` meets its contract.
use Rattle.std.specs.Prelude.{if◌then◌else◌}
use mathlib.Core.Bool.{Bool, false}
use mathlib.Core.List.{List}
use mathlib.Core.Path.{sym, ap, ◌∙◌}
use lib.Dec.{eqb}
use Rattle.arena.specs.Layout.{decode as nodes}
use Rattle.classes.specs.Class.{Class}
use Rattle.classes.specs.Group.{joined}
use Rattle.classes.specs.Steps.{judged}
use Rattle.classes.specs.Layout.{decode}
use Rattle.classes.specs.Calls.{changed}
use Rattle.classes.proofs.ClassPlaces.{class-below}
use Rattle.conditions.proofs.ConstantLaws.{accepted-is}
use Rattle.conditions.proofs.EquatingLaws.{join-fits, equal-both, equal-left, equal-right, equal-new}
use Rattle.conditions.proofs.equating.equate.Goals as goal

pub join-requires : goal.join-requires
join-requires c =
    let g = c.args.g in
    let h = c.requires.0.0 in
    let w = c.in-Some-Some in
    (h.coded, (class-below g c.args.a w.i (sym c.requires.1.0 ∙ w.is-0), class-below g c.args.b w.j (sym c.requires.1.1 ∙ w.is-1)))

pub push-requires : goal.push-requires
push-requires c =
    let w = c.in-Some-None in
    ((c.requires.0.0, class-below c.args.g c.args.a w.i (sym c.requires.1.0 ∙ w.is-0)), c.requires.0.1.1)

pub push-requires-in-None-Some : goal.push-requires-in-None-Some
push-requires-in-None-Some c =
    let w = c.in-None-Some in
    ((c.requires.0.0, class-below c.args.g c.args.b w.j (sym c.requires.1.1 ∙ w.is-1)), c.requires.0.1.0)

pub returns-in-Some-Some : goal.returns-in-Some-Some
returns-in-Some-Some c =
    let g = c.args.g in
    let h = c.requires.0.0 in
    let ns = nodes c.args.cells.now in
    let w = c.in-Some-Some in
    let pi = sym c.requires.1.0 ∙ w.is-0 in
    let pj = sym c.requires.1.1 ∙ w.is-1 in
    let cs = if eqb w.i w.j then decode g else joined (decode g) w.i w.j in
    accepted-is g h.coded false cs c.join.result (join-fits g h.coded w.i w.j (class-below g c.args.a w.i pi) (class-below g c.args.b w.j pj) h.within) c.join.ensures
    ∙ ap (λ (o : Bool × List Class). changed g.limit (judged g.limit (decode g) o)) (sym (equal-both ns (decode g) c.args.a c.args.b w.i w.j pi pj))

pub returns-in-Some-None : goal.returns-in-Some-None
returns-in-Some-None c =
    let g = c.args.g in
    let w = c.in-Some-None in
    c.push.ensures
    ∙ ap (λ (o : Bool × List Class). changed g.limit (judged g.limit (decode g) o)) (sym (equal-left (nodes c.args.cells.now) (decode g) c.args.a c.args.b w.i (sym c.requires.1.0 ∙ w.is-0) (sym c.requires.1.1 ∙ w.is-1)))

pub returns-in-None-Some : goal.returns-in-None-Some
returns-in-None-Some c =
    let g = c.args.g in
    let w = c.in-None-Some in
    c.push-in-None-Some.ensures
    ∙ ap (λ (o : Bool × List Class). changed g.limit (judged g.limit (decode g) o)) (sym (equal-right (nodes c.args.cells.now) (decode g) c.args.a c.args.b w.j (sym c.requires.1.0 ∙ w.is-0) (sym c.requires.1.1 ∙ w.is-1)))

pub returns-in-None-None : goal.returns-in-None-None
returns-in-None-None c =
    let g = c.args.g in
    let w = c.in-None-None in
    c.open_class.ensures
    ∙ ap (λ (o : Bool × List Class). changed g.limit (judged g.limit (decode g) o)) (sym (equal-new (nodes c.args.cells.now) (decode g) c.args.a c.args.b (sym c.requires.1.0 ∙ w.is-0) (sym c.requires.1.1 ∙ w.is-1)))

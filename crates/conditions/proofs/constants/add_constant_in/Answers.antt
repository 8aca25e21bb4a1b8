-- `conditions::constants::add_constant_in` meets its contract.
use Prim.Native.Nat.{◌<◌}
use mathlib.Core.Bool.{false}
use mathlib.Core.List.{List}
use mathlib.Core.Path.{sym, ap, ◌∙◌}
use native.Mathlib.Omega.{arith}
use Rattle.arena.specs.Layout.{decode as nodes}
use Rattle.classes.specs.Class.{Class}
use Rattle.classes.specs.Group.{constant_at}
use Rattle.classes.specs.Steps.{judged}
use Rattle.classes.specs.Layout.{decode}
use Rattle.classes.specs.Calls.{changed}
use Rattle.classes.proofs.Codec.{length-decode}
use Rattle.classes.proofs.Places.{class_of-some}
use Rattle.conditions.proofs.ConstantLaws.{accepted-is, constant-fits, given-is, with-some, with_none}
use Rattle.conditions.proofs.constants.add_constant_in.Goals as goal

pub carried-requires : goal.carried-requires
carried-requires c = c.requires.1

pub find_class-requires : goal.find_class-requires
find_class-requires c = c.requires.0.coded

pub set_constant-requires : goal.set_constant-requires
set_constant-requires c =
    let f = sym c.find_class.ensures ∙ c.in-Some.is in
    (c.requires.0.coded, omega (arith, (class_of-some (decode c.args.g) c.args.e c.in-Some.i f).0, length-decode c.args.g))

pub constant_for-requires : goal.constant_for-requires
constant_for-requires c =
    let h = c.requires.0 in
    (h.coded, h.high)

pub returns-in-Some : goal.returns-in-Some
returns-in-Some c =
    let h = c.requires.0 in
    let g = c.args.g in
    let t = c.taken_over-constant in
    let m = c.carried in
    let k = t.result in
    let said = c.args.said in
    let ns = nodes c.args.cells.now in
    let f = sym c.find_class.ensures ∙ c.in-Some.is in
    let l : c.in-Some.i < g.count = omega (arith, (class_of-some (decode g) c.args.e c.in-Some.i f).0, length-decode g) in
    let q = given-is ns c.args.e said m.result t.result m.ensures t.ensures in
    accepted-is g h.coded false (constant_at (decode g) c.in-Some.i k) c.set_constant.result (constant-fits g h.coded c.in-Some.i k l h.within) c.set_constant.ensures
    ∙ ap (λ (ds : List Class). changed g.limit (judged g.limit (decode g) (false, ds))) (sym (with-some (decode g) c.args.e k ns said q c.in-Some.i f))

pub returns-in-None : goal.returns-in-None
returns-in-None c =
    let g = c.args.g in
    let t = c.taken_over-constant in
    let m = c.carried in
    let k = t.result in
    let said = c.args.said in
    let ns = nodes c.args.cells.now in
    let f = sym c.find_class.ensures ∙ c.in-None.is in
    let q = given-is ns c.args.e said m.result t.result m.ensures t.ensures in
    c.constant_for.ensures
    ∙ ap (λ (ds : List Class). changed g.limit (judged g.limit (decode g) (false, ds))) (sym (with_none (decode g) c.args.e k ns said q f))

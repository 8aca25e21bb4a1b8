-- `conditions::constants::constant_for` meets its contract.
use mathlib.Core.Bool.{true, false}
use mathlib.Core.List.{List}
use mathlib.Core.Path.{sym, ap, ◌∙◌}
use Rattle.classes.specs.Class.{Class}
use Rattle.classes.specs.Group.{class_like}
use Rattle.classes.specs.Steps.{judged}
use Rattle.classes.specs.Layout.{decode}
use Rattle.classes.specs.Calls.{changed}
use Rattle.conditions.proofs.ConstantLaws.{like-below, for_some, for_none}
use Rattle.conditions.proofs.constants.constant_for.Goals as goal

pub find_like-requires : goal.find_like-requires
find_like-requires c = c.requires.0

pub push_constant-requires : goal.push_constant-requires
push_constant-requires c =
    let k = c.args.constant in
    let f = sym c.find_like.ensures ∙ c.in-Some.is in
    ((c.requires.0, like-below c.args.g k c.in-Some.i f), c.requires.1)

pub open_constant-requires : goal.open_constant-requires
open_constant-requires c = c.requires

pub returns-in-Some : goal.returns-in-Some
returns-in-Some c =
    let g = c.args.g in
    let k = c.args.constant in
    let o = class_like true (decode g) k in
    let f = sym c.find_like.ensures ∙ c.in-Some.is in
    c.push_constant.ensures
    ∙ ap (λ (ds : List Class). changed g.limit (judged g.limit (decode g) (false, ds))) (sym (for_some (decode g) c.args.e k c.in-Some.i o f))

pub returns-in-None : goal.returns-in-None
returns-in-None c =
    let g = c.args.g in
    let k = c.args.constant in
    let o = class_like true (decode g) k in
    let f = sym c.find_like.ensures ∙ c.in-None.is in
    c.open_constant.ensures
    ∙ ap (λ (ds : List Class). changed g.limit (judged g.limit (decode g) (false, ds))) (sym (for_none (decode g) c.args.e k o f))

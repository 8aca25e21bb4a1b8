-- `questions::questions::place_number` meets its contract.
use Rattle.std.specs.Prelude.{None, Some}
use mathlib.Core.Path.{◌≡◌, sym, ap, ◌∙◌}
use native.Mathlib.Omega.{arith}
use Rattle.classes.specs.Group.{class_of}
use Rattle.classes.specs.Layout.{decode}
use Rattle.classes.proofs.ClassPlaces.{place-small}
use Rattle.questions.specs.Inner.{place_number}
use Rattle.questions.proofs.questions.place_number.Goals as goal

pub overflow_add-i : goal.overflow_add-i
overflow_add-i c =
    omega (arith, place-small c.args.g c.args.e c.in-Some.i c.requires (sym c.find_class.ensures ∙ c.in-Some.is))

pub narrow-requires : goal.narrow-requires
narrow-requires c =
    omega (arith, place-small c.args.g c.args.e c.in-Some.i c.requires (sym c.find_class.ensures ∙ c.in-Some.is))

pub returns-in-Some : goal.returns-in-Some
unfolding place_number
returns-in-Some c =
    let o : class_of (decode c.args.g) c.args.e ≡ Some c.in-Some.i = sym c.find_class.ensures ∙ c.in-Some.is in
    c.narrow.ensures ∙ sym (ap place_number o)

pub returns-in-None : goal.returns-in-None
unfolding place_number
returns-in-None c =
    let o : class_of (decode c.args.g) c.args.e ≡ None = sym c.find_class.ensures ∙ c.in-None.is in
    sym (ap place_number o)

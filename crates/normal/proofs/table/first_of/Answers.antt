-- `normal::table::first_of` meets its contract.
use mathlib.Core.Path.{sym, ◌∙◌}
use Rattle.classes.specs.Layout.{decode}
use Rattle.classes.proofs.ClassPlaces.{class-below}
use Rattle.normal.proofs.FirstMembers.{place-filled, first-at, first-nowhere}
use Rattle.normal.proofs.table.first_of.Goals as goal

pub first_member-requires : goal.first_member-requires
first_member-requires c =
    let q = sym c.find_class.ensures ∙ c.in-Some.is in
    (c.requires, (class-below c.args.g c.args.e c.in-Some.i q, place-filled c.args.g c.args.e c.in-Some.i c.requires q))

pub returns-in-Some : goal.returns-in-Some
returns-in-Some c =
    c.first_member.ensures ∙ first-at (decode c.args.g) c.args.e c.in-Some.i (sym c.find_class.ensures ∙ c.in-Some.is)

pub returns-in-None : goal.returns-in-None
returns-in-None c =
    first-nowhere (decode c.args.g) c.args.e (sym c.find_class.ensures ∙ c.in-None.is)

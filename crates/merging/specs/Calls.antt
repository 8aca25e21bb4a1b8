-- What the public call answers, in document 01's order of refusals. A refusal makes no group.
-- At the end, what calls answer that make a group of a lent one: their refusal is a case that hands back what came in.
use Rattle.std.specs.Prelude.{ℕ, true, List, eqb, if◌then◌else◌, Option, None, Some, Ok, Err}
use Rattle.arena.specs.Node.{Node}
use Rattle.arena.specs.Refusals.{refusal}
use Rattle.classes.specs.Class.{Class}
use Rattle.classes.specs.Layout.{encode}
use Rattle.classes.specs.Calls.{no_group}
use Rattle.classes.specs.declared.Group.{Group}
use Rattle.classes.specs.declared.Changed.{Changed}
use Rattle.merging.specs.Merging.{from_classes}
use Rattle.lent_classes.specs.Check.{new_number}
use Rattle.lent_classes.specs.Lent.{classes_lent}

-- a group that was made, of limit 256
unfoldable pub made_group : List Class → Changed
made_group cs = record { answer = Ok true; group = encode 256 cs }

-- the group of a list of classes, or the refusal
unfoldable pub new_answer : List ℕ → List ℕ → Changed
new_answer cells numbers = if eqb (new_number cells numbers) 0 then made_group (from_classes (classes_lent numbers)) else no_group (new_number cells numbers)

-- a refusal of a call that is lent a group: the group as it was, and the arena
unfoldable pub refused_group : ℕ → Group → List Node → Changed × List Node
refused_group k g ns = (record { answer = Err (refusal k); group = g }, ns)

-- the classes as a group that was made, or 4, and then the arena is as it was
unfoldable pub made_or_refused : Group → List Node → List Node → Option (List Class) → Changed × List Node
made_or_refused g ns ms (Some cs) = (made_group cs, ms)
made_or_refused g ns ms None = refused_group 4 g ns

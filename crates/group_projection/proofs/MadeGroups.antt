-- Groups that are made: what fits and is good is a group of limit 256, and what an answer says.
use mathlib.Core.Bool.{true}
use mathlib.Core.List.{List}
use Rattle.std.specs.Prelude.{Option, None, Some, Ok, Err}
use mathlib.Core.Path.{◌≡◌, refl, sym, ap, ◌∙◌, subst}
use native.Mathlib.Omega.{arith}
use Rattle.arena.specs.declared.Refusal.{Refusal}
use Rattle.arena.proofs.Refusals.{ok-not-err}
use Rattle.arena.specs.Node.{Node}
use Rattle.classes.specs.Class.{Class}
use Rattle.classes.specs.Good.{Good}
use Rattle.classes.specs.Steps.{fits}
use Rattle.classes.specs.Layout.{encode, decode}
use Rattle.classes.specs.declared.Group.{Group}
use Rattle.classes.proofs.Codec.{built-used, built-limit, built-classes}
use Rattle.lent_classes.proofs.ListCounts.{fits-small}
use Rattle.group_projection.specs.Inner.{Grouped, made_or_none, Made}
use Rattle.group_projection.proofs.ListedLaws.{lists-coded, list-lists, ok-same}

-- classes that can be a group of limit 256
pub record Within (ns : List Node) (cs : List Class) : Type 0 where
  pub room : fits 256 cs ≡ true
  pub good : Good ns cs

-- their layout is a group
pub within-made : (ns : List Node) (g : Group) (cs : List Class) → g ≡ encode 256 cs → Within ns cs → Made ns g
within-made ns g cs p w =
    let l = built-limit 256 cs g p in
    record {
      held =
          record {
            coded = lists-coded g cs (record { is = p; room = w.room });
            low = omega (arith, l);
            high = omega (arith, l);
            within = omega (arith, l, built-used 256 cs g p, fits-small cs w.room);
            good = subst (Good ns) (sym (built-classes 256 cs g p)) w.good;
          };
      limit = l;
    }

-- the classes of a group are such
pub made-within : (ns : List Node) (g : Group) → Made ns g → Within ns (decode g)
made-within ns g m = record { room = (list-lists g (record { coded = m.held.coded; limit = m.limit })).room; good = m.held.good }

-- ---- what an answer says

-- classes that were made are there, and the group is their layout
pub made-done : (o : Option (List Class)) (r : Grouped) → r ≡ made_or_none o → (g : Group) → r ≡ Ok g → (cs : List Class) × ((o ≡ Some cs) × (g ≡ encode 256 cs))
unfolding made_or_none
made-done (Some cs) r e g z = (cs, (refl, ok-same g (encode 256 cs) (sym z ∙ e)))
made-done None r e g z = absurd (ok-not-err (sym z ∙ e))

-- those that were not are not
pub made-refused : (o : Option (List Class)) (r : Grouped) → r ≡ made_or_none o → (why : Refusal) → r ≡ Err why → o ≡ None
unfolding made_or_none
made-refused (Some cs) r e why n = absurd (ok-not-err (sym e ∙ n))
made-refused None r e why n = refl

-- a group of limit 256 is what it lays out
pub made-is : (ns : List Node) (g : Group) → Made ns g → ◌≡◌ {A = Grouped} (Ok g) (made_or_none (Some (decode g)))
unfolding made_or_none
made-is ns g m = ap Ok (list-lists g (record { coded = m.held.coded; limit = m.limit })).is

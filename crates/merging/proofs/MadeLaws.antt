-- A group that was made: the same classes, with limit 256.
use Rattle.std.specs.Prelude.{Ok}
use mathlib.Core.Bool.{true}
use mathlib.Core.Path.{◌≡◌, sym, ap}
use Rattle.classes.specs.Layout.{encode, decode}
use Rattle.classes.specs.Inner.{Coded}
use Rattle.classes.specs.declared.Group.{Group}
use Rattle.classes.specs.declared.Changed.{Changed}
use Rattle.merging.specs.Calls.{made_group}

-- the struct of a group with its limit changed is the layout of its classes with that limit
pub made-is : (g : Group) → Coded g
    → ◌≡◌ {A = Changed}
    (record {
      answer = Ok true;
      group = record { limit = 256; count = g.count; used = g.used; sizes = g.sizes; flavours = g.flavours; values = g.values; members = g.members };
    })
    (made_group (decode g))
unfolding made_group encode
made-is g v =
    let f : Group → Changed = λ h. record {
      answer = Ok true;
      group = record { limit = 256; count = h.count; used = h.used; sizes = h.sizes; flavours = h.flavours; values = h.values; members = h.members };
    } in
    ap f (sym v.coded)

-- What a call on the group comes to: classes that are a group of the same limit, and their struct is held.
use Rattle.std.specs.Prelude.{if◌then◌else◌}
use Prim.Native.Nat.{ℕ, ◌+◌, ◌≤◌}
use mathlib.Core.Bool.{Bool, true, false}
use mathlib.Core.List.{List}
use mathlib.Core.Path.{◌≡◌, sym, ap, subst}
use native.Mathlib.Omega.{arith}
use borrow.Author.Tests.{leb-true}
use lib.Dec.{leb}
use lib.ListN.{length}
use Rattle.laws.proofs.Booleans.{and_left, and_right}
use Rattle.arena.specs.Node.{Node}
use Rattle.arena.specs.Arena.{Extends}
use Rattle.classes.specs.Class.{Class}
use Rattle.classes.specs.Group.{total}
use Rattle.classes.specs.Good.{Good}
use Rattle.classes.specs.Steps.{refused, fits}
use Rattle.conditions.specs.Steps.{add_equal, add_constant}
use Rattle.classes.specs.Layout.{encode, decode, constant_from}
use Rattle.conditions.specs.Calls.{sayable}
use Rattle.classes.specs.Inner.{Held}
use Rattle.classes.specs.declared.Group.{Group}
use Rattle.demands.proofs.Answers.{add_equal-holds, add_constant-holds}
use Rattle.classes.proofs.Codec.{decode-encode, coded-encode}
use Rattle.demands.proofs.GoodKept.{add_equal-good, add_constant-good}
use Rattle.group_checks.proofs.HeldLaws.{Fit}
use Rattle.normal.proofs.NormalValue.{good-extended}
use Rattle.session_steps.specs.State.{say_constant}

-- a group that is held over an arena is held over every arena that extends it
pub held-extended : {ns ms : List Node} (g : Group) → Extends ns ms → Held ns g → Held ms g
held-extended g x h =
    record {
      coded = h.coded;
      low = h.low;
      high = h.high;
      within = h.within;
      good = good-extended (decode g) x h.good;
    }

-- the classes of a held group
pub held-fit : (ns : List Node) (g : Group) → Held ns g → Fit ns g.limit (decode g)
unfolding encode
held-fit ns g h =
    record {
      low = h.low;
      high = h.high;
      few = omega (arith, ap (λ (g : Group). g.count) h.coded.coded, h.coded.few);
      within = omega (arith, ap (λ (g : Group). g.used) h.coded.coded, h.within);
      good = h.good;
    }

-- the struct of such classes is held
pub fit-held : (ns : List Node) (l : ℕ) (cs : List Class) → Fit ns l cs → Held ns (encode l cs)
unfolding encode
fit-held ns l cs f =
    record {
      coded = coded-encode l cs f.few (omega (arith, f.within, f.high));
      low = f.low;
      high = f.high;
      within = f.within;
      good = subst (Good ns) (sym (decode-encode l cs)) f.good;
    }

-- what is within the limits
abbrev Within : ℕ → List Class → Type 0
Within l cs = (total cs ≤ l) × (length cs ≤ 64)

within : (l : ℕ) (cs : List Class) → fits l cs ≡ true → Within l cs
unfolding fits
within l cs q =
    (leb-true (total cs) l (and_left (leb (total cs) l) (leb (length cs) 64) q), leb-true (length cs) 64 (and_right (leb (total cs) l) (leb (length cs) 64) q))

-- an equal condition
pub equal-fit : (ns : List Node) (l a b : ℕ) (cs : List Class) → Fit ns l cs → Fit ns l (add_equal l ns a b cs).classes
equal-fit ns l a b cs f =
    let w = add_equal-holds (Within l) l cs (f.within, f.few) ns a b (λ la lb q. within l _ q) in
    record { low = f.low; high = f.high; few = w.1; within = w.0; good = add_equal-good l ns a b cs f.good }

-- a constant
pub constant-fit : (ns : List Node) (e flavour value : ℕ) (cs : List Class) → Fit ns 256 cs → Fit ns 256 (say_constant e flavour value ns cs).classes
unfolding say_constant refused
constant-fit ns e flavour value cs f = go (sayable flavour value)
  where
    go : (b : Bool) → Fit ns 256 (if b then add_constant true 256 ns e (constant_from (flavour + 1) value) cs else refused 12 cs).classes
    go true =
        let w = add_constant-holds (Within 256) 256 cs (f.within, f.few) true ns e (constant_from (flavour + 1) value) (λ l q. within 256 _ q) in
        record { low = f.low; high = f.high; few = w.1; within = w.0; good = add_constant-good true 256 ns e (constant_from (flavour + 1) value) cs f.good }
    go false = f

-- What adding an ordering comes to: a good list, and its struct is held.
use Rattle.std.specs.Prelude.{if◌then◌else◌}
use Prim.Native.Nat.{ℕ}
use mathlib.Core.Bool.{Bool, true, false}
use mathlib.Core.List.{List, [], ◌∷◌, ◌++◌, map}
use mathlib.Core.Path.{◌≡◌, refl, sym, ap, subst}
use lib.Dec.{ltb, leb}
use lib.ListN.{length}
use Rattle.laws.specs.Tests.{each}
use Rattle.arena.specs.Node.{Node}
use Rattle.orderings.specs.Ordering.{same_key}
use Rattle.orderings.specs.Lists.{built_all}
use Rattle.reduction.specs.Reduction.{reduced}
use Rattle.orderings.specs.Good.{Good}
use Rattle.orderings.specs.Layout.{encode}
use Rattle.orderings.specs.Calls.{fits}
use Rattle.orderings.specs.Inner.{Held}
use Rattle.orderings.proofs.Codec.{decode-encode}
use Rattle.reduction.proofs.Kept.{reduced-good}
use Rattle.reduction.proofs.Adding.{added-good}
use Rattle.session_steps.specs.State.{key_expr, key_options, key_number, add_ordering}

-- the struct of a good list is held
pub good-held : (os : List (List ℕ)) → Good os → Held (encode os)
good-held os g = record { coded = ap encode (decode-encode os); good = subst Good (sym (decode-encode os)) g }

-- a list with an ordering added and reduced
pub ordering-good : (keys : List (ℕ × ℕ)) (ns : List Node) (os : List (List ℕ)) → Good os → Good (add_ordering keys ns os).1
unfolding add_ordering
ordering-good keys ns os g =
    go (each (λ k. leb (key_options keys k) 3) (length keys)) (each (λ k. ltb (key_expr keys k) (length ns)) (length keys)) (fits more) refl
  where
    more : List (List ℕ)
    more = os ++ built_all (map key_number keys ∷ [])

    out : Bool → Bool → Bool → ℕ × List (List ℕ)
    out a b c = if a then (if b then (if c then (0, (reduced same_key more).orderings) else (5, os)) else (1, os)) else (12, os)

    go : (a b c : Bool) → fits more ≡ c → Good (out a b c).1
    go true true true q = reduced-good same_key more (added-good os (map key_number keys ∷ []) g q)
    go true true false q = g
    go true false c q = g
    go false b c q = g

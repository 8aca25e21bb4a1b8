-- The two questions as the code asks them: the key that leads an ordering, and the search through the list.
use Prim.Native.Nat.{ℕ, ◌<◌}
use mathlib.Core.Bool.{Bool, true, false, ◌&&◌}
use mathlib.Core.List.{List, [], ◌∷◌, map}
use Rattle.std.specs.Prelude.{Some, if◌then◌else◌}
use Rattle.std.specs.Option.{option_map}
use Rattle.std.specs.List.{list_any, find}
use mathlib.Core.Path.{◌≡◌, refl, sym, ap, ◌∙◌}
use native.Mathlib.Omega.{arith}
use lib.Dec.{eqb}
use lib.ListN.{get_or}
use Rattle.laws.specs.Lists.{table}
use Rattle.laws.proofs.Table.{table_is}
use Rattle.laws.proofs.RunsA.{map-table}
use Rattle.orderings.specs.Ordering.{expr_of, options_of}
use Rattle.orderings.specs.Lists.{ordering_at}
use Rattle.ordering_questions.specs.Questions.{get_options, leads_with}
use Rattle.orderings.specs.Layout.{decode}
use Rattle.orderings.specs.Inner.{Held}
use Rattle.orderings.specs.declared.Orderings.{Orderings}
use Rattle.orderings.proofs.Codec.{key-is, length-decode, place_in, place-size, place-keys, good-at}

-- the key that leads an ordering, as it is read
pub leading-read : (g : Orderings) → Held g → (i : ℕ) → i < g.count → get_or (place_in g i).keys 0 0 ≡ get_or (ordering_at (decode g) i) 0 0
leading-read g h i l =
    sym (key-is (place_in g i) 0 (omega (arith, place-size g h i l, (good-at g h i l).filled)))
    ∙ ap (λ (o : List ℕ). get_or o 0 0) (place-keys g h i l)

-- the key that leads an ordering
abbrev pub lead : List ℕ → ℕ
lead o = get_or o 0 0

-- an ordering is led by an expression with these options
abbrev pub Led : ℕ → ℕ → List ℕ → Bool
Led e options o = eqb (expr_of (lead o)) e && eqb (options_of (lead o)) options

-- some ordering is
pub leads-any : (os : List (List ℕ)) (e options : ℕ) → list_any (Led e options) os ≡ leads_with os e options
unfolding leads_with
leads-any [] e options = refl
leads-any (o ∷ os) e options = rw (leads-any os e options)

-- the options of the first key that leads an ordering and has the expression
pub options-first : (os : List (List ℕ)) (e : ℕ) → option_map options_of (find (λ k. eqb (expr_of k) e) (map lead os)) ≡ get_options os e
unfolding get_options
options-first [] e = refl
options-first (o ∷ os) e = go (eqb (expr_of (lead o)) e) (options-first os e)
  where
    go : (b : Bool) → option_map options_of (find (λ k. eqb (expr_of k) e) (map lead os)) ≡ get_options os e
        → option_map options_of (if b then Some (lead o) else find (λ k. eqb (expr_of k) e) (map lead os)) ≡ (if b then Some (options_of (lead o)) else get_options os e)
    go true h = refl
    go false h = h

-- the orderings of a list by their places
pub places : (g : Orderings) → table (ordering_at (decode g)) g.count ≡ decode g
places g = sym (table_is (ordering_at (decode g)) g.count (decode g) [] (length-decode g) (λ i l. refl))

-- the keys that lead them
pub leading-keys : (g : Orderings) → table (λ i. lead (ordering_at (decode g) i)) g.count ≡ map lead (decode g)
leading-keys g = sym (map-table lead (ordering_at (decode g)) g.count) ∙ ap (map lead) (places g)

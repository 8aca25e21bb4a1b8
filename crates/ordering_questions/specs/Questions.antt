-- The two questions on a list of orderings, as document 01 has them ("Orderings").
use Rattle.std.specs.Prelude.{ℕ, Bool, false, ◌&&◌, ◌||◌, List, [], ◌∷◌, eqb, get_or, if◌then◌else◌, Option, None, Some}
use Rattle.orderings.specs.Ordering.{expr_of, options_of}

-- the options of the first ordering that an expression leads
unfoldable pub get_options : List (List ℕ) → ℕ → Option ℕ
get_options [] e = None
get_options (o ∷ os) e = if eqb (expr_of (get_or o 0 0)) e then Some (options_of (get_or o 0 0)) else get_options os e

-- an expression leads an ordering with these options
unfoldable pub leads_with : List (List ℕ) → ℕ → ℕ → Bool
leads_with [] e options = false
leads_with (o ∷ os) e options = (eqb (expr_of (get_or o 0 0)) e && eqb (options_of (get_or o 0 0)) options) || leads_with os e options

-- an expression leads with options and with their opposite: ascending nulls last and descending nulls first, or ascending nulls first and descending nulls last
unfoldable pub partial_const : List (List ℕ) → ℕ → Bool
partial_const os e = (leads_with os e 0 && leads_with os e 3) || (leads_with os e 1 && leads_with os e 2)

-- An ordering is a list of keys. A key is an expression and options 0 to 3 (1 for descending plus 2 for nulls first), as one number: expression · 4 + options.
use Rattle.std.specs.Prelude.{ℕ, ◌/◌, ◌%◌, Bool, false, ◌||◌, List, [], ◌∷◌, ◌++◌, eqb, if◌then◌else◌}

-- the expression of a key
unfoldable pub expr_of : ℕ → ℕ
expr_of k = k / 4

-- the options of a key
unfoldable pub options_of : ℕ → ℕ
options_of k = k % 4

-- the match of two keys on which overlap rests: the same expression with the same options
unfoldable pub same_key : ℕ → ℕ → Bool
same_key a b = eqb a b

-- an ordering has an expression, with any options
unfoldable pub has_expr : ℕ → List ℕ → Bool
has_expr e [] = false
has_expr e (k ∷ ks) = eqb (expr_of k) e || has_expr e ks

-- a key is pushed; one whose expression is already there, with any options, is dropped
unfoldable pub pushed : List ℕ → ℕ → List ℕ
pushed o k = if has_expr (expr_of k) o then o else o ++ (k ∷ [])

-- an ordering is extended by keys, pushed one after the other
unfoldable pub extended : List ℕ → List ℕ → List ℕ
extended o [] = o
extended o (k ∷ ks) = extended (pushed o k) ks

-- an ordering is built from keys
unfoldable pub built : List ℕ → List ℕ
built ks = extended [] ks

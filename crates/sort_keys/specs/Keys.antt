-- Sort keys and their normal forms.
use Rattle.std.specs.Prelude.{ℕ, Bool, List, [], ◌∷◌, map, if◌then◌else◌}
use Rattle.arena.specs.Node.{Node}
use Rattle.classes.specs.Class.{Class, is_uniform}
use Rattle.questions.specs.Questions.{expr_constant}

-- a key: an expression and options 0 to 3 (1 for descending plus 2 for nulls first)
pub record Key : Type 0 where
  pub expr : ℕ
  pub options : ℕ

-- the expressions of keys
unfoldable pub exprs_of : List Key → List ℕ
exprs_of ks = map (λ (k : Key). k.expr) ks

-- keys with other expressions, and the options that they had
unfoldable pub with_exprs : List ℕ → List Key → List Key
with_exprs [] ks = []
with_exprs (e ∷ es) [] = []
with_exprs (e ∷ es) (k ∷ ks) = record { expr = e; options = k.options } ∷ with_exprs es ks

-- a key whose expression is a uniform constant orders nothing
unfoldable pub orders_nothing : List Node → List Class → Key → Bool
orders_nothing ns cs k = is_uniform (expr_constant ns cs k.expr)

-- the keys without those that order nothing; doubles stay
unfoldable pub sorting : List Node → List Class → List Key → List Key
sorting ns cs [] = []
sorting ns cs (k ∷ ks) = if orders_nothing ns cs k then sorting ns cs ks else k ∷ sorting ns cs ks

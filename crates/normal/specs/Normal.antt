-- The normal form: children first, then the rewritten node is looked up once; its class's first member replaces it and is not entered again.
use Rattle.std.specs.Prelude.{ℕ, List, [], ◌∷◌, get_or, Option, None, Some}
use Rattle.arena.specs.Node.{Node, column, literal, operation}
use Rattle.arena.specs.Expression.{Expression, Expressions, col, lit, op, ∅, ◌▹◌, expression_at}
use Rattle.arena.specs.Arena.{find}
use Rattle.classes.specs.Class.{Class}
use Rattle.classes.specs.Group.{class_at, class_of}

-- the number of an operation over children that were found, or not
unfoldable pub operation_over : List Node → ℕ → Option (List ℕ) → Option ℕ
operation_over ns label None = None
operation_over ns label (Some ks) = find (operation label ks) ns

-- two findings as one
unfoldable pub both_found : Option ℕ → Option (List ℕ) → Option (List ℕ)
both_found None ks = None
both_found (Some k) None = None
both_found (Some k) (Some ks) = Some (k ∷ ks)

unfoldable mutual
  -- the number of an expression that is in the arena, whole
  pub number_of : List Node → Expression → Option ℕ
  number_of ns (col name index) = find (column name index) ns
  number_of ns (lit v) = find (literal v) ns
  number_of ns (op label children) = operation_over ns label (numbers_of ns children)

  -- the numbers of expressions that are all in the arena
  pub numbers_of : List Node → Expressions → Option (List ℕ)
  numbers_of ns ∅ = Some []
  numbers_of ns (e ▹ es) = both_found (number_of ns e) (numbers_of ns es)

-- the first member of the class at a place; where there is no class, the expression itself
unfoldable pub first_at : List Class → ℕ → Option ℕ → ℕ
first_at cs e None = e
first_at cs e (Some i) = get_or (class_at cs i).members 0 0

-- the first member of an expression's class, itself where it is in none
unfoldable pub first_of : List Class → ℕ → ℕ
first_of cs e = first_at cs e (class_of cs e)

-- an expression that was looked up: one that is in the arena is replaced by what `to` says of its number
unfoldable pub replaced_by : List Node → (ℕ → ℕ) → Expression → Option ℕ → Expression
replaced_by ns to x None = x
replaced_by ns to x (Some e) = expression_at ns (to e)

-- an expression is looked up, and replaced if it is in the arena
unfoldable pub replaced : List Node → (ℕ → ℕ) → Expression → Expression
replaced ns to x = replaced_by ns to x (number_of ns x)

unfoldable mutual
  -- the normal form, for any account of what replaces a number: children first, then the rewritten node is looked up once, and what replaces it is not entered again
  pub normal_by : List Node → (ℕ → ℕ) → Expression → Expression
  normal_by ns to (col name index) = replaced ns to (col name index)
  normal_by ns to (lit v) = replaced ns to (lit v)
  normal_by ns to (op label children) = replaced ns to (op label (normals_by ns to children))

  -- the normal form of each of them
  pub normals_by : List Node → (ℕ → ℕ) → Expressions → Expressions
  normals_by ns to ∅ = ∅
  normals_by ns to (e ▹ es) = normal_by ns to e ▹ normals_by ns to es

-- the normal form by a group over an arena: a number is replaced by its class's first member
abbrev pub normal : List Node → List Class → Expression → Expression
normal ns cs x = normal_by ns (first_of cs) x

-- the normal forms of expressions, each by the same group and arena
abbrev pub normals : List Node → List Class → Expressions → Expressions
normals ns cs xs = normals_by ns (first_of cs) xs

-- What adding an expression adds: those of its parts that the arena doesn't have, children before parents, left to right.
use Rattle.std.specs.Prelude.{Bool, true, false, ◌&&◌, ◌||◌, List, [], ◌∷◌, ◌++◌, eqb, if◌then◌else◌}
use Rattle.arena.specs.Expression.{Expression, Expressions, col, lit, op, ∅, ◌▹◌}

unfoldable mutual
  -- the parts of an expression: children before parents, left to right, and itself at the end
  pub parts : Expression → List Expression
  parts (col name index) = col name index ∷ []
  parts (lit v) = lit v ∷ []
  parts (op label children) = all_parts children ++ (op label children ∷ [])

  -- of each, one after the other
  pub all_parts : Expressions → List Expression
  all_parts ∅ = []
  all_parts (e ▹ es) = parts e ++ all_parts es

unfoldable mutual
  -- two expressions are equal: the same kind, the same numbers, equal children in the same order
  pub same_expression : Expression → Expression → Bool
  same_expression (col a x) (col b y) = eqb a b && eqb x y
  same_expression (col a x) (lit w) = false
  same_expression (col a x) (op m fs) = false
  same_expression (lit v) (col b y) = false
  same_expression (lit v) (lit w) = eqb v w
  same_expression (lit v) (op m fs) = false
  same_expression (op l es) (col b y) = false
  same_expression (op l es) (lit w) = false
  same_expression (op l es) (op m fs) = eqb l m && same_expressions es fs

  -- equally many, and pairwise equal
  pub same_expressions : Expressions → Expressions → Bool
  same_expressions ∅ ∅ = true
  same_expressions ∅ (f ▹ fs) = false
  same_expressions (e ▹ es) ∅ = false
  same_expressions (e ▹ es) (f ▹ fs) = same_expression e f && same_expressions es fs

-- an expression is among these
unfoldable pub is_among : Expression → List Expression → Bool
is_among e [] = false
is_among e (x ∷ xs) = same_expression e x || is_among e xs

-- xs, and after them those of ys that are missing, each once
unfoldable pub with_missing : List Expression → List Expression → List Expression
with_missing xs [] = xs
with_missing xs (y ∷ ys) = if is_among y xs then with_missing xs ys else with_missing (xs ++ (y ∷ [])) ys

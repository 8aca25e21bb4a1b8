-- What a row gives an expression, for any type of values and any meaning of columns, literals and operations.
use Rattle.std.specs.Prelude.{ℕ, List, [], ◌∷◌}
use Rattle.arena.specs.Expression.{Expression, Expressions, col, lit, op, ∅, ◌▹◌}

-- a row says what each column holds, by name number and index
abbrev pub Row : Type 0 → Type 0
Row A = ℕ → ℕ → A

-- what each literal is, and what each operation makes of its children's values
pub record Meaning (A : Type 0) : Type 0 where
  pub literal : ℕ → A
  pub operation : ℕ → List A → A

unfoldable mutual
  -- the value of an expression on a row
  pub value : {A : Type 0} → Expression → Meaning A → Row A → A
  value (col name index) m row = row name index
  value (lit v) m row = m.literal v
  value (op label children) m row = m.operation label (values children m row)

  -- the value of each of them, in order
  pub values : {A : Type 0} → Expressions → Meaning A → Row A → List A
  values ∅ m row = []
  values (e ▹ es) m row = value e m row ∷ values es m row

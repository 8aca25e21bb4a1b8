-- What a number of an arena stands for: an expression, whole, as a tree.
use Rattle.std.specs.Prelude.{ℕ, suc, List, [], ◌∷◌, get_or}
use Rattle.arena.specs.Node.{Node, column, literal, operation, made}

mutual
  -- an expression: a column, a literal, or an operation over expressions
  pub data Expression : Type 0 where
    col : (name index : ℕ) → Expression
    lit : (value : ℕ) → Expression
    op : (label : ℕ) (children : Expressions) → Expression

  -- expressions, one after the other
  pub data Expressions : Type 0 where
    ∅ : Expressions
    ◌▹◌ : Expression → Expressions → Expressions

infixr 67 ◌▹◌
-- how many expressions there are
unfoldable pub size : Expressions → ℕ
size ∅ = 0
size (e ▹ es) = suc (size es)

-- those of the expressions es that have the numbers ks
unfoldable pub those : List Expression → List ℕ → Expressions
those es [] = ∅
those es (k ∷ ks) = get_or es k (lit 0) ▹ those es ks

-- the expression of a node whose children are numbers of es
unfoldable pub over : List Expression → Node → Expression
over es (column name index) = col name index
over es (literal value) = lit value
over es (operation label children) = op label (those es children)

-- the expressions of an arena, by number: each node over the expressions of the nodes before it
unfoldable pub expressions : List Node → List Expression
expressions ns = made (λ es i n. over es n) ns

-- the expression with a number
abbrev pub expression_at : List Node → ℕ → Expression
expression_at ns e = get_or (expressions ns) e (lit 0)

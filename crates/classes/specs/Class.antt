-- A class: its members in order of arrival, and a constant.
use Rattle.std.specs.Prelude.{ℕ, Bool, true, false, List, [], ◌∷◌, ◌++◌, eqb, if◌then◌else◌}
pub use Rattle.classes.specs.declared.Constant.{Constant}
pub use Rattle.classes.specs.declared.Constant.TheVariants.{NoConstant as no_constant, Heterogeneous as heterogeneous, Unknown as unknown, Known as known}
use Rattle.arena.specs.Node.{Node, column, literal, operation, node_at}

-- a class: its members in order, and its constant
pub record Class : Type 0 where
  pub members : List ℕ
  pub constant : Constant

-- there is a constant
unfoldable pub is_constant : Constant → Bool
is_constant no_constant = false
is_constant heterogeneous = true
is_constant unknown = true
is_constant (known v) = true

-- one value throughout
unfoldable pub is_uniform : Constant → Bool
is_uniform no_constant = false
is_uniform heterogeneous = false
is_uniform unknown = true
is_uniform (known v) = true

-- a constant is taken only over none or a heterogeneous one; none takes nothing's place
unfoldable pub taken : Constant → Constant → Constant
taken old no_constant = old
taken old heterogeneous = if is_uniform old then old else heterogeneous
taken old unknown = if is_uniform old then old else unknown
taken old (known v) = if is_uniform old then old else known v

-- the constant that a node carries: a literal its own value
unfoldable pub carried : Node → Constant
carried (column name index) = no_constant
carried (literal value) = known value
carried (operation label children) = no_constant

-- an expression as a class of one
unfoldable pub single : List Node → ℕ → Class
single ns e = record { members = e ∷ []; constant = carried (node_at ns e) }

-- a class merged in: its members at the end, its constant where there is none or a heterogeneous one. An expression is pushed as a class of one
unfoldable pub merged : Class → Class → Class
merged c d = record { members = c.members ++ d.members; constant = taken c.constant d.constant }

-- two constants are equal; `two` says whether two unknown ones count as equal
unfoldable pub same_constant : Bool → Constant → Constant → Bool
same_constant two no_constant no_constant = true
same_constant two no_constant heterogeneous = false
same_constant two no_constant unknown = false
same_constant two no_constant (known w) = false
same_constant two heterogeneous no_constant = false
same_constant two heterogeneous heterogeneous = true
same_constant two heterogeneous unknown = false
same_constant two heterogeneous (known w) = false
same_constant two unknown no_constant = false
same_constant two unknown heterogeneous = false
same_constant two unknown unknown = two
same_constant two unknown (known w) = false
same_constant two (known v) no_constant = false
same_constant two (known v) heterogeneous = false
same_constant two (known v) unknown = false
same_constant two (known v) (known w) = eqb v w

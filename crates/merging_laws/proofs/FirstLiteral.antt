-- A class that is built of expressions, as a shifted class is, has its first literal's constant or none.
use Prim.Native.Nat.{ℕ}
use mathlib.Core.Bool.{true}
use mathlib.Core.List.{List, [], ◌∷◌}
use mathlib.Core.Path.{◌≡◌, refl, ap, ◌∙◌}
use Rattle.arena.specs.Node.{Node, column, literal, operation, node_at}
use Rattle.classes.specs.declared.Constant.{Constant}
use Rattle.classes.specs.declared.Constant.TheVariants.{NoConstant as no_constant, Heterogeneous as heterogeneous, Unknown as unknown, Known as known}
use Rattle.classes.specs.Class.{Class, is_uniform, taken, carried, single, merged}
use Rattle.merging.specs.Extending.{missing, extended, pushed, pushed_all, class_from}

-- the value of a node if it is a literal, else what follows
unfoldable pub literal_or : Node → Constant → Constant
literal_or (column name index) c = c
literal_or (literal value) c = known value
literal_or (operation label children) c = c

-- the constant of the first literal among expressions; none where there is no literal
unfoldable pub first_literal : List Node → List ℕ → Constant
first_literal ns [] = no_constant
first_literal ns (e ∷ es) = literal_or (node_at ns e) (first_literal ns es)

-- a uniform constant stays
uniform-stays : (old new : Constant) → is_uniform old ≡ true → taken old new ≡ old
unfolding taken
uniform-stays old no_constant h = refl
uniform-stays old heterogeneous h = rw h
uniform-stays old unknown h = rw h
uniform-stays old (known v) h = rw h

-- a known constant over another leaves a uniform one
known-uniform : (old : Constant) (v : ℕ) → is_uniform (taken old (known v)) ≡ true
unfolding taken is_uniform
known-uniform no_constant v = refl
known-uniform heterogeneous v = refl
known-uniform unknown v = refl
known-uniform (known w) v = refl

-- none over a constant leaves it
none_over : (old : Constant) → taken old no_constant ≡ old
unfolding taken
none_over old = refl

-- a node's constant over another, and then the first literal's of what follows
carried-then : (old : Constant) (n : Node) (rest : Constant) → taken (taken old (carried n)) rest ≡ taken old (literal_or n rest)
unfolding carried literal_or
carried-then old (column name index) rest = ap (λ (c : Constant). taken c rest) (none_over old)
carried-then old (literal v) rest = uniform-stays (taken old (known v)) rest (known-uniform old v)
carried-then old (operation label children) rest = ap (λ (c : Constant). taken c rest) (none_over old)

-- what pushing expressions does to a class's constant: the first literal's over it
pushed-constant : (ns : List Node) (c : Class) (es : List ℕ) → (pushed_all ns c es).constant ≡ taken c.constant (first_literal ns es)
unfolding pushed_all pushed extended merged missing single first_literal taken
pushed-constant ns c [] = refl
pushed-constant ns c (e ∷ es) = pushed-constant ns (pushed ns c e) es ∙ carried-then c.constant (node_at ns e) (first_literal ns es)

-- none under a constant is that constant
over_none : (c : Constant) → taken no_constant c ≡ c
unfolding taken is_uniform
over_none no_constant = refl
over_none heterogeneous = refl
over_none unknown = refl
over_none (known v) = refl

-- a class of expressions has its first literal's constant, or none
pub class-constant : (ns : List Node) (es : List ℕ) → (class_from ns es).constant ≡ first_literal ns es
unfolding class_from
class-constant ns es = pushed-constant ns (record { members = []; constant = no_constant }) es ∙ over_none (first_literal ns es)

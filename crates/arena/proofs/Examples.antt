-- The definitions of specs/, tried on small arenas by computing them.
use mathlib.Core.List.{List, [], ◌∷◌}
use mathlib.Core.Path.{◌≡◌, refl}
use Rattle.laws.specs.Lists.{table}
use Rattle.arena.specs.Node.{Node, column, operation}
use Rattle.arena.specs.Layout.{row, rows, encode, decode, row_of, children_of, node_of}

-- columns a and b, and f(a, b, a)
abbrev pub three : List Node
three = column 0 0 ∷ column 1 1 ∷ operation 7 (0 ∷ 1 ∷ 0 ∷ []) ∷ []

-- laid out and read back, it is the arena again
read_back : decode (encode three) ≡ three
unfolding encode rows row decode node_of row_of children_of table
read_back = refl

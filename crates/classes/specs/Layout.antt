-- How a group lies in its struct, and which structs are a group. The one file that speaks of the struct.
-- The members of all classes stand in class order in one table of 256 places. Each class has its number of members, its flavour (0 no constant, 1 heterogeneous,
-- 2 uniform unknown, 3 uniform with a value) and its value (0 where none is known), in tables of 64 places. Every unused place is 0.
use Rattle.std.specs.Prelude.{ℕ, zero, suc, ◌+◌, ◌-◌, Bool, true, false, not, ◌&&◌, ◌||◌, List, ◌++◌, map, eqb, ltb, leb, length, get_or, replicate, if◌then◌else◌}
use Rattle.laws.specs.Tests.{each}
use Rattle.laws.specs.Lists.{table}
use Rattle.arena.specs.Node.{Node, column, literal, operation, node_at}
use Rattle.classes.specs.Class.{Constant, no_constant, heterogeneous, unknown, known, Class}
use Rattle.classes.specs.Group.{total}
use Rattle.classes.specs.Good.{flat}
use Rattle.classes.specs.declared.Group.{Group}

-- the flavour of a constant
unfoldable pub flavour_of : Constant → ℕ
flavour_of no_constant = 0
flavour_of heterogeneous = 1
flavour_of unknown = 2
flavour_of (known v) = 3

-- the value of a constant; 0 where none is known
unfoldable pub value_of : Constant → ℕ
value_of no_constant = 0
value_of heterogeneous = 0
value_of unknown = 0
value_of (known v) = v

-- a flavour and a value as a constant
unfoldable pub constant_from : ℕ → ℕ → Constant
constant_from flavour value =
    if eqb flavour 1 then heterogeneous else
    (if eqb flavour 2 then unknown else
    (if eqb flavour 3 then known value else no_constant))

-- a list filled up with zeros
unfoldable pub padded : ℕ → List ℕ → List ℕ
padded n xs = xs ++ replicate (n - length xs) 0

-- the struct of a group
unfoldable pub encode : ℕ → List Class → Group
encode limit cs =
    record {
      limit = limit;
      count = length cs;
      used = total cs;
      sizes = padded 64 (map (λ (c : Class). length c.members) cs);
      flavours = padded 64 (map (λ (c : Class). flavour_of c.constant) cs);
      values = padded 64 (map (λ (c : Class). value_of c.constant) cs);
      members = padded 256 (flat cs);
    }

-- the sum of the first j numbers
unfoldable pub sum_to : List ℕ → ℕ → ℕ
sum_to xs zero = 0
sum_to xs (suc j) = sum_to xs j + get_or xs j 0

-- class j of a struct
unfoldable pub class_in : Group → ℕ → Class
class_in g j =
    record {
      members = table (λ k. get_or g.members (sum_to g.sizes j + k) 0) (get_or g.sizes j 0);
      constant = constant_from (get_or g.flavours j 0) (get_or g.values j 0);
    }

-- the classes of a struct
unfoldable pub decode : Group → List Class
decode g = table (λ j. class_in g j) g.count

-- a flavour is one of the four, and a value other than 0 stands only where one is known
unfoldable pub known_flavour : ℕ → ℕ → Bool
known_flavour flavour value = leb flavour 3 && (eqb flavour 3 || eqb value 0)

-- every number is in its set (else 12): the limit from 1 to 256, each class's flavour and value
unfoldable pub in_set : Group → Bool
in_set g = ltb 0 g.limit && leb g.limit 256 && each (λ j. not (ltb j g.count) || known_flavour (get_or g.flavours j 0) (get_or g.values j 0)) 64

-- the number at a place of the table does not stand before it
unfoldable pub fresh : List ℕ → ℕ → Bool
fresh ms k = each (λ i. not (eqb (get_or ms i 0) (get_or ms k 0))) k

-- a node is a literal
unfoldable pub is_literal : Node → Bool
is_literal (column name index) = false
is_literal (literal value) = true
is_literal (operation label children) = false

-- a literal's class is uniform. A number that is not below the node count is no literal
unfoldable pub uniform_at : List Node → Group → ℕ → Bool
uniform_at ns g j = each (λ k. not (ltb (get_or g.members (sum_to g.sizes j + k) 0) (length ns) && is_literal (node_at ns (get_or g.members (sum_to g.sizes j + k) 0))) || leb 2 (get_or g.flavours j 0)) (get_or g.sizes j 0)

-- the places after the first n are 0
unfoldable pub unused_from : ℕ → ℕ → List ℕ → Bool
unused_from n room xs = each (λ k. eqb (get_or xs (n + k) 0) 0) (room - n)

-- the struct's counts are within their bounds and agree
unfoldable pub lawful_counts : Group → Bool
lawful_counts g = leb g.count 64 && leb g.used g.limit && each (λ j. ltb 0 (get_or g.sizes j 0)) g.count && eqb (sum_to g.sizes g.count) g.used

-- document 01's rule 11 for a lent group (else 11), after 12: counts, no member twice, a literal's class uniform, unused places 0
unfoldable pub lawful_group : List Node → Group → Bool
lawful_group ns g =
    lawful_counts g
    && each (λ k. fresh g.members k) g.used
    && each (λ j. uniform_at ns g j) g.count
    && (unused_from g.count 64 g.sizes && unused_from g.count 64 g.flavours && unused_from g.count 64 g.values && unused_from g.used 256 g.members)

-- every member is in the arena (else 1), after 11
unfoldable pub members_inside : List Node → Group → Bool
members_inside ns g = each (λ k. ltb (get_or g.members k 0) (length ns)) g.used

-- Kind 16, a group: class count, then for each class its flavour (0 none, 1 heterogeneous, 2 uniform unknown, 3 uniform with a value), a 32-bit value, its member count, its members.
use Rattle.std.specs.Prelude.{ℕ, zero, suc, ◌+◌, ◌*◌, Bool, true, not, ◌&&◌, ◌||◌, List, [], ◌∷◌, ◌++◌, map, eqb, ltb, leb, length, get_or, drop, if◌then◌else◌, Option, None, Some, Ok}
use Rattle.laws.specs.Tests.{each}
use Rattle.arena.specs.Node.{Node, node_at}
use Rattle.arena.specs.Layout.{lawful, decode as nodes}
use Rattle.classes.specs.Class.{Class}
use Rattle.classes.specs.Good.{flat}
use Rattle.classes.specs.Layout.{encode, flavour_of, value_of, constant_from, known_flavour, fresh, is_literal}
use Rattle.classes.specs.declared.Changed.{Changed}
unfoldable pub use Rattle.classes.specs.Calls.{no_group}
use Rattle.records.specs.Fields.{field, wide_field, fields}
use Rattle.records.specs.Record.{is_whole, body_of, field_bytes, wide_bytes, fields_bytes}

-- a class as a record gives it
pub record Given : Type 0 where
  pub flavour : ℕ
  pub value : ℕ
  pub members : List ℕ

-- the class at the start of some bytes, and how many bytes it takes
unfoldable pub given_at : List ℕ → Given
given_at bytes = record { flavour = field bytes 0; value = wide_field bytes 2; members = fields bytes 8 (field bytes 6) }

unfoldable pub given_size : List ℕ → ℕ
given_size bytes = 8 + 2 * field bytes 6

-- a class before others, if those could be read
unfoldable pub with_given : Given → Option (List Given) → Option (List Given)
with_given g None = None
with_given g (Some gs) = Some (g ∷ gs)

-- n classes that take all of some bytes; none where the bytes are fewer or more than their counts say
unfoldable pub classes_given : ℕ → List ℕ → Option (List Given)
classes_given zero bytes = if eqb (length bytes) 0 then Some [] else None
classes_given (suc n) bytes =
    if leb 8 (length bytes) && leb (given_size bytes) (length bytes) then with_given (given_at bytes) (classes_given n (drop (given_size bytes) bytes))
    else None

-- the classes of a body: their count, then they
unfoldable pub body_given : List ℕ → Option (List Given)
body_given body = if leb 2 (length body) then classes_given (field body 0) (drop 2 body) else None

-- the classes of a group record; none (9) where it is malformed
unfoldable pub group_given : List ℕ → Option (List Given)
group_given bytes = if is_whole bytes && eqb (field bytes 2) 16 then body_given (body_of bytes) else None

-- the class that is meant
unfoldable pub class_meant : Given → Class
class_meant g = record { members = g.members; constant = constant_from g.flavour g.value }

-- the given class at a place; past the end, which nothing asks for, an empty one
abbrev pub given_in : List Given → ℕ → Given
given_in gs j = get_or gs j (record { flavour = 0; value = 0; members = [] })

-- every flavour and value is in its set (else 12)
unfoldable pub flavours_known : List Given → Bool
flavours_known gs = each (λ j. known_flavour (given_in gs j).flavour (given_in gs j).value) (length gs)

-- a class has members
unfoldable pub classes_filled : List Given → Bool
classes_filled gs = each (λ j. ltb 0 (length (given_in gs j).members)) (length gs)

-- the members of all classes, one after the other
abbrev pub members_given : List Given → List ℕ
members_given gs = flat (map class_meant gs)

-- no expression stands twice, in one class or in two
unfoldable pub members_apart : List Given → Bool
members_apart gs = each (λ k. fresh (members_given gs) k) (length (members_given gs))

-- a literal's class is uniform. A number that is not below the node count is no literal
unfoldable pub literals_uniform : List Node → List Given → Bool
literals_uniform ns gs =
    each (λ j. each (λ k. not (ltb (get_or (given_in gs j).members k 0) (length ns) && is_literal (node_at ns (get_or (given_in gs j).members k 0))) || leb 2 (given_in gs j).flavour) (length (given_in gs j).members)) (length gs)

-- every member is in the arena (else 1)
unfoldable pub members_known : List Node → List Given → Bool
members_known ns gs = each (λ k. ltb (get_or (members_given gs) k 0) (length ns)) (length (members_given gs))

-- the number of what was given, over a lent arena: 12, 11, 1, 4, else 0
unfoldable pub given_number : List ℕ → List Given → ℕ
given_number cells gs =
    if flavours_known gs then
    (if lawful cells && (classes_filled gs && members_apart gs && literals_uniform (nodes cells) gs) then
    (if members_known (nodes cells) gs then
    (if leb (length gs) 64 && leb (length (members_given gs)) 256 then 0 else 4)
    else 1)
    else 11)
    else 12

-- the group of a record, of limit 256, or the refusal
unfoldable pub group_of : List ℕ → Option (List Given) → Changed
group_of cells None = no_group 9
group_of cells (Some gs) =
    if eqb (given_number cells gs) 0 then record { answer = Ok true; group = encode 256 (map class_meant gs) }
    else no_group (given_number cells gs)

-- the call on lent cells and a lent record
abbrev pub group_read : List ℕ → List ℕ → Changed
group_read cells bytes = group_of cells (group_given bytes)

-- a class as bytes: flavour, value, member count, members; classes, one after the other
unfoldable pub class_bytes : Class → List ℕ
class_bytes c = field_bytes (flavour_of c.constant) ++ (wide_bytes (value_of c.constant) ++ (field_bytes (length c.members) ++ fields_bytes c.members))

unfoldable pub classes_bytes : List Class → List ℕ
classes_bytes [] = []
classes_bytes (c ∷ cs) = class_bytes c ++ classes_bytes cs

-- the record of a group of classes: its body, behind the header
unfoldable pub group_body : List Class → List ℕ
group_body cs = field_bytes (length cs) ++ classes_bytes cs

unfoldable pub group_bytes : List Class → List ℕ
group_bytes cs = field_bytes (length (group_body cs)) ++ (field_bytes 16 ++ group_body cs)

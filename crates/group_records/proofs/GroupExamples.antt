-- The definitions of a group's record, tried on small examples by computing them.
use Prim.Native.Nat.{ℕ}
use mathlib.Core.Bool.{true, false}
use mathlib.Core.List.{List, [], ◌∷◌, map}
use Rattle.std.specs.Prelude.{None, Some}
use mathlib.Core.Path.{◌≡◌, refl}
use Rattle.laws.specs.Tests.{each}
use Rattle.laws.specs.Lists.{table}
use Rattle.arena.specs.Node.{Node, column, literal}
use Rattle.classes.specs.declared.Constant.TheVariants.{NoConstant as no_constant, Known as known}
use Rattle.classes.specs.Good.{flat}
use Rattle.classes.specs.Layout.{constant_from, known_flavour, fresh, is_literal}
use Rattle.records.specs.Fields.{field, wide_field, fields}
use Rattle.records.specs.Record.{is_whole, body_of}
use Rattle.group_records.specs.GroupRecord.{Given, given_at, given_size, with_given, classes_given, body_given, group_given, class_meant, flavours_known, classes_filled, members_apart, literals_uniform, members_known}

-- a class of nodes 0 and 1 with the value 7, and a class of node 2 without a constant
abbrev two : List Given
two = record { flavour = 3; value = 7; members = 0 ∷ 1 ∷ [] } ∷ record { flavour = 0; value = 0; members = 2 ∷ [] } ∷ []

-- their record, with its header
abbrev bytes : List ℕ
bytes =
    24 ∷ 0 ∷ 16 ∷ 0 ∷ 2 ∷ 0
    ∷ 3 ∷ 0 ∷ 7 ∷ 0 ∷ 0 ∷ 0 ∷ 2 ∷ 0 ∷ 0 ∷ 0 ∷ 1 ∷ 0
    ∷ 0 ∷ 0 ∷ 0 ∷ 0 ∷ 0 ∷ 0 ∷ 1 ∷ 0 ∷ 2 ∷ 0 ∷ []

two-read : group_given bytes ≡ Some two
unfolding group_given is_whole body_of body_given classes_given with_given given_at given_size field wide_field fields table
two-read = refl

-- the classes that are meant
two_meant : map class_meant two ≡ record { members = 0 ∷ 1 ∷ []; constant = known 7 } ∷ record { members = 2 ∷ []; constant = no_constant } ∷ []
unfolding class_meant constant_from
two_meant = refl

-- they pass every test over an arena of a literal and two columns
abbrev small : List Node
small = literal 7 ∷ column 0 0 ∷ column 1 1 ∷ []

two-flavours : flavours_known two ≡ true
unfolding flavours_known each known_flavour
two-flavours = refl

two-filled : classes_filled two ≡ true
unfolding classes_filled each
two-filled = refl

two-apart : members_apart two ≡ true
unfolding members_apart flat class_meant each fresh
two-apart = refl

two-uniform : literals_uniform small two ≡ true
unfolding literals_uniform each is_literal
two-uniform = refl

two-inside : members_known small two ≡ true
unfolding members_known flat class_meant each
two-inside = refl

-- the literal in a class without a constant is refused, and a member that is not in the arena
literal-refused : literals_uniform small (record { flavour = 0; value = 0; members = 0 ∷ [] } ∷ []) ≡ false
unfolding literals_uniform each is_literal
literal-refused = refl

outside-refused : members_known small (record { flavour = 0; value = 0; members = 3 ∷ [] } ∷ []) ≡ false
unfolding members_known flat class_meant each
outside-refused = refl

-- an empty class can be read, and is refused
empty-read : body_given (1 ∷ 0 ∷ 0 ∷ 0 ∷ 0 ∷ 0 ∷ 0 ∷ 0 ∷ 0 ∷ 0 ∷ []) ≡ Some (record { flavour = 0; value = 0; members = [] } ∷ [])
unfolding body_given classes_given with_given given_at given_size field wide_field fields table
empty-read = refl

empty-refused : classes_filled (record { flavour = 0; value = 0; members = [] } ∷ []) ≡ false
unfolding classes_filled each
empty-refused = refl

-- a member that stands in two classes
twice_refused : members_apart (record { flavour = 0; value = 0; members = 0 ∷ [] } ∷ record { flavour = 0; value = 0; members = 1 ∷ 0 ∷ [] } ∷ []) ≡ false
unfolding members_apart flat class_meant each fresh
twice_refused = refl

-- a flavour of 4, and a value where none is known
flavour-refused : flavours_known (record { flavour = 4; value = 0; members = 0 ∷ [] } ∷ []) ≡ false
unfolding flavours_known each known_flavour
flavour-refused = refl

value-refused : flavours_known (record { flavour = 2; value = 1; members = 0 ∷ [] } ∷ []) ≡ false
unfolding flavours_known each known_flavour
value-refused = refl

-- a count of members that runs past the body, a count of classes that does, and a byte too many
members-past : body_given (1 ∷ 0 ∷ 0 ∷ 0 ∷ 0 ∷ 0 ∷ 0 ∷ 0 ∷ 2 ∷ 0 ∷ 5 ∷ 0 ∷ []) ≡ None
unfolding body_given classes_given with_given given_at given_size field wide_field fields table
members-past = refl

classes-past : body_given (2 ∷ 0 ∷ 0 ∷ 0 ∷ 0 ∷ 0 ∷ 0 ∷ 0 ∷ 1 ∷ 0 ∷ 5 ∷ 0 ∷ []) ≡ None
unfolding body_given classes_given with_given given_at given_size field wide_field fields table
classes-past = refl

byte_left : body_given (1 ∷ 0 ∷ 0 ∷ 0 ∷ 0 ∷ 0 ∷ 0 ∷ 0 ∷ 1 ∷ 0 ∷ 5 ∷ 0 ∷ 0 ∷ []) ≡ None
unfolding body_given classes_given with_given given_at given_size field wide_field fields table
byte_left = refl

-- a record of no classes is a group of none
none_read : group_given (2 ∷ 0 ∷ 16 ∷ 0 ∷ 0 ∷ 0 ∷ []) ≡ Some []
unfolding group_given is_whole body_of body_given classes_given with_given given_at given_size field wide_field fields table
none_read = refl

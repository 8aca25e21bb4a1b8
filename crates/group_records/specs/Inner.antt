-- What the inner functions ask and promise each other. The public contracts cite nothing of this file.
use Rattle.std.specs.Prelude.{ℕ, ◌-◌, ◌≤◌, Bool, true, false, ◌&&◌, List, [], map, ◌≡◌, leb, length, drop, if◌then◌else◌, Option, None, Some, Ok}
use Rattle.arena.specs.Layout.{lawful}
use Rattle.classes.specs.Layout.{encode, padded}
use Rattle.classes.specs.declared.Group.{Group}
use Rattle.classes.specs.declared.Changed.{Changed}
use Rattle.records.specs.Record.{AllBelow}
use Rattle.group_records.specs.GroupRecord.{Given, classes_given, body_given, flavours_known, classes_filled, members_given, class_meant, no_group}

-- the classes could be read
unfoldable pub is_given : Option (List Given) → Bool
is_given None = false
is_given (Some gs) = true

-- the classes that were read; none where they could not be
unfoldable pub givens : Option (List Given) → List Given
givens None = []
givens (Some gs) = gs

-- the classes of a body
abbrev pub given_of : List ℕ → List Given
given_of body = givens (body_given body)

-- a body of classes whose length is what its counts say; a body has at most 65,535 bytes
pub record Shaped (body : List ℕ) : Type 0 where
  pub short : length body ≤ 65535
  pub is : body_given body ≡ Some (given_of body)

-- a walk over the classes of a body stands before class j, at a place
pub record Before (body : List ℕ) (j at : ℕ) : Type 0 where
  pub below : j ≤ length (given_of body)
  pub place : at ≤ length body
  pub rest : classes_given (length (given_of body) - j) (drop at body) ≡ Some (drop j (given_of body))

-- a body that passed the tests before those of its members, and a list of these
pub record Listed (cells body numbers : List ℕ) : Type 0 where
  pub shaped : Shaped body
  pub known : flavours_known (given_of body) ≡ true
  pub arena : lawful cells ≡ true
  pub filled : classes_filled (given_of body) ≡ true
  pub members : numbers ≡ members_given (given_of body)
  pub low : AllBelow 65536 numbers

-- the columns of a group, without its members
unfoldable pub columns_of : List Given → Group
columns_of gs =
    record {
      limit = 256;
      count = (encode 256 (map class_meant gs)).count;
      used = 0;
      sizes = (encode 256 (map class_meant gs)).sizes;
      flavours = (encode 256 (map class_meant gs)).flavours;
      values = (encode 256 (map class_meant gs)).values;
      members = padded 256 [];
    }

-- the group of classes that passed every other test, or 4 where they are too many
unfoldable pub built_of : List Given → Changed
built_of gs =
    if leb (length gs) 64 && leb (length (members_given gs)) 256 then record { answer = Ok true; group = encode 256 (map class_meant gs) }
    else no_group 4

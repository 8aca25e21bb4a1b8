-- A record of a session: a body length, a kind, the body. Kinds 1 to 8; anything else is malformed.
use Rattle.std.specs.Prelude.{ℕ, ◌+◌, ◌-◌, ◌*◌, ◌/◌, ◌%◌, ◌<◌, ◌≤◌, Bool, ◌&&◌, List, [], ◌∷◌, ◌++◌, eqb, leb, length, get_or, take, drop, if◌then◌else◌, Option, None, Some, Result, Ok, Err}
use Rattle.laws.specs.Lists.{table}
use Rattle.records.specs.Fields.{field, wide_field, fields}
use Rattle.records.specs.declared.Item.{Item}
use Rattle.records.specs.declared.Item.TheVariants.{Column, Literal, Operation, EqualPair, Constant, NormalFormOf, EqualityOf, OneOrdering}
use Rattle.arena.specs.declared.Refusal.{Refusal}
use Rattle.arena.specs.declared.Refusal.TheVariants.{Malformed}

-- what a record of kinds 1 to 8 says. A key of an ordering is an expression and options
pub data Record : Type 0 where
  column : (name index : ℕ) → Record
  literal : (value : ℕ) → Record
  operation : (label : ℕ) (children : List ℕ) → Record
  equal_pair : (a b : ℕ) → Record
  constant : (e flavour value : ℕ) → Record
  normal_form_of : (e : ℕ) → Record
  equality_of : (a b : ℕ) → Record
  one_ordering : (keys : List (ℕ × ℕ)) → Record

-- the header is whole, and so is the body whose length it says
unfoldable pub is_whole : List ℕ → Bool
is_whole bytes = leb 4 (length bytes) && leb (4 + field bytes 0) (length bytes)

-- how many bytes the record takes: 4 of the header, and the body
unfoldable pub record_size : List ℕ → ℕ
record_size bytes = 4 + field bytes 0

-- the body
unfoldable pub body_of : List ℕ → List ℕ
body_of bytes = take (field bytes 0) (drop 4 bytes)

-- the bodies of the kinds, by their lengths
unfoldable pub column_in : List ℕ → Option Record
column_in body = if eqb (length body) 4 then Some (column (field body 0) (field body 2)) else None

unfoldable pub literal_in : List ℕ → Option Record
literal_in body = if eqb (length body) 4 then Some (literal (wide_field body 0)) else None

-- a label, then two bytes a child
unfoldable pub operation_in : List ℕ → Option Record
operation_in body =
    if leb 4 (length body) && eqb (length body % 2) 0 then Some (operation (wide_field body 0) (fields body 4 ((length body - 4) / 2)))
    else None

unfoldable pub equal_pair_in : List ℕ → Option Record
equal_pair_in body = if eqb (length body) 4 then Some (equal_pair (field body 0) (field body 2)) else None

unfoldable pub constant_in : List ℕ → Option Record
constant_in body = if eqb (length body) 8 then Some (constant (field body 0) (field body 2) (wide_field body 4)) else None

unfoldable pub normal_form_in : List ℕ → Option Record
normal_form_in body = if eqb (length body) 2 then Some (normal_form_of (field body 0)) else None

unfoldable pub equality_in : List ℕ → Option Record
equality_in body = if eqb (length body) 4 then Some (equality_of (field body 0) (field body 2)) else None

-- 1 to 16 keys, each an expression and options
unfoldable pub keys_in : List ℕ → List (ℕ × ℕ)
keys_in body = table (λ k. (field body (4 * k), field body (4 * k + 2))) (length body / 4)

unfoldable pub ordering_in : List ℕ → Option Record
ordering_in body = if leb 4 (length body) && leb (length body) 64 && eqb (length body % 4) 0 then Some (one_ordering (keys_in body)) else None

-- a body by its kind: kinds 1 to 8, and no other
unfoldable pub record_in : ℕ → List ℕ → Option Record
record_in kind body =
    if eqb kind 1 then column_in body else
    (if eqb kind 2 then literal_in body else
    (if eqb kind 3 then operation_in body else
    (if eqb kind 4 then equal_pair_in body else
    (if eqb kind 5 then constant_in body else
    (if eqb kind 6 then normal_form_in body else
    (if eqb kind 7 then equality_in body else
    (if eqb kind 8 then ordering_in body else None)))))))

-- the record at the start of some bytes; none where it is malformed
unfoldable pub read_record : List ℕ → Option Record
read_record bytes = if is_whole bytes then record_in (field bytes 2) (body_of bytes) else None

-- what the reader answers: the numbers of the record; of an operation how many children follow, of an ordering how many keys; or the refusal of a malformed one
unfoldable pub item_of : Option Record → Result Item Refusal
item_of None = Err Malformed
item_of (Some (column name index)) = Ok (Column name index)
item_of (Some (literal value)) = Ok (Literal value)
item_of (Some (operation label children)) = Ok (Operation label (length children))
item_of (Some (equal_pair a b)) = Ok (EqualPair a b)
item_of (Some (constant e flavour value)) = Ok (Constant e flavour value)
item_of (Some (normal_form_of e)) = Ok (NormalFormOf e)
item_of (Some (equality_of a b)) = Ok (EqualityOf a b)
item_of (Some (one_ordering keys)) = Ok (OneOrdering (length keys))

-- the bytes of a number of 16 bits, of 32 bits, and of several of 16 bits
unfoldable pub field_bytes : ℕ → List ℕ
field_bytes x = x % 256 ∷ x / 256 ∷ []

unfoldable pub wide_bytes : ℕ → List ℕ
wide_bytes x = field_bytes (x % 65536) ++ field_bytes (x / 65536)

unfoldable pub fields_bytes : List ℕ → List ℕ
fields_bytes [] = []
fields_bytes (x ∷ xs) = field_bytes x ++ fields_bytes xs

unfoldable pub keys_bytes : List (ℕ × ℕ) → List ℕ
keys_bytes [] = []
keys_bytes (p ∷ ps) = field_bytes p.0 ++ (field_bytes p.1 ++ keys_bytes ps)

-- a record's kind, and the bytes of its body
unfoldable pub kind_of : Record → ℕ
kind_of (column name index) = 1
kind_of (literal value) = 2
kind_of (operation label children) = 3
kind_of (equal_pair a b) = 4
kind_of (constant e flavour value) = 5
kind_of (normal_form_of e) = 6
kind_of (equality_of a b) = 7
kind_of (one_ordering keys) = 8

unfoldable pub body_bytes : Record → List ℕ
body_bytes (column name index) = field_bytes name ++ field_bytes index
body_bytes (literal value) = wide_bytes value
body_bytes (operation label children) = wide_bytes label ++ fields_bytes children
body_bytes (equal_pair a b) = field_bytes a ++ field_bytes b
body_bytes (constant e flavour value) = field_bytes e ++ (field_bytes flavour ++ wide_bytes value)
body_bytes (normal_form_of e) = field_bytes e
body_bytes (equality_of a b) = field_bytes a ++ field_bytes b
body_bytes (one_ordering keys) = keys_bytes keys

-- a record as bytes
unfoldable pub record_bytes : Record → List ℕ
record_bytes r = field_bytes (length (body_bytes r)) ++ (field_bytes (kind_of r) ++ body_bytes r)

-- every number of a list is below a bound
abbrev pub AllBelow : ℕ → List ℕ → Type 0
AllBelow bound xs = (k : ℕ) → k < length xs → get_or xs k 0 < bound

-- a record can be written: its numbers have 16 bits, or 32 where 01 says so; its children fit a body; an ordering has 1 to 16 keys
unfoldable pub WellFormed : Record → Type 0
WellFormed (column name index) = (name < 65536) × (index < 65536)
WellFormed (literal value) = value < 4294967296
WellFormed (operation label children) = (label < 4294967296) × ((length children ≤ 32765) × AllBelow 65536 children)
WellFormed (equal_pair a b) = (a < 65536) × (b < 65536)
WellFormed (constant e flavour value) = (e < 65536) × ((flavour < 65536) × (value < 4294967296))
WellFormed (normal_form_of e) = e < 65536
WellFormed (equality_of a b) = (a < 65536) × (b < 65536)
WellFormed (one_ordering keys) = (1 ≤ length keys) × ((length keys ≤ 16) × ((k : ℕ) → k < length keys → ((get_or keys k (0, 0)).0 < 65536) × ((get_or keys k (0, 0)).1 < 65536)))

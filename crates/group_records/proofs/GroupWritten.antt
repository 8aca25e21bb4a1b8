-- Each group has a record: the bytes of its classes are read again, whatever stands after them.
use Prim.Native.Nat.{ℕ, zero, suc, ◌+◌, ◌*◌, ◌/◌, ◌%◌, ◌<◌, ◌≤◌}
use mathlib.Core.Bool.{Bool, true, false, not, ◌&&◌, ◌||◌}
use mathlib.Core.List.{List, [], ◌∷◌, ◌++◌, map}
use Rattle.std.specs.Prelude.{Some, Ok}
use mathlib.Core.Path.{◌≡◌, refl, sym, ap, ap₂, ◌∙◌, subst}
use native.Mathlib.Omega.{arith}
use borrow.Author.Tests.{le-leb, lt-ltb, eq-eqb, ne_eqb}
use lib.Dec.{eqb, ltb, leb}
use lib.ListN.{length, get_or, drop, length-append, length-map, get_or-map}
use lib.Seq.{drop_at, take_at}
use Rattle.laws.specs.Tests.{each}
use Rattle.laws.proofs.Each.{each_all}
use Rattle.laws.proofs.Booleans.{true_not_false, and_both}
use Rattle.laws.proofs.Table.{table_is}
use Rattle.arena.specs.Node.{Node, column, literal, operation, node_at}
use Rattle.arena.specs.Layout.{lawful, decode as nodes}
use Rattle.arena.proofs.Layouts.{lawful-holds}
use Rattle.classes.specs.declared.Constant.{Constant}
use Rattle.classes.specs.declared.Constant.TheVariants.{NoConstant as no_constant, Heterogeneous as heterogeneous, Unknown as unknown, Known as known}
use Rattle.classes.specs.Class.{Class}
use Rattle.classes.specs.Group.{class_at, total}
use Rattle.classes.specs.Good.{flat}
use Rattle.classes.specs.Calls.{group_number}
use Rattle.classes.specs.Layout.{encode, decode, flavour_of, value_of, known_flavour, fresh, is_literal}
use Rattle.classes.specs.declared.Group.{Group}
use Rattle.classes.proofs.Places.{nothing, length-flat, get_or-among, class-flat}
use Rattle.classes.proofs.Marks.{constant-from, flavour-known, uniform-flavour}
use Rattle.classes.proofs.Codec.{total-take, total-front}
use Rattle.group_checks.proofs.HeldLaws.{Fit, number-fit, number-lawful}
use Rattle.records.specs.Fields.{field, wide_field, fields}
use Rattle.records.specs.Record.{AllBelow, is_whole, body_of, field_bytes, wide_bytes, fields_bytes}
use Rattle.records.proofs.Headers.{whole_from}
use Rattle.records.proofs.FieldBytes.{field-first, field-shift, wide-shift, wide-first, length_fields-bytes}
use Rattle.group_records.specs.GroupRecord.{Given, given_at, given_size, with_given, classes_given, body_given, group_given, class_meant, given_in, flavours_known, classes_filled, members_given, members_apart, literals_uniform, members_known, given_number, group_of, group_read, class_bytes, classes_bytes, group_body, group_bytes}
use Rattle.group_records.proofs.GroupCopy.{both_below}

-- a class as its record gives it
abbrev given_for : Class → Given
given_for c = record { flavour = flavour_of c.constant; value = value_of c.constant; members = c.members }

-- members that are written, before other bytes
member-at : (xs rest : List ℕ) (i : ℕ) → i < length xs → field (fields_bytes xs ++ rest) (2 * i) ≡ get_or xs i 0
unfolding fields_bytes field_bytes
member-at [] rest i l = absurd (omega arith)
member-at (x ∷ xs) rest zero l = field-first x (fields_bytes xs ++ rest)
member-at (x ∷ xs) rest (suc i) l =
    let s : 2 * suc i ≡ 2 + 2 * i = omega arith in
    ap (λ (k : ℕ). field (field_bytes x ++ (fields_bytes xs ++ rest)) k) s ∙ (field-shift (field_bytes x) (fields_bytes xs ++ rest) (2 * i) ∙ member-at xs rest i (omega arith))

members-written : (p xs rest : List ℕ) → fields (p ++ (fields_bytes xs ++ rest)) (length p) (length xs) ≡ xs
unfolding fields
members-written p xs rest =
    sym (table_is (λ k. field (p ++ (fields_bytes xs ++ rest)) (length p + 2 * k)) (length xs) xs 0 refl
    (λ i l. sym (field-shift p (fields_bytes xs ++ rest) (2 * i) ∙ member-at xs rest i l)))

-- what stands in the bytes of a class, before other bytes
module _ (c : Class) (rest : List ℕ) where
  abbrev bytes : List ℕ
  bytes = class_bytes c ++ rest

  flavour-first : field bytes 0 ≡ flavour_of c.constant
  unfolding class_bytes field_bytes wide_bytes
  flavour-first = field-first (flavour_of c.constant) ((wide_bytes (value_of c.constant) ++ (field_bytes (length c.members) ++ fields_bytes c.members)) ++ rest)

  value-next : wide_field bytes 2 ≡ value_of c.constant
  unfolding class_bytes field_bytes wide_bytes
  value-next =
      wide-shift (field_bytes (flavour_of c.constant)) ((wide_bytes (value_of c.constant) ++ (field_bytes (length c.members) ++ fields_bytes c.members)) ++ rest) 0
      ∙ wide-first (value_of c.constant) ((field_bytes (length c.members) ++ fields_bytes c.members) ++ rest)

  count_next : field bytes 6 ≡ length c.members
  unfolding class_bytes field_bytes wide_bytes
  count_next =
      field-shift (field_bytes (flavour_of c.constant) ++ wide_bytes (value_of c.constant)) ((field_bytes (length c.members) ++ fields_bytes c.members) ++ rest) 0
      ∙ field-first (length c.members) (fields_bytes c.members ++ rest)

  members-last : fields bytes 8 (length c.members) ≡ c.members
  unfolding class_bytes field_bytes wide_bytes
  members-last = members-written (field_bytes (flavour_of c.constant) ++ (wide_bytes (value_of c.constant) ++ field_bytes (length c.members))) c.members rest

  class-again : given_at bytes ≡ given_for c
  unfolding given_at
  class-again = λ i. record { flavour = flavour-first i; value = value-next i; members = (ap (fields bytes 8) count_next ∙ members-last) i }

  class-length : length (class_bytes c) ≡ 8 + 2 * length c.members
  unfolding class_bytes field_bytes wide_bytes
  class-length = omega (arith, length_fields-bytes c.members)

  class-size : given_size bytes ≡ length (class_bytes c)
  unfolding given_size
  class-size = omega (arith, count_next, class-length)

  class-fits : (leb 8 (length bytes) && leb (given_size bytes) (length bytes)) ≡ true
  class-fits =
      and_both (le-leb 8 (length bytes) (omega (arith, length-append (class_bytes c) rest, class-length)))
      (le-leb (given_size bytes) (length bytes) (omega (arith, length-append (class_bytes c) rest, class-size)))

  class-passed : drop (given_size bytes) bytes ≡ rest
  class-passed = drop_at (class_bytes c) rest (given_size bytes) (sym class-size)

one_more : (n : ℕ) (bytes : List ℕ) (g : Given) (gs : List Given) → (leb 8 (length bytes) && leb (given_size bytes) (length bytes)) ≡ true → given_at bytes ≡ g
    → classes_given n (drop (given_size bytes) bytes) ≡ Some gs → classes_given (suc n) bytes ≡ Some (g ∷ gs)
unfolding classes_given with_given
one_more n bytes g gs q p r = rw (q, p, r)

-- the bytes of classes are read as the classes
classes-again : (cs : List Class) → classes_given (length cs) (classes_bytes cs) ≡ Some (map given_for cs)
unfolding classes_given classes_bytes
classes-again [] = refl
classes-again (c ∷ cs) =
    one_more (length cs) (class_bytes c ++ classes_bytes cs) (given_for c) (map given_for cs) (class-fits c (classes_bytes cs)) (class-again c (classes_bytes cs))
    (ap (classes_given (length cs)) (class-passed c (classes_bytes cs)) ∙ classes-again cs)

long_body : (body : List ℕ) → 2 ≤ length body → body_given body ≡ classes_given (field body 0) (drop 2 body)
unfolding body_given
long_body body l = rw (le-leb 2 (length body) l)

body_again : (cs : List Class) → body_given (group_body cs) ≡ Some (map given_for cs)
unfolding group_body field_bytes
body_again cs =
    long_body (field_bytes (length cs) ++ classes_bytes cs) (omega arith)
    ∙ ap (λ (n : ℕ). classes_given n (classes_bytes cs)) (field-first (length cs) (classes_bytes cs)) ∙ classes-again cs

-- what stands in the record of a group, before other bytes
module _ (cs : List Class) (more : List ℕ) where
  header-again : field (group_bytes cs ++ more) 0 ≡ length (group_body cs)
  unfolding group_bytes field_bytes
  header-again = field-first (length (group_body cs)) ((field_bytes 16 ++ group_body cs) ++ more)

  kind-again : field (group_bytes cs ++ more) 2 ≡ 16
  unfolding group_bytes field_bytes
  kind-again = field-shift (field_bytes (length (group_body cs))) ((field_bytes 16 ++ group_body cs) ++ more) 0 ∙ field-first 16 (group_body cs ++ more)

  length-again : length (group_bytes cs) ≡ 4 + length (group_body cs)
  unfolding group_bytes field_bytes
  length-again = omega arith

  body_kept : body_of (group_bytes cs ++ more) ≡ group_body cs
  unfolding body_of group_bytes field_bytes
  body_kept = rw header-again (take_at (group_body cs) more (length (group_body cs)) refl)

  whole_again : is_whole (group_bytes cs ++ more) ≡ true
  whole_again =
      let n = length-again in
      let m = length-append (group_bytes cs) more in
      let h = header-again in
      whole_from (group_bytes cs ++ more) (omega arith) (omega arith)

  -- the record of a group gives its classes
  pub written-given : group_given (group_bytes cs ++ more) ≡ Some (map given_for cs)
  unfolding group_given
  written-given = rw (whole_again, eq-eqb (field (group_bytes cs ++ more) 2) 16 kind-again) (ap body_given body_kept ∙ body_again cs)

-- they mean the classes
meant_again : (cs : List Class) → map class_meant (map given_for cs) ≡ cs
unfolding class_meant
meant_again [] = refl
meant_again (c ∷ cs) = ap₂ {C = List Class} (λ d ds. d ∷ ds) (λ i. record { members = c.members; constant = constant-from c.constant i }) (meant_again cs)

for_at : (cs : List Class) (j : ℕ) → given_in (map given_for cs) j ≡ given_for (class_at cs j)
unfolding flavour_of value_of
for_at cs j = get_or-map given_for cs j nothing

-- a literal, by its test
literal-of : (n : Node) → is_literal n ≡ true → (v : ℕ) × (n ≡ literal v)
unfolding is_literal
literal-of (column name index) h = absurd (true_not_false h refl)
literal-of (literal v) h = (v, refl)
literal-of (operation label children) h = absurd (true_not_false h refl)

unless : (a b u : Bool) → (b ≡ true → u ≡ true) → (not (a && b) || u) ≡ true
unless false b u f = refl
unless true false u f = refl
unless true true u f = f refl

module _ (cells : List ℕ) (cs : List Class) (w : lawful cells ≡ true) (f : Fit (nodes cells) 256 cs) where
  abbrev gs : List Given
  gs = map given_for cs

  members-are : members_given gs ≡ flat cs
  members-are = ap flat (meant_again cs)

  inside_of : (j : ℕ) → j < length gs → j < length cs
  inside_of j l = omega (arith, l, length-map cs given_for)

  flavours : flavours_known gs ≡ true
  unfolding flavours_known
  flavours =
      each_all (λ j. known_flavour (given_in gs j).flavour (given_in gs j).value) (length gs)
      (λ j l. subst (λ (g : Given). known_flavour g.flavour g.value ≡ true) (sym (for_at cs j)) (flavour-known (class_at cs j).constant))

  filled : classes_filled gs ≡ true
  unfolding classes_filled
  filled =
      each_all (λ j. ltb 0 (length (given_in gs j).members)) (length gs)
      (λ j l. subst (λ (g : Given). ltb 0 (length g.members) ≡ true) (sym (for_at cs j)) (lt-ltb 0 (length (class_at cs j).members) (f.good.filled j (inside_of j l))))

  apart : members_apart gs ≡ true
  unfolding members_apart fresh
  apart =
      ap (λ (ms : List ℕ). each (λ k. fresh ms k) (length ms)) members-are
      ∙ each_all (λ k. fresh (flat cs) k) (length (flat cs))
      (λ k l. each_all (λ i. not (eqb (get_or (flat cs) i 0) (get_or (flat cs) k 0))) k
      (λ i b. ap not (ne_eqb (get_or (flat cs) i 0) (get_or (flat cs) k 0) (f.good.distinct.apart i k b l))))

  literal-high : (j k : ℕ) → j < length cs → k < length (class_at cs j).members → is_literal (node_at (nodes cells) (get_or (class_at cs j).members k 0)) ≡ true → leb 2 (flavour_of (class_at cs j).constant) ≡ true
  literal-high j k l b h =
      let v = literal-of (node_at (nodes cells) (get_or (class_at cs j).members k 0)) h in
      le-leb 2 (flavour_of (class_at cs j).constant) (uniform-flavour (class_at cs j).constant (f.good.uniform j (get_or (class_at cs j).members k 0) v.0 l (get_or-among (class_at cs j).members k b) v.1))

  uniform : literals_uniform (nodes cells) gs ≡ true
  unfolding literals_uniform
  uniform =
      each_all (λ j. each (λ k. not (ltb (get_or (given_in gs j).members k 0) (length (nodes cells)) && is_literal (node_at (nodes cells) (get_or (given_in gs j).members k 0))) || leb 2 (given_in gs j).flavour) (length (given_in gs j).members)) (length gs)
      (λ j l. subst (λ (g : Given). each (λ k. not (ltb (get_or g.members k 0) (length (nodes cells)) && is_literal (node_at (nodes cells) (get_or g.members k 0))) || leb 2 g.flavour) (length g.members) ≡ true) (sym (for_at cs j))
      (each_all (λ k. not (ltb (get_or (class_at cs j).members k 0) (length (nodes cells)) && is_literal (node_at (nodes cells) (get_or (class_at cs j).members k 0))) || leb 2 (flavour_of (class_at cs j).constant)) (length (class_at cs j).members)
      (λ k b. unless (ltb (get_or (class_at cs j).members k 0) (length (nodes cells))) (is_literal (node_at (nodes cells) (get_or (class_at cs j).members k 0))) (leb 2 (flavour_of (class_at cs j).constant)) (literal-high j k (inside_of j l) b))))

  inside : members_known (nodes cells) gs ≡ true
  unfolding members_known
  inside =
      ap (λ (ms : List ℕ). each (λ k. ltb (get_or ms k 0) (length (nodes cells))) (length ms)) members-are
      ∙ each_all (λ k. ltb (get_or (flat cs) k 0) (length (nodes cells))) (length (flat cs))
      (λ k l. lt-ltb (get_or (flat cs) k 0) (length (nodes cells)) (f.good.inside (get_or (flat cs) k 0) (get_or-among (flat cs) k l)))

  few : leb (length gs) 64 ≡ true
  few = le-leb (length gs) 64 (omega (arith, length-map cs given_for, f.few))

  small : leb (length (members_given gs)) 256 ≡ true
  small = le-leb (length (members_given gs)) 256 (omega (arith, ap length members-are, length-flat cs, f.within))

  passes : given_number cells gs ≡ 0
  unfolding given_number
  passes = rw (flavours, w, filled, apart, uniform, inside, few, small)

  -- each group has a record, which is read as the group of limit 256 with these classes, whatever stands after: over a lawful arena, for classes that are a group
  pub written_read : (more : List ℕ) → group_read cells (group_bytes cs ++ more) ≡ record { answer = Ok true; group = encode 256 cs }
  unfolding group_of
  written_read more =
      ap (group_of cells) (written-given cs more)
      ∙ rw passes (ap (λ (ds : List Class). record { answer = Ok true; group = encode 256 ds }) (meant_again cs))

-- the bytes of numbers are bytes
two_bytes : (x : ℕ) → length (field_bytes x) ≡ 2
unfolding field_bytes
two_bytes x = refl

field_bytes-small : (x : ℕ) → x < 65536 → AllBelow 256 (field_bytes x)
unfolding field_bytes
field_bytes-small x l zero b = omega arith
field_bytes-small x l (suc zero) b = omega arith
field_bytes-small x l (suc (suc k)) b = absurd (omega arith)

wide_bytes-small : (x : ℕ) → x < 4294967296 → AllBelow 256 (wide_bytes x)
unfolding wide_bytes
wide_bytes-small x l = both_below 256 (field_bytes (x % 65536)) (field_bytes (x / 65536)) (field_bytes-small (x % 65536) (omega arith)) (field_bytes-small (x / 65536) (omega arith))

none_below : AllBelow 256 []
none_below k b = absurd (omega arith)

fields_bytes-small : (xs : List ℕ) → AllBelow 65536 xs → AllBelow 256 (fields_bytes xs)
unfolding fields_bytes
fields_bytes-small [] h = none_below
fields_bytes-small (x ∷ xs) h = both_below 256 (field_bytes x) (fields_bytes xs) (field_bytes-small x (h 0 (omega arith))) (fields_bytes-small xs (λ k b. h (suc k) (omega arith)))

-- a class that can be written
record Writable (c : Class) : Type 0 where
  value : value_of c.constant < 4294967296
  count : length c.members < 65536
  members : AllBelow 65536 c.members

flavour-small : (c : Constant) → flavour_of c < 65536
unfolding flavour_of
flavour-small no_constant = omega arith
flavour-small heterogeneous = omega arith
flavour-small unknown = omega arith
flavour-small (known v) = omega arith

class_bytes-small : (c : Class) → Writable c → AllBelow 256 (class_bytes c)
unfolding class_bytes
class_bytes-small c w =
    both_below 256 (field_bytes (flavour_of c.constant)) (wide_bytes (value_of c.constant) ++ (field_bytes (length c.members) ++ fields_bytes c.members)) (field_bytes-small (flavour_of c.constant) (flavour-small c.constant))
    (both_below 256 (wide_bytes (value_of c.constant)) (field_bytes (length c.members) ++ fields_bytes c.members) (wide_bytes-small (value_of c.constant) w.value)
    (both_below 256 (field_bytes (length c.members)) (fields_bytes c.members) (field_bytes-small (length c.members) w.count) (fields_bytes-small c.members w.members)))

classes_bytes-small : (cs : List Class) → ((i : ℕ) → i < length cs → Writable (class_at cs i)) → AllBelow 256 (classes_bytes cs)
unfolding classes_bytes
classes_bytes-small [] h = none_below
classes_bytes-small (c ∷ cs) h = both_below 256 (class_bytes c) (classes_bytes cs) (class_bytes-small c (h 0 (omega arith))) (classes_bytes-small cs (λ i l. h (suc i) (omega arith)))

classes-length : (cs : List Class) → length (classes_bytes cs) ≡ 8 * length cs + 2 * total cs
unfolding classes_bytes total
classes-length [] = refl
classes-length (c ∷ cs) = omega (arith, length-append (class_bytes c) (classes_bytes cs), class-length c [], classes-length cs)

-- the record of a group is made of bytes, where each value has 32 bits
module _ (cells : List ℕ) (cs : List Class) (w : lawful cells ≡ true) (f : Fit (nodes cells) 256 cs) where
  members-low : (i : ℕ) → i < length cs → AllBelow 65536 (class_at cs i).members
  members-low i l k b =
      omega (arith, f.good.inside (get_or (class_at cs i).members k 0) (class-flat cs (get_or (class_at cs i).members k 0) i l (get_or-among (class_at cs i).members k b)), (lawful-holds cells w).sound.few)

  class-count : (i : ℕ) → i < length cs → length (class_at cs i).members < 65536
  class-count i l = omega (arith, total-take cs i, total-front cs (suc i), f.within)

  pub written-bytes : ((i : ℕ) → i < length cs → value_of (class_at cs i).constant < 4294967296) → AllBelow 256 (group_bytes cs)
  unfolding group_bytes group_body
  written-bytes v =
      let n : length (field_bytes (length cs) ++ classes_bytes cs) < 65536 = omega (arith, length-append (field_bytes (length cs)) (classes_bytes cs), two_bytes (length cs), classes-length cs, f.few, f.within) in
      both_below 256 (field_bytes (length (field_bytes (length cs) ++ classes_bytes cs))) (field_bytes 16 ++ (field_bytes (length cs) ++ classes_bytes cs)) (field_bytes-small (length (field_bytes (length cs) ++ classes_bytes cs)) n)
      (both_below 256 (field_bytes 16) (field_bytes (length cs) ++ classes_bytes cs) (field_bytes-small 16 (omega arith))
      (both_below 256 (field_bytes (length cs)) (classes_bytes cs) (field_bytes-small (length cs) (omega (arith, f.few)))
      (classes_bytes-small cs (λ i l. record { value = v i l; count = class-count i l; members = members-low i l }))))

-- a group that passes the check has a record, which is read as a group of limit 256 with its classes
pub checked-written : (cells : List ℕ) (g : Group) → group_number cells g ≡ 0 → (more : List ℕ) → group_read cells (group_bytes (decode g) ++ more) ≡ record { answer = Ok true; group = encode 256 (decode g) }
checked-written cells g e more =
    let f = number-fit cells g e in
    written_read cells (decode g) (number-lawful cells g e) (record { low = omega arith; high = omega arith; few = f.few; within = omega (arith, f.within, f.high); good = f.good }) more

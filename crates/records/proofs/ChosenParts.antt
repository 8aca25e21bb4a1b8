-- For join kinds 4 to 9: what is handed back, and what it doesn't depend on.
use Rattle.std.specs.Prelude.{if◌then◌else◌, Option, None, Some}
use Prim.Native.Nat.{ℕ, ◌+◌, ◌<◌, ◌≤◌}
use mathlib.Core.Bool.{Bool, true, false}
use mathlib.Core.List.{List, [], ◌++◌}
use mathlib.Core.Path.{◌≡◌, refl, sym, ap, ◌∙◌}
use native.Mathlib.Decide.{ℕ_discrete}
use native.Mathlib.Omega.{arith}
use lib.Dec.{eqb, ltb}
use lib.ListN.{length, take, length-append, get_or-append}
use lib.Seq.{length-take-le, get_or-take, take-append-le}
use Rattle.laws.proofs.Booleans.{and_right, and_both}
use Rattle.records.specs.Fields.{field}
use Rattle.records.specs.Record.{is_whole, record_size}
use Rattle.records.specs.Chosen.{is_group_record, group_part, side_of, part_of, chosen_part, number_of, chosen_number}
use Rattle.records.proofs.Headers.{whole-header, whole_body, whole_from, size-within}
use Rattle.records.proofs.Choices.{group-whole, side_left, side_right}

-- a part that starts a record and has the length that its header says
pub record Starts (part side : List ℕ) : Type 0 where
  pub start : part ≡ take (record_size side) side
  pub long : length part ≡ record_size side
  pub header : 4 ≤ record_size side
  pub within : record_size side ≤ length side

module _ (bytes : List ℕ) where
  -- the part of a group record
  part-starts : is_group_record bytes ≡ true → Starts (group_part bytes) bytes
  unfolding group_part record_size
  part-starts g =
      let w = whole_body bytes (group-whole bytes g) in
      rw g (record { start = refl; long = length-take-le (4 + field bytes 0) bytes w; header = omega arith; within = w })

  -- the length of a part
  length_part : length (group_part bytes) ≡ (if is_group_record bytes then record_size bytes else 0)
  unfolding group_part
  length_part = go (is_group_record bytes) refl
    where
      go : (b : Bool) → is_group_record bytes ≡ b → length (if b then take (record_size bytes) bytes else []) ≡ (if b then record_size bytes else 0)
      go true g = length-take-le (record_size bytes) bytes (size-within bytes (group-whole bytes g))
      go false g = refl

  -- no refusal: a group record
  group-there : number_of (Some bytes) ≡ 0 → is_group_record bytes ≡ true
  unfolding number_of
  group-there = go (is_group_record bytes)
    where
      go : (b : Bool) → ◌≡◌ {A = ℕ} (if b then 0 else 9) 0 → b ≡ true
      go true e = refl
      go false e = absurd (omega arith)

  group-missing : (number_of (Some bytes) ≡ 0 → ⊥) → group_part bytes ≡ []
  unfolding number_of group_part
  group-missing = go (is_group_record bytes)
    where
      go : (b : Bool) → (◌≡◌ {A = ℕ} (if b then 0 else 9) 0 → ⊥) → (if b then take (record_size bytes) bytes else []) ≡ []
      go true n = absurd (n refl)
      go false n = refl

-- a part was handed back
pub record Kept (kind : ℕ) (left right : List ℕ) : Type 0 where
  pub side : List ℕ
  pub kept : side_of kind left right ≡ Some side
  pub starts : Starts (chosen_part kind left right) side

module _ (kind : ℕ) (left right : List ℕ) where
  -- where there is no refusal, the part starts the chosen side and has its header's length
  pub chosen-kept : chosen_number kind left right ≡ 0 → Kept kind left right
  unfolding chosen_number chosen_part part_of number_of
  chosen-kept = go (side_of kind left right) refl
    where
      go : (o : Option (List ℕ)) → side_of kind left right ≡ o → number_of o ≡ 0 → Kept kind left right
      go None e n = absurd (omega arith)
      go (Some side) e n = record { side = side; kept = e; starts = rw e (part-starts side (group-there side n)) }

  -- the part is empty exactly where there is a refusal
  pub refused-empty : (chosen_number kind left right ≡ 0 → ⊥) → chosen_part kind left right ≡ []
  unfolding chosen_number chosen_part part_of
  refused-empty = go (side_of kind left right)
    where
      go : (o : Option (List ℕ)) → (number_of o ≡ 0 → ⊥) → part_of o ≡ []
      go None n = refl
      go (Some side) n = group-missing side n

  pub empty-refused : chosen_part kind left right ≡ [] → chosen_number kind left right ≡ 0 → ⊥
  empty-refused e n =
      let k = chosen-kept n in
      let z : length (chosen_part kind left right) ≡ 0 = ap (λ (l : List ℕ). length l) e in
      omega (arith, k.starts.long, k.starts.header)

  -- so a part that is not empty starts the chosen side
  pub part-kept : (chosen_part kind left right ≡ [] → ⊥) → Kept kind left right
  part-kept there = go (ℕ_discrete (chosen_number kind left right) 0)
    where
      go : Dec (chosen_number kind left right ≡ 0) → Kept kind left right
      go (yes n) = chosen-kept n
      go (no n) = absurd (there (refused-empty n))

  -- the chosen side is the left one for kinds 4 to 6, the right one for kinds 7 to 9
  pub left-starts : 4 ≤ kind → kind < 7 → chosen_number kind left right ≡ 0 → Starts (chosen_part kind left right) left
  unfolding chosen_number chosen_part part_of
  left-starts low high n =
      let e = side_left kind left right low high in
      rw e (part-starts left (group-there left (rw e at n)))

  pub right-starts : 7 ≤ kind → kind < 10 → chosen_number kind left right ≡ 0 → Starts (chosen_part kind left right) right
  unfolding chosen_number chosen_part part_of
  right-starts low high n =
      let e = side_right kind left right low high in
      rw e (part-starts right (group-there right (rw e at n)))

-- for kinds 4 to 6 the right side doesn't matter
module _ (kind : ℕ) (low : 4 ≤ kind) (high : kind < 7) (left right other : List ℕ) where
  pub left-part : chosen_part kind left right ≡ chosen_part kind left other
  unfolding chosen_part
  left-part = rw (side_left kind left right low high, side_left kind left other low high)

  pub left-number : chosen_number kind left right ≡ chosen_number kind left other
  unfolding chosen_number
  left-number = rw (side_left kind left right low high, side_left kind left other low high)

-- for kinds 7 to 9 the left side doesn't matter
module _ (kind : ℕ) (low : 7 ≤ kind) (high : kind < 10) (left other right : List ℕ) where
  pub right-part : chosen_part kind left right ≡ chosen_part kind other right
  unfolding chosen_part
  right-part = rw (side_right kind left right low high, side_right kind other right low high)

  pub right-number : chosen_number kind left right ≡ chosen_number kind other right
  unfolding chosen_number
  right-number = rw (side_right kind left right low high, side_right kind other right low high)

-- what stands after a record doesn't matter
module _ (bytes more : List ℕ) where
  field-before : (at : ℕ) → at + 1 < length bytes → field (bytes ++ more) at ≡ field bytes at
  unfolding field
  field-before at l = rw (get_or-append bytes more 0 at (omega arith), get_or-append bytes more 0 (at + 1) l)

  group-after : is_group_record bytes ≡ true → is_group_record (bytes ++ more) ≡ true
  unfolding is_group_record
  group-after g =
      let w = group-whole bytes g in
      let h = whole-header bytes w in
      let f = field-before 0 (omega arith) in
      and_both (whole_from (bytes ++ more) (omega (arith, length-append bytes more)) (omega (arith, length-append bytes more, whole_body bytes w)))
      (rw (field-before 2 (omega arith)) (and_right (is_whole bytes) (eqb (field bytes 2) 16) g))

  part-after : is_group_record bytes ≡ true → group_part (bytes ++ more) ≡ group_part bytes
  unfolding group_part record_size
  part-after g =
      let w = group-whole bytes g in
      let h = whole-header bytes w in
      rw (group-after g, g, field-before 0 (omega arith)) (take-append-le (4 + field bytes 0) bytes more (whole_body bytes w))

module _ (kind : ℕ) (left right more : List ℕ) where
  pub left_after : 4 ≤ kind → kind < 7 → is_group_record left ≡ true → chosen_part kind (left ++ more) right ≡ chosen_part kind left right
  unfolding chosen_part part_of
  left_after low high g = rw (side_left kind (left ++ more) right low high, side_left kind left right low high) (part-after left more g)

  pub right-after : 7 ≤ kind → kind < 10 → is_group_record right ≡ true → chosen_part kind left (right ++ more) ≡ chosen_part kind left right
  unfolding chosen_part part_of
  right-after low high g = rw (side_right kind left (right ++ more) low high, side_right kind left right low high) (part-after right more g)

-- two records with the same four header bytes and the same length
pub record SameHeader (a b : List ℕ) : Type 0 where
  pub header : take 4 a ≡ take 4 b
  pub long : length a ≡ length b

header-field : (a : List ℕ) (at : ℕ) → at + 1 < 4 → field (take 4 a) at ≡ field a at
unfolding field
header-field a at l = rw (get_or-take 4 a at 0 (omega arith), get_or-take 4 a (at + 1) 0 l)

module _ (a b : List ℕ) (same : SameHeader a b) where
  same-field : (at : ℕ) → at + 1 < 4 → field a at ≡ field b at
  same-field at l = sym (header-field a at l) ∙ (ap (λ (x : List ℕ). field x at) same.header ∙ header-field b at l)

  same-group : is_group_record a ≡ is_group_record b
  unfolding is_group_record is_whole
  same-group = rw (same-field 0 (omega arith), same-field 2 (omega arith), same.long)

  same-part : length (group_part a) ≡ length (group_part b)
  unfolding record_size
  same-part = length_part a ∙ (rw (same-group, same-field 0 (omega arith)) (sym (length_part b)))

  same_number : number_of (Some a) ≡ number_of (Some b)
  unfolding number_of
  same_number = rw same-group

-- the body is not read: parts of the same length, and the same number
module _ (kind : ℕ) (left left' right right' : List ℕ) (l : SameHeader left left') (r : SameHeader right right') where
  pub unread_part : length (chosen_part kind left right) ≡ length (chosen_part kind left' right')
  unfolding chosen_part part_of side_of
  unread_part = go (ltb kind 4) (ltb kind 7) (ltb kind 10)
    where
      go : (x y z : Bool) → length (part_of (if x then None else (if y then Some left else (if z then Some right else None)))) ≡ length (part_of (if x then None else (if y then Some left' else (if z then Some right' else None))))
      go true y z = refl
      go false true z = same-part left left' l
      go false false true = same-part right right' r
      go false false false = refl

  pub unread_number : chosen_number kind left right ≡ chosen_number kind left' right'
  unfolding chosen_number side_of
  unread_number = go (ltb kind 4) (ltb kind 7) (ltb kind 10)
    where
      go : (x y z : Bool) → number_of (if x then None else (if y then Some left else (if z then Some right else None))) ≡ number_of (if x then None else (if y then Some left' else (if z then Some right' else None)))
      go true y z = refl
      go false true z = same_number left left' l
      go false false true = same_number right right' r
      go false false false = refl

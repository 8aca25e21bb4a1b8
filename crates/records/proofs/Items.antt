-- What the reader's answer says of the bytes: which record was read, how long its body is, and how many bytes it takes.
use Prim.Native.Nat.{ℕ, ◌+◌, ◌-◌, ◌*◌, ◌/◌, ◌≤◌}
use mathlib.Core.List.{List}
use Rattle.std.specs.Prelude.{Option, None, Some, Result, Ok, Err}
use mathlib.Core.Path.{◌≡◌, refl, sym, ap, ◌∙◌, subst}
use native.Mathlib.Omega.{arith}
use lib.ListN.{length}
use Rattle.laws.proofs.Table.{length-table}
use Rattle.records.specs.Fields.{field, fields}
use Rattle.records.specs.Record.{Record, column, literal, operation, equal_pair, constant, normal_form_of, equality_of, one_ordering, record_size, body_of, keys_in, read_record, item_of, kind_of}
use Rattle.records.specs.declared.Item.{Item}
use Rattle.records.specs.declared.Item.TheVariants.{Column, Literal, Operation, EqualPair, Constant, NormalFormOf, EqualityOf, OneOrdering}
use Rattle.arena.specs.declared.Refusal.{Refusal}
use Rattle.records.proofs.Headers.{size-within, size_is}
use Rattle.records.proofs.Reading.{Stands, Read, was_read}

-- how many children and keys there are
pub length_fields : (bytes : List ℕ) (at n : ℕ) → length (fields bytes at n) ≡ n
unfolding fields
length_fields bytes at n = length-table (λ k. field bytes (at + 2 * k)) n

pub length-keys : (body : List ℕ) → length (keys_in body) ≡ length body / 4
unfolding keys_in
length-keys body = length-table (λ k. (field body (4 * k), field body (4 * k + 2))) (length body / 4)

-- what an answer says of the bytes
unfoldable pub Says : List ℕ → Result Item Refusal → Type 0
Says bytes (Ok (Column name index)) = read_record bytes ≡ Some (column name index)
Says bytes (Ok (Literal value)) = read_record bytes ≡ Some (literal value)
Says bytes (Ok (Operation label n)) = (read_record bytes ≡ Some (operation label (fields (body_of bytes) 4 n))) × (length (body_of bytes) ≡ 4 + 2 * n)
Says bytes (Ok (EqualPair a b)) = read_record bytes ≡ Some (equal_pair a b)
Says bytes (Ok (Constant e flavour value)) = read_record bytes ≡ Some (constant e flavour value)
Says bytes (Ok (NormalFormOf e)) = read_record bytes ≡ Some (normal_form_of e)
Says bytes (Ok (EqualityOf a b)) = read_record bytes ≡ Some (equality_of a b)
Says bytes (Ok (OneOrdering n)) = (read_record bytes ≡ Some (one_ordering (keys_in (body_of bytes)))) × ((length (body_of bytes) ≡ 4 * n) × ((1 ≤ n) × (n ≤ 16)))
Says bytes (Err k) = read_record bytes ≡ None

module _ (bytes : List ℕ) where
  operation-says : (label : ℕ) (children : List ℕ) → read_record bytes ≡ Some (operation label children) → Says bytes (Ok (Operation label (length children)))
  unfolding Says Stands
  operation-says label children e =
      let s = (was_read bytes (operation label children) e).stands in
      let n : length children ≡ (length (body_of bytes) - 4) / 2 = ap (λ (l : List ℕ). length l) s.1.1.1 ∙ length_fields (body_of bytes) 4 ((length (body_of bytes) - 4) / 2) in
      let c : children ≡ fields (body_of bytes) 4 (length children) = s.1.1.1 ∙ ap (λ (k : ℕ). fields (body_of bytes) 4 k) (sym n) in
      (e ∙ ap (λ (l : List ℕ). Some (operation label l)) c, omega (arith, s.0, s.1.0))

  ordering-says : (keys : List (ℕ × ℕ)) → read_record bytes ≡ Some (one_ordering keys) → Says bytes (Ok (OneOrdering (length keys)))
  unfolding Says Stands
  ordering-says keys e =
      let s = (was_read bytes (one_ordering keys) e).stands in
      let n : length keys ≡ length (body_of bytes) / 4 = ap (λ (l : List (ℕ × ℕ)). length l) s.1.1.1 ∙ length-keys (body_of bytes) in
      (e ∙ ap (λ (l : List (ℕ × ℕ)). Some (one_ordering l)) s.1.1.1, (omega (arith, s.0, s.1.1.0), (omega (arith, s.0, s.1.1.0), omega (arith, s.1.0, s.1.1.0))))

  says : Says bytes (item_of (read_record bytes))
  unfolding Says item_of
  says = go (read_record bytes) refl
    where
      go : (o : Option Record) → read_record bytes ≡ o → Says bytes (item_of o)
      go None e = e
      go (Some (column name index)) e = e
      go (Some (literal value)) e = e
      go (Some (operation label children)) e = operation-says label children e
      go (Some (equal_pair a b)) e = e
      go (Some (constant x flavour value)) e = e
      go (Some (normal_form_of x)) e = e
      go (Some (equality_of a b)) e = e
      go (Some (one_ordering keys)) e = ordering-says keys e

  -- what each answer of the reader says
  pub answer-says : (i : Result Item Refusal) → item_of (read_record bytes) ≡ i → Says bytes i
  answer-says i e = subst (λ (j : Result Item Refusal). Says bytes j) e says

  -- the same, answer by answer
  pub column-answer : (name index : ℕ) → item_of (read_record bytes) ≡ Ok (Column name index) → read_record bytes ≡ Some (column name index)
  unfolding Says
  column-answer name index e = answer-says (Ok (Column name index)) e

  pub literal-answer : (value : ℕ) → item_of (read_record bytes) ≡ Ok (Literal value) → read_record bytes ≡ Some (literal value)
  unfolding Says
  literal-answer value e = answer-says (Ok (Literal value)) e

  pub operation-answer : (label n : ℕ) → item_of (read_record bytes) ≡ Ok (Operation label n) → (read_record bytes ≡ Some (operation label (fields (body_of bytes) 4 n))) × (length (body_of bytes) ≡ 4 + 2 * n)
  unfolding Says
  operation-answer label n e = answer-says (Ok (Operation label n)) e

  pub equal_pair-answer : (a b : ℕ) → item_of (read_record bytes) ≡ Ok (EqualPair a b) → read_record bytes ≡ Some (equal_pair a b)
  unfolding Says
  equal_pair-answer a b e = answer-says (Ok (EqualPair a b)) e

  pub constant-answer : (x flavour value : ℕ) → item_of (read_record bytes) ≡ Ok (Constant x flavour value) → read_record bytes ≡ Some (constant x flavour value)
  unfolding Says
  constant-answer x flavour value e = answer-says (Ok (Constant x flavour value)) e

  pub normal_form-answer : (x : ℕ) → item_of (read_record bytes) ≡ Ok (NormalFormOf x) → read_record bytes ≡ Some (normal_form_of x)
  unfolding Says
  normal_form-answer x e = answer-says (Ok (NormalFormOf x)) e

  pub equality-answer : (a b : ℕ) → item_of (read_record bytes) ≡ Ok (EqualityOf a b) → read_record bytes ≡ Some (equality_of a b)
  unfolding Says
  equality-answer a b e = answer-says (Ok (EqualityOf a b)) e

  pub ordering-answer : (n : ℕ) → item_of (read_record bytes) ≡ Ok (OneOrdering n) → (read_record bytes ≡ Some (one_ordering (keys_in (body_of bytes)))) × ((length (body_of bytes) ≡ 4 * n) × ((1 ≤ n) × (n ≤ 16)))
  unfolding Says
  ordering-answer n e = answer-says (Ok (OneOrdering n)) e

  pub malformed_answer : (k : Refusal) → item_of (read_record bytes) ≡ Err k → read_record bytes ≡ None
  unfolding Says
  malformed_answer k e = answer-says (Err k) e

-- how many bytes a record that is read takes
module _ (bytes : List ℕ) (r : Record) (e : read_record bytes ≡ Some r) where
  -- a header, and no more than there is
  pub size_least : 4 ≤ record_size bytes
  size_least = omega (arith, size_is bytes (was_read bytes r e).whole)

  pub size-most : record_size bytes ≤ length bytes
  size-most = size-within bytes (was_read bytes r e).whole

  -- only the question for a normal form has a body of less than four bytes
  pub size-other : (kind_of r ≡ 6 → ⊥) → 8 ≤ record_size bytes
  unfolding Stands kind_of
  size-other other = go r (was_read bytes r e) other
    where
      go : (r : Record) → Read bytes r → (kind_of r ≡ 6 → ⊥) → 8 ≤ record_size bytes
      go (column name index) h o = omega (arith, size_is bytes h.whole, h.stands.0)
      go (literal value) h o = omega (arith, size_is bytes h.whole, h.stands.0)
      go (operation label children) h o = omega (arith, size_is bytes h.whole, h.stands.0)
      go (equal_pair a b) h o = omega (arith, size_is bytes h.whole, h.stands.0)
      go (constant x flavour value) h o = omega (arith, size_is bytes h.whole, h.stands.0)
      go (normal_form_of x) h o = absurd (o refl)
      go (equality_of a b) h o = omega (arith, size_is bytes h.whole, h.stands.0)
      go (one_ordering keys) h o = omega (arith, size_is bytes h.whole, h.stands.0)

pub size-normal_form : (bytes : List ℕ) (x : ℕ) → read_record bytes ≡ Some (normal_form_of x) → record_size bytes ≡ 6
unfolding Stands
size-normal_form bytes x e = let h = was_read bytes (normal_form_of x) e in omega (arith, size_is bytes h.whole, h.stands.0)

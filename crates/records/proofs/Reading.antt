-- What a record that is read says of its bytes: the kind, the length of the body, and where each number stands.
use Rattle.std.specs.Prelude.{if◌then◌else◌, Option, None, Some}
use Prim.Native.Nat.{ℕ, ◌-◌, ◌/◌, ◌%◌, ◌≤◌}
use mathlib.Core.Bool.{Bool, true, false, ◌&&◌}
use mathlib.Core.List.{List}
use mathlib.Core.Path.{◌≡◌, refl, sym, ap, ap₂, ◌∙◌, subst}
use native.Mathlib.Omega.{arith}
use borrow.Author.Tests.{leb-true, le-leb, eqb-true, eq-eqb}
use lib.Dec.{eqb, leb}
use lib.ListN.{length}
use Rattle.laws.proofs.Booleans.{and_left, and_right}
use Rattle.records.specs.Fields.{field, wide_field, fields}
use Rattle.records.specs.Record.{Record, column, literal, operation, equal_pair, constant, normal_form_of, equality_of, one_ordering, is_whole, body_of, column_in, literal_in, operation_in, equal_pair_in, constant_in, normal_form_in, equality_in, keys_in, ordering_in, record_in, read_record, kind_of}
use Rattle.records.proofs.KindView.{Kind, is-column, is-literal, is-operation, is-equal_pair, is-constant, is-normal_form, is-equality, is-ordering, is_zero, is-over, kind_view, kind-column, kind-literal, kind-operation, kind-equal_pair, kind-constant, kind-normal_form, kind-equality, kind-ordering, kind-zero, kind-over}

-- the numbers of a record stand in a body, whose length its kind has
unfoldable pub Stands : List ℕ → Record → Type 0
Stands body (column name index) = (length body ≡ 4) × ((name ≡ field body 0) × (index ≡ field body 2))
Stands body (literal value) = (length body ≡ 4) × (value ≡ wide_field body 0)
Stands body (operation label children) = (4 ≤ length body) × ((length body % 2 ≡ 0) × ((label ≡ wide_field body 0) × (children ≡ fields body 4 ((length body - 4) / 2))))
Stands body (equal_pair a b) = (length body ≡ 4) × ((a ≡ field body 0) × (b ≡ field body 2))
Stands body (constant e flavour value) = (length body ≡ 8) × ((e ≡ field body 0) × ((flavour ≡ field body 2) × (value ≡ wide_field body 4)))
Stands body (normal_form_of e) = (length body ≡ 2) × (e ≡ field body 0)
Stands body (equality_of a b) = (length body ≡ 4) × ((a ≡ field body 0) × (b ≡ field body 2))
Stands body (one_ordering keys) = (4 ≤ length body) × ((length body ≤ 64) × ((length body % 4 ≡ 0) × (keys ≡ keys_in body)))

-- a record that was read
pub record Read (bytes : List ℕ) (r : Record) : Type 0 where
  pub whole : is_whole bytes ≡ true
  pub kind : field bytes 2 ≡ kind_of r
  pub stands : Stands (body_of bytes) r

-- a choice that gave something passed its test
passed : (b : Bool) (x r : Record) → (if b then Some x else None) ≡ Some r → (b ≡ true) × (x ≡ r)
passed true x r e = (refl, cc)
passed false x r e = absurd (let z : ◌≡◌ {A = ℕ} 0 1 = cc in omega arith)

-- what a body of each kind says
abbrev Said : ℕ → List ℕ → Record → Type 0
Said kind body r = (kind ≡ kind_of r) × Stands body r

said : (kind : ℕ) (body : List ℕ) (b : Bool) (x r : Record) → (if b then Some x else None) ≡ Some r → (b ≡ true → Said kind body x) → Said kind body r
said kind body b x r e f = let p = passed b x r e in subst (λ (y : Record). Said kind body y) p.1 (f p.0)

module _ (kind : ℕ) (body : List ℕ) (r : Record) where
  column-said : kind ≡ 1 → column_in body ≡ Some r → Said kind body r
  unfolding column_in Stands kind_of
  column-said k e = said kind body (eqb (length body) 4) (column (field body 0) (field body 2)) r e (λ t. (k, (eqb-true (length body) 4 t, (refl, refl))))

  literal-said : kind ≡ 2 → literal_in body ≡ Some r → Said kind body r
  unfolding literal_in Stands kind_of
  literal-said k e = said kind body (eqb (length body) 4) (literal (wide_field body 0)) r e (λ t. (k, (eqb-true (length body) 4 t, refl)))

  operation-said : kind ≡ 3 → operation_in body ≡ Some r → Said kind body r
  unfolding operation_in Stands kind_of
  operation-said k e =
      said kind body (leb 4 (length body) && eqb (length body % 2) 0) (operation (wide_field body 0) (fields body 4 ((length body - 4) / 2))) r e
      (λ t. (k, (leb-true 4 (length body) (and_left (leb 4 (length body)) (eqb (length body % 2) 0) t), (eqb-true (length body % 2) 0 (and_right (leb 4 (length body)) (eqb (length body % 2) 0) t), (refl, refl)))))

  equal_pair-said : kind ≡ 4 → equal_pair_in body ≡ Some r → Said kind body r
  unfolding equal_pair_in Stands kind_of
  equal_pair-said k e = said kind body (eqb (length body) 4) (equal_pair (field body 0) (field body 2)) r e (λ t. (k, (eqb-true (length body) 4 t, (refl, refl))))

  constant-said : kind ≡ 5 → constant_in body ≡ Some r → Said kind body r
  unfolding constant_in Stands kind_of
  constant-said k e = said kind body (eqb (length body) 8) (constant (field body 0) (field body 2) (wide_field body 4)) r e (λ t. (k, (eqb-true (length body) 8 t, (refl, (refl, refl)))))

  normal_form-said : kind ≡ 6 → normal_form_in body ≡ Some r → Said kind body r
  unfolding normal_form_in Stands kind_of
  normal_form-said k e = said kind body (eqb (length body) 2) (normal_form_of (field body 0)) r e (λ t. (k, (eqb-true (length body) 2 t, refl)))

  equality-said : kind ≡ 7 → equality_in body ≡ Some r → Said kind body r
  unfolding equality_in Stands kind_of
  equality-said k e = said kind body (eqb (length body) 4) (equality_of (field body 0) (field body 2)) r e (λ t. (k, (eqb-true (length body) 4 t, (refl, refl))))

  ordering-said : kind ≡ 8 → ordering_in body ≡ Some r → Said kind body r
  unfolding ordering_in Stands kind_of
  ordering-said k e =
      said kind body (leb 4 (length body) && leb (length body) 64 && eqb (length body % 4) 0) (one_ordering (keys_in body)) r e
      (λ t.
      let u = and_left (leb 4 (length body) && leb (length body) 64) (eqb (length body % 4) 0) t in
      (k, (leb-true 4 (length body) (and_left (leb 4 (length body)) (leb (length body) 64) u), (leb-true (length body) 64 (and_right (leb 4 (length body)) (leb (length body) 64) u), (eqb-true (length body % 4) 0 (and_right (leb 4 (length body) && leb (length body) 64) (eqb (length body % 4) 0) t), refl)))))

  never : None ≡ Some r → Said kind body r
  never e = absurd (let z : ◌≡◌ {A = ℕ} 0 1 = cc in omega arith)

  -- a body that is read, by its kind
  in_said : record_in kind body ≡ Some r → Said kind body r
  in_said e = go (kind_view kind)
    where
      go : Kind kind → Said kind body r
      go (is-column k) = column-said k (sym (kind-column kind body k) ∙ e)
      go (is-literal k) = literal-said k (sym (kind-literal kind body k) ∙ e)
      go (is-operation k) = operation-said k (sym (kind-operation kind body k) ∙ e)
      go (is-equal_pair k) = equal_pair-said k (sym (kind-equal_pair kind body k) ∙ e)
      go (is-constant k) = constant-said k (sym (kind-constant kind body k) ∙ e)
      go (is-normal_form k) = normal_form-said k (sym (kind-normal_form kind body k) ∙ e)
      go (is-equality k) = equality-said k (sym (kind-equality kind body k) ∙ e)
      go (is-ordering k) = ordering-said k (sym (kind-ordering kind body k) ∙ e)
      go (is_zero k) = never (sym (kind-zero kind body k) ∙ e)
      go (is-over k) = never (sym (kind-over kind body k) ∙ e)

-- what a record that is read says
pub was_read : (bytes : List ℕ) (r : Record) → read_record bytes ≡ Some r → Read bytes r
unfolding read_record
was_read bytes r e = go (is_whole bytes) refl e
  where
    go : (b : Bool) → is_whole bytes ≡ b → (if b then record_in (field bytes 2) (body_of bytes) else None) ≡ Some r → Read bytes r
    go true w s = let p = in_said (field bytes 2) (body_of bytes) r s in record { whole = w; kind = p.0; stands = p.1 }
    go false w s = absurd (let z : ◌≡◌ {A = ℕ} 0 1 = cc in omega arith)

-- a body in which the numbers of a record stand is read
stands_in : (body : List ℕ) (r : Record) → Stands body r → record_in (kind_of r) body ≡ Some r
unfolding Stands kind_of record_in column_in literal_in operation_in equal_pair_in constant_in normal_form_in equality_in ordering_in
stands_in body (column name index) s = rw (eq-eqb (length body) 4 s.0) (sym (ap₂ {C = Option Record} (λ a b. Some (column a b)) s.1.0 s.1.1))
stands_in body (literal value) s = rw (eq-eqb (length body) 4 s.0) (sym (ap {B = Option Record} (λ a. Some (literal a)) s.1))
stands_in body (operation label children) s =
    rw (le-leb 4 (length body) s.0, eq-eqb (length body % 2) 0 s.1.0) (sym (ap₂ {C = Option Record} (λ a b. Some (operation a b)) s.1.1.0 s.1.1.1))
stands_in body (equal_pair a b) s = rw (eq-eqb (length body) 4 s.0) (sym (ap₂ {C = Option Record} (λ a b. Some (equal_pair a b)) s.1.0 s.1.1))
stands_in body (constant e flavour value) s =
    rw (eq-eqb (length body) 8 s.0) (sym (ap₂ {C = Option Record} (λ a b. Some (constant a b value)) s.1.0 s.1.1.0 ∙ ap {B = Option Record} (λ c. Some (constant (field body 0) (field body 2) c)) s.1.1.1))
stands_in body (normal_form_of e) s = rw (eq-eqb (length body) 2 s.0) (sym (ap {B = Option Record} (λ a. Some (normal_form_of a)) s.1))
stands_in body (equality_of a b) s = rw (eq-eqb (length body) 4 s.0) (sym (ap₂ {C = Option Record} (λ a b. Some (equality_of a b)) s.1.0 s.1.1))
stands_in body (one_ordering keys) s =
    rw (le-leb 4 (length body) s.0, le-leb (length body) 64 s.1.0, eq-eqb (length body % 4) 0 s.1.1.0) (sym (ap {B = Option Record} (λ a. Some (one_ordering a)) s.1.1.1))

-- and the other way round: bytes that say a record are read as it
pub is_read : (bytes : List ℕ) (r : Record) → Read bytes r → read_record bytes ≡ Some r
unfolding read_record
is_read bytes r h = rw (h.whole, h.kind) (stands_in (body_of bytes) r h.stands)

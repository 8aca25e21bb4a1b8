-- The reader's two directions: what it accepts is the record whose bytes stand there, and each well-formed record is accepted.
use Prim.Native.Nat.{ℕ, ◌+◌, ◌-◌, ◌*◌, ◌/◌, ◌<◌, ◌≤◌}
use mathlib.Core.Bool.{true}
use mathlib.Core.List.{List, [], ◌++◌, append_assoc}
use Rattle.std.specs.Prelude.{Some}
use mathlib.Core.Path.{◌≡◌, refl, sym, ap, ap₂, ◌∙◌}
use native.Mathlib.Omega.{arith}
use lib.ListN.{length, take, length-append}
use lib.Seq.{take-add, take_all, take_at, length-take-le}
use Rattle.records.specs.Fields.{field, wide_field, fields}
use Rattle.records.specs.Record.{Record, column, literal, operation, equal_pair, constant, normal_form_of, equality_of, one_ordering, is_whole, record_size, body_of, read_record, field_bytes, wide_bytes, fields_bytes, keys_bytes, kind_of, body_bytes, record_bytes, AllBelow, WellFormed}
use Rattle.records.proofs.Headers.{whole-header, whole_body, whole_from, length_body}
use Rattle.records.proofs.Reading.{Stands, was_read, is_read}
use Rattle.records.proofs.Items.{length_fields, length-keys}
use Rattle.records.proofs.FieldBytes.{field-small, field-again, pair-again, wide-again, wide-small, fields-again, fields-small, keys-again, keys-small, part_small, field-first, field-shift, wide-shift, wide-first, length_fields-bytes, length-keys_bytes, fields-written, keys-written}

-- a body in which the numbers of a record stand is the record's body, and the record can be written
module _ (body : List ℕ) (small : AllBelow 256 body) where
  -- two numbers of 16 bits
  two-again : length body ≡ 4 → (a b : ℕ) → a ≡ field body 0 → b ≡ field body 2 → field_bytes a ++ field_bytes b ≡ body
  two-again l a b p q =
      ap₂ {C = List ℕ} (λ a b. field_bytes a ++ field_bytes b) p q ∙ (pair-again body small 0 (omega arith) ∙ take_all 4 body (omega arith))

  two-small : length body ≡ 4 → (a b : ℕ) → a ≡ field body 0 → b ≡ field body 2 → (a < 65536) × (b < 65536)
  two-small l a b p q =
      let f = field-small body small 0 (omega arith) in
      let g = field-small body small 2 (omega arith) in
      (omega arith, omega arith)

  body_again : (r : Record) → Stands body r → body_bytes r ≡ body
  unfolding Stands body_bytes
  body_again (column name index) s = two-again s.0 name index s.1.0 s.1.1
  body_again (literal value) s = ap (λ (v : ℕ). wide_bytes v) s.1 ∙ (wide-again body small 0 (omega (arith, s.0)) ∙ take_all 4 body (omega (arith, s.0)))
  body_again (operation label children) s =
      let n = (length body - 4) / 2 in
      let e : length body ≡ 4 + 2 * n = omega (arith, s.0, s.1.0) in
      ap₂ {C = List ℕ} (λ l c. wide_bytes l ++ fields_bytes c) s.1.1.0 s.1.1.1
      ∙ (rw (wide-again body small 0 (omega arith), fields-again body small 4 n (omega arith)) (sym (take-add 4 (2 * n) body)) ∙ take_all (4 + 2 * n) body (omega arith))
  body_again (equal_pair a b) s = two-again s.0 a b s.1.0 s.1.1
  body_again (constant e flavour value) s =
      ap₂ {C = List ℕ} (λ e f. field_bytes e ++ (field_bytes f ++ wide_bytes value)) s.1.0 s.1.1.0
      ∙ (ap (λ (v : ℕ). field_bytes (field body 0) ++ (field_bytes (field body 2) ++ wide_bytes v)) s.1.1.1
      ∙ (sym (append_assoc (field_bytes (field body 0)) (field_bytes (field body 2)) (wide_bytes (wide_field body 4)))
      ∙ (rw (pair-again body small 0 (omega (arith, s.0)), wide-again body small 4 (omega (arith, s.0))) (sym (take-add 4 4 body))
      ∙ take_all 8 body (omega (arith, s.0)))))
  body_again (normal_form_of e) s = ap (λ (v : ℕ). field_bytes v) s.1 ∙ (field-again body small 0 (omega (arith, s.0)) ∙ take_all 2 body (omega (arith, s.0)))
  body_again (equality_of a b) s = two-again s.0 a b s.1.0 s.1.1
  body_again (one_ordering keys) s = ap (λ (k : List (ℕ × ℕ)). keys_bytes k) s.1.1.1 ∙ keys-again body small s.1.1.0

  stands-well : length body < 65536 → (r : Record) → Stands body r → WellFormed r
  unfolding Stands WellFormed
  stands-well b (column name index) s = two-small s.0 name index s.1.0 s.1.1
  stands-well b (literal value) s = omega (arith, s.1, wide-small body small 0 (omega (arith, s.0)))
  stands-well b (operation label children) s =
      let n = (length body - 4) / 2 in
      let e : length body ≡ 4 + 2 * n = omega (arith, s.0, s.1.0) in
      let c : length children ≡ n = ap (λ (l : List ℕ). length l) s.1.1.1 ∙ length_fields body 4 n in
      (omega (arith, s.1.1.0, wide-small body small 0 (omega arith)), (omega arith, rw s.1.1.1 (fields-small body small 4 n (omega arith))))
  stands-well b (equal_pair x y) s = two-small s.0 x y s.1.0 s.1.1
  stands-well b (constant e flavour value) s =
      (omega (arith, s.1.0, field-small body small 0 (omega (arith, s.0))), (omega (arith, s.1.1.0, field-small body small 2 (omega (arith, s.0))), omega (arith, s.1.1.1, wide-small body small 4 (omega (arith, s.0)))))
  stands-well b (normal_form_of e) s = omega (arith, s.1, field-small body small 0 (omega (arith, s.0)))
  stands-well b (equality_of x y) s = two-small s.0 x y s.1.0 s.1.1
  stands-well b (one_ordering keys) s =
      let c : length keys ≡ length body / 4 = ap (λ (l : List (ℕ × ℕ)). length l) s.1.1.1 ∙ length-keys body in
      (omega (arith, s.0), (omega (arith, s.1.0), rw s.1.1.1 (keys-small body small)))

-- what a record that was read says of its bytes
pub record Accepted (bytes : List ℕ) (r : Record) : Type 0 where
  pub written : take (record_size bytes) bytes ≡ record_bytes r
  pub sized : record_size bytes ≡ length (record_bytes r)
  pub within : record_size bytes ≤ length bytes
  pub well : WellFormed r

-- what the reader accepts is this record: the bytes from the start on, as many as the header says, are the record's own, and it is well-formed
pub accepted : (bytes : List ℕ) (r : Record) → AllBelow 256 bytes → read_record bytes ≡ Some r → Accepted bytes r
unfolding record_size body_of record_bytes
accepted bytes r small e =
    let h = was_read bytes r e in
    let l = whole-header bytes h.whole in
    let m = whole_body bytes h.whole in
    let part = part_small (field bytes 0) 4 bytes small in
    let n : length (body_of bytes) ≡ field bytes 0 = length_body bytes h.whole in
    let b : body_bytes r ≡ body_of bytes = body_again (body_of bytes) part r h.stands in
    let f = field-small bytes small 0 (omega arith) in
    let s : take (record_size bytes) bytes ≡ take 4 bytes ++ body_of bytes = take-add 4 (field bytes 0) bytes in
    let t : take 4 bytes ++ body_of bytes ≡ field_bytes (field bytes 0) ++ (field_bytes (field bytes 2) ++ body_of bytes) =
    rw (sym (pair-again bytes small 0 (omega arith))) (append_assoc (field_bytes (field bytes 0)) (field_bytes (field bytes 2)) (body_of bytes)) in
    let u : record_bytes r ≡ field_bytes (field bytes 0) ++ (field_bytes (field bytes 2) ++ body_of bytes) = rw (b, n, h.kind) in
    let w : take (record_size bytes) bytes ≡ record_bytes r = s ∙ (t ∙ sym u) in
    record {
      written = w;
      sized = sym (length-take-le (record_size bytes) bytes m) ∙ ap (λ (l : List ℕ). length l) w;
      within = m;
      well = stands-well (body_of bytes) part (omega arith) r h.stands;
    }

-- the numbers of a well-formed record stand in its body
body_stands : (r : Record) → WellFormed r → Stands (body_bytes r) r
unfolding Stands WellFormed body_bytes field_bytes wide_bytes
body_stands (column name index) w = (refl, (sym (field-first name (field_bytes index)), sym (field-shift (field_bytes name) (field_bytes index) 0 ∙ field-first index [])))
body_stands (literal value) w = (refl, sym (wide-first value []))
body_stands (operation label children) w =
    let n : length (wide_bytes label ++ fields_bytes children) ≡ 4 + 2 * length children = length-append (wide_bytes label) (fields_bytes children) ∙ rw (length_fields-bytes children) in
    let k : length children ≡ (length (wide_bytes label ++ fields_bytes children) - 4) / 2 = omega arith in
    (omega arith, (omega arith, (sym (wide-first label (fields_bytes children)), fields-written (wide_bytes label) children ∙ ap (λ (n : ℕ). fields (wide_bytes label ++ fields_bytes children) 4 n) k)))
body_stands (equal_pair a b) w = (refl, (sym (field-first a (field_bytes b)), sym (field-shift (field_bytes a) (field_bytes b) 0 ∙ field-first b [])))
body_stands (constant e flavour value) w =
    (refl, (sym (field-first e (field_bytes flavour ++ wide_bytes value)), (sym (field-shift (field_bytes e) (field_bytes flavour ++ wide_bytes value) 0 ∙ field-first flavour (wide_bytes value)), sym (wide-shift (field_bytes e ++ field_bytes flavour) (wide_bytes value) 0 ∙ wide-first value []))))
body_stands (normal_form_of e) w = (refl, sym (field-first e []))
body_stands (equality_of a b) w = (refl, (sym (field-first a (field_bytes b)), sym (field-shift (field_bytes a) (field_bytes b) 0 ∙ field-first b [])))
body_stands (one_ordering keys) w =
    let n = length-keys_bytes keys in
    (omega (arith, w.0), (omega (arith, w.1.0), (omega arith, keys-written keys)))

-- what stands in the bytes of a record, whatever stands after
module _ (r : Record) (more : List ℕ) where
  header-again : field (record_bytes r ++ more) 0 ≡ length (body_bytes r)
  unfolding record_bytes
  header-again =
      rw (append_assoc (field_bytes (length (body_bytes r))) (field_bytes (kind_of r) ++ body_bytes r) more) (field-first (length (body_bytes r)) ((field_bytes (kind_of r) ++ body_bytes r) ++ more))

  kind-again : field (record_bytes r ++ more) 2 ≡ kind_of r
  unfolding record_bytes field_bytes
  kind-again = field-shift (field_bytes (length (body_bytes r))) ((field_bytes (kind_of r) ++ body_bytes r) ++ more) 0 ∙ field-first (kind_of r) (body_bytes r ++ more)

  length-again : length (record_bytes r) ≡ 4 + length (body_bytes r)
  unfolding record_bytes field_bytes
  length-again = omega arith

  body_kept : body_of (record_bytes r ++ more) ≡ body_bytes r
  unfolding body_of record_bytes field_bytes
  body_kept = rw header-again (take_at (body_bytes r) more (length (body_bytes r)) refl)

  whole_again : is_whole (record_bytes r ++ more) ≡ true
  whole_again =
      let n = length-again in
      let m = length-append (record_bytes r) more in
      let h = header-again in
      whole_from (record_bytes r ++ more) (omega arith) (omega arith)

  -- each well-formed record is accepted, whatever stands after
  pub accepts : WellFormed r → read_record (record_bytes r ++ more) ≡ Some r
  accepts w = is_read (record_bytes r ++ more) r (record { whole = whole_again; kind = kind-again; stands = rw body_kept (body_stands r w) })

  -- and takes as many bytes as it was written with
  pub accepts-size : record_size (record_bytes r ++ more) ≡ length (record_bytes r)
  unfolding record_size
  accepts-size = let n = length-again in let h = header-again in omega arith

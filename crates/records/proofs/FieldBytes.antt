-- Numbers and their bytes: bytes that are read and written again are the same, and so is a number that is written and read again.
use Prim.Native.Nat.{ℕ, zero, suc, ◌+◌, ◌*◌, ◌/◌, ◌%◌, ◌<◌, ◌≤◌}
use mathlib.Core.List.{List, [], ◌∷◌, ◌++◌, append_assoc, append-nil}
use mathlib.Core.Path.{◌≡◌, refl, sym, ap, ap₂, ◌∙◌}
use native.Mathlib.Omega.{arith}
use lib.ListN.{length, get_or, take, drop, length-take, length-drop}
use lib.Seq.{drop-cons, drop-drop, take-add, take_all, get_or-take, get_or-drop, get_or-append-add}
use Rattle.laws.specs.Lists.{table}
use Rattle.laws.proofs.Table.{length-table, get_or-table, table_is}
use Rattle.records.specs.Fields.{field, wide_field, fields}
use Rattle.records.specs.Record.{AllBelow, field_bytes, wide_bytes, fields_bytes, keys_bytes, keys_in}
use Rattle.records.proofs.Headers.{field_below}

-- a number from its two bytes, and the two bytes of a number
split : (x : ℕ) → x % 256 + 256 * (x / 256) ≡ x
split x = omega arith

two_bytes : (a b : ℕ) → a < 256 → field_bytes (a + 256 * b) ≡ a ∷ b ∷ []
unfolding field_bytes
two_bytes a b l =
    let m : (a + 256 * b) % 256 ≡ a = omega arith in
    let d : (a + 256 * b) / 256 ≡ b = omega arith in
    rw (m, d)

-- a number of 32 bits from its halves, and its halves
split-wide : (x : ℕ) → x % 65536 + 65536 * (x / 65536) ≡ x
split-wide x = omega arith

two_fields : (a b : ℕ) → a < 65536 → wide_bytes (a + 65536 * b) ≡ field_bytes a ++ field_bytes b
unfolding wide_bytes
two_fields a b l =
    let m : (a + 65536 * b) % 65536 ≡ a = omega arith in
    let d : (a + 65536 * b) / 65536 ≡ b = omega arith in
    rw (m, d)

-- two stretches of a list, one after the other
joined : (n m at : ℕ) (l : List ℕ) → take n (drop at l) ++ take m (drop (at + n) l) ≡ take (n + m) (drop at l)
joined n m at l = sym (take-add n m (drop at l) ∙ rw (drop-drop n at l))

-- the bytes of several numbers, one after the other
fields-append : (xs ys : List ℕ) → fields_bytes (xs ++ ys) ≡ fields_bytes xs ++ fields_bytes ys
unfolding fields_bytes
fields-append [] ys = refl
fields-append (x ∷ xs) ys = rw (fields-append xs ys, append_assoc (field_bytes x) (fields_bytes xs) (fields_bytes ys))

keys-append : (xs ys : List (ℕ × ℕ)) → keys_bytes (xs ++ ys) ≡ keys_bytes xs ++ keys_bytes ys
unfolding keys_bytes
keys-append [] ys = refl
keys-append (x ∷ xs) ys =
    rw (keys-append xs ys, append_assoc (field_bytes x.0) (field_bytes x.1 ++ keys_bytes xs) (keys_bytes ys), append_assoc (field_bytes x.1) (keys_bytes xs) (keys_bytes ys))

-- the key at a place of a body
abbrev key : List ℕ → ℕ → ℕ × ℕ
key body k = (field body (4 * k), field body (4 * k + 2))

-- bytes that are read and written again
module _ (bytes : List ℕ) (small : AllBelow 256 bytes) where
  pub field-small : (at : ℕ) → at + 1 < length bytes → field bytes at < 65536
  field-small at l = field_below bytes at (small at (omega arith)) (small (at + 1) l)

  pub field-again : (at : ℕ) → at + 1 < length bytes → field_bytes (field bytes at) ≡ take 2 (drop at bytes)
  unfolding field
  field-again at l =
      let a : at < length bytes = omega arith in
      let b : suc at < length bytes = omega arith in
      let n : at + 1 ≡ suc at = omega arith in
      two_bytes (get_or bytes at 0) (get_or bytes (at + 1) 0) (small at a) ∙ rw (drop-cons bytes at 0 a, drop-cons bytes (suc at) 0 b, n)

  pub pair-again : (at : ℕ) → at + 3 < length bytes → field_bytes (field bytes at) ++ field_bytes (field bytes (at + 2)) ≡ take 4 (drop at bytes)
  pair-again at l = rw (field-again at (omega arith), field-again (at + 2) (omega arith)) (joined 2 2 at bytes)

  pub wide-again : (at : ℕ) → at + 3 < length bytes → wide_bytes (wide_field bytes at) ≡ take 4 (drop at bytes)
  unfolding wide_field
  wide-again at l = two_fields (field bytes at) (field bytes (at + 2)) (field-small at (omega arith)) ∙ pair-again at l

  pub wide-small : (at : ℕ) → at + 3 < length bytes → wide_field bytes at < 4294967296
  unfolding wide_field
  wide-small at l =
      let a : field bytes at < 65536 = field-small at (omega arith) in
      let b : field bytes (at + 2) < 65536 = field-small (at + 2) (omega arith) in
      omega arith

  pub fields-again : (at n : ℕ) → at + 2 * n ≤ length bytes → fields_bytes (fields bytes at n) ≡ take (2 * n) (drop at bytes)
  unfolding fields table fields_bytes
  fields-again at zero l = refl
  fields-again at (suc n) l =
      let s : 2 * suc n ≡ 2 * n + 2 = omega arith in
      fields-append (fields bytes at n) (field bytes (at + 2 * n) ∷ [])
      ∙ rw (fields-again at n (omega arith), append-nil (field_bytes (field bytes (at + 2 * n))), field-again (at + 2 * n) (omega arith), s) (joined (2 * n) 2 at bytes)

  pub fields-small : (at n : ℕ) → at + 2 * n ≤ length bytes → AllBelow 65536 (fields bytes at n)
  unfolding fields
  fields-small at n l k b =
      let c : k < n = rw (length-table (λ k. field bytes (at + 2 * k)) n) at b in
      rw (get_or-table (λ k. field bytes (at + 2 * k)) n k 0 c) (field-small (at + 2 * k) (omega arith))

  -- the keys of an ordering, n of them
  keys_from : (n : ℕ) → 4 * n ≤ length bytes → keys_bytes (table (key bytes) n) ≡ take (4 * n) bytes
  unfolding table keys_bytes
  keys_from zero l = refl
  keys_from (suc n) l =
      let s : 4 * suc n ≡ 4 * n + 4 = omega arith in
      keys-append (table (key bytes) n) (key bytes n ∷ [])
      ∙ rw (keys_from n (omega arith), append-nil (field_bytes (field bytes (4 * n + 2))), pair-again (4 * n) (omega arith), s) (sym (take-add (4 * n) 4 bytes))

  pub keys-again : length bytes % 4 ≡ 0 → keys_bytes (keys_in bytes) ≡ bytes
  unfolding keys_in
  keys-again e = keys_from (length bytes / 4) (omega arith) ∙ take_all (4 * (length bytes / 4)) bytes (omega arith)

  pub keys-small : (k : ℕ) → k < length (keys_in bytes) → ((get_or (keys_in bytes) k (0, 0)).0 < 65536) × ((get_or (keys_in bytes) k (0, 0)).1 < 65536)
  unfolding keys_in
  keys-small k b =
      let c : k < length bytes / 4 = rw (length-table (key bytes) (length bytes / 4)) at b in
      rw (get_or-table (key bytes) (length bytes / 4) k (0, 0) c) (field-small (4 * k) (omega arith), field-small (4 * k + 2) (omega arith))

-- a stretch of bytes is bytes
pub part_small : (n at : ℕ) (bytes : List ℕ) → AllBelow 256 bytes → AllBelow 256 (take n (drop at bytes))
part_small n at bytes small k l =
    let a : k < n = omega (arith, length-take n (drop at bytes), length-drop at bytes) in
    let b : at + k < length bytes = omega (arith, length-take n (drop at bytes), length-drop at bytes) in
    rw (get_or-take n (drop at bytes) k 0 a, get_or-drop at bytes k 0) (small (at + k) b)

-- numbers that are written and read again
pub field-first : (x : ℕ) (rest : List ℕ) → field (field_bytes x ++ rest) 0 ≡ x
unfolding field field_bytes
field-first x rest = split x

pub field-shift : (p q : List ℕ) (k : ℕ) → field (p ++ q) (length p + k) ≡ field q k
unfolding field
field-shift p q k =
    let n : length p + k + 1 ≡ length p + (k + 1) = omega arith in
    rw (n, get_or-append-add p q k 0, get_or-append-add p q (k + 1) 0)

pub wide-shift : (p q : List ℕ) (k : ℕ) → wide_field (p ++ q) (length p + k) ≡ wide_field q k
unfolding wide_field
wide-shift p q k =
    let n : length p + k + 2 ≡ length p + (k + 2) = omega arith in
    rw (n, field-shift p q k, field-shift p q (k + 2))

pub wide-first : (x : ℕ) (rest : List ℕ) → wide_field (wide_bytes x ++ rest) 0 ≡ x
unfolding wide_field wide_bytes field field_bytes
wide-first x rest = rw (split (x % 65536), split (x / 65536)) (split-wide x)

pub length_fields-bytes : (xs : List ℕ) → length (fields_bytes xs) ≡ 2 * length xs
unfolding fields_bytes field_bytes
length_fields-bytes [] = refl
length_fields-bytes (x ∷ xs) = rw (length_fields-bytes xs) (omega arith)

pub length-keys_bytes : (ps : List (ℕ × ℕ)) → length (keys_bytes ps) ≡ 4 * length ps
unfolding keys_bytes field_bytes
length-keys_bytes [] = refl
length-keys_bytes (p ∷ ps) = rw (length-keys_bytes ps) (omega arith)

field_at : (xs : List ℕ) (i : ℕ) → i < length xs → field (fields_bytes xs) (2 * i) ≡ get_or xs i 0
unfolding fields_bytes field_bytes
field_at [] i l = absurd (omega arith)
field_at (x ∷ xs) zero l = field-first x (fields_bytes xs)
field_at (x ∷ xs) (suc i) l =
    let s : 2 * suc i ≡ 2 + 2 * i = omega arith in
    ap (λ (k : ℕ). field (field_bytes x ++ fields_bytes xs) k) s ∙ (field-shift (field_bytes x) (fields_bytes xs) (2 * i) ∙ field_at xs i (omega arith))

-- the children behind a label
pub fields-written : (p xs : List ℕ) → xs ≡ fields (p ++ fields_bytes xs) (length p) (length xs)
unfolding fields
fields-written p xs =
    table_is (λ k. field (p ++ fields_bytes xs) (length p + 2 * k)) (length xs) xs 0 refl
    (λ i l. sym (field-shift p (fields_bytes xs) (2 * i) ∙ field_at xs i l))

-- the keys of an ordering
key-at : (ps : List (ℕ × ℕ)) (i : ℕ) → i < length ps → get_or ps i (0, 0) ≡ key (keys_bytes ps) i
unfolding keys_bytes field_bytes
key-at [] i l = absurd (omega arith)
key-at (p ∷ ps) zero l = sym (ap₂ {C = ℕ × ℕ} (λ a b. (a, b)) (field-first p.0 (field_bytes p.1 ++ keys_bytes ps)) (field-shift (field_bytes p.0) (field_bytes p.1 ++ keys_bytes ps) 0 ∙ field-first p.1 (keys_bytes ps)))
key-at (p ∷ ps) (suc i) l =
    let q = field_bytes p.0 ++ field_bytes p.1 in
    let s : 4 * suc i ≡ 4 + 4 * i = omega arith in
    let t : 4 * suc i + 2 ≡ 4 + (4 * i + 2) = omega arith in
    key-at ps i (omega arith)
    ∙ sym (ap₂ {C = ℕ × ℕ} (λ a b. (a, b)) (ap (λ (k : ℕ). field (q ++ keys_bytes ps) k) s ∙ field-shift q (keys_bytes ps) (4 * i)) (ap (λ (k : ℕ). field (q ++ keys_bytes ps) k) t ∙ field-shift q (keys_bytes ps) (4 * i + 2)))

pub keys-written : (ps : List (ℕ × ℕ)) → ps ≡ keys_in (keys_bytes ps)
unfolding keys_in
keys-written ps =
    let n : length ps ≡ length (keys_bytes ps) / 4 = omega (arith, length-keys_bytes ps) in
    table_is (key (keys_bytes ps)) (length (keys_bytes ps) / 4) ps (0, 0) n (λ i l. key-at ps i (omega arith))

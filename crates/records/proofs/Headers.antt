-- The header of a record: when it is whole, and where its body lies.
use Prim.Native.Nat.{ℕ, ◌+◌, ◌-◌, ◌<◌, ◌≤◌}
use mathlib.Core.Bool.{true, false, ◌&&◌}
use mathlib.Core.List.{List}
use mathlib.Core.Path.{◌≡◌, sym}
use native.Mathlib.Omega.{arith}
use borrow.Author.Tests.{leb-true, le-leb, lt-leb}
use lib.Dec.{leb}
use lib.ListN.{length, get_or, drop, length-drop}
use lib.Seq.{length-take-le}
use Rattle.laws.proofs.Booleans.{and_left, and_right, and_both, and_fails_left, same_test}
use Rattle.records.specs.Fields.{field}
use Rattle.records.specs.Record.{is_whole, record_size, body_of}

-- a number of 16 bits, from bytes
pub field_below : (bytes : List ℕ) (at : ℕ) → get_or bytes at 0 < 256 → get_or bytes (at + 1) 0 < 256 → field bytes at < 65536
unfolding field
field_below bytes at a b = omega arith

module _ (bytes : List ℕ) where
  -- a cut header
  pub cut-header : length bytes < 4 → false ≡ is_whole bytes
  unfolding is_whole
  cut-header l = sym (and_fails_left (leb 4 (length bytes)) (leb (4 + field bytes 0) (length bytes)) (lt-leb 4 (length bytes) l))

  -- behind a whole header, one test of the body
  pub whole-test : (n : ℕ) → 4 ≤ length bytes → n ≡ field bytes 0 → leb n (length bytes - 4) ≡ is_whole bytes
  unfolding is_whole
  whole-test n l e =
      same_test (leb n (length bytes - 4)) (leb 4 (length bytes) && leb (4 + field bytes 0) (length bytes))
      (λ t. let s : n ≤ length bytes - 4 = leb-true n (length bytes - 4) t in and_both (le-leb 4 (length bytes) l) (le-leb (4 + field bytes 0) (length bytes) (omega arith)))
      (λ t. let s : 4 + field bytes 0 ≤ length bytes = leb-true (4 + field bytes 0) (length bytes) (and_right (leb 4 (length bytes)) (leb (4 + field bytes 0) (length bytes)) t) in le-leb n (length bytes - 4) (omega arith))

  -- a whole record from its parts
  pub whole_from : 4 ≤ length bytes → 4 + field bytes 0 ≤ length bytes → is_whole bytes ≡ true
  unfolding is_whole
  whole_from a b = and_both (le-leb 4 (length bytes) a) (le-leb (4 + field bytes 0) (length bytes) b)

  module _ (whole : is_whole bytes ≡ true) where
    -- its parts
    pub whole-header : 4 ≤ length bytes
    unfolding is_whole
    whole-header = leb-true 4 (length bytes) (and_left (leb 4 (length bytes)) (leb (4 + field bytes 0) (length bytes)) whole)

    pub whole_body : 4 + field bytes 0 ≤ length bytes
    unfolding is_whole
    whole_body = leb-true (4 + field bytes 0) (length bytes) (and_right (leb 4 (length bytes)) (leb (4 + field bytes 0) (length bytes)) whole)

    -- the record lies in the bytes
    pub size-within : record_size bytes ≤ length bytes
    unfolding record_size
    size-within = whole_body

    -- the body has the length that the header says
    pub length_body : length (body_of bytes) ≡ field bytes 0
    unfolding body_of
    length_body = let w = whole_body in length-take-le (field bytes 0) (drop 4 bytes) (omega (arith, length-drop 4 bytes))

    pub size_is : record_size bytes ≡ 4 + length (body_of bytes)
    unfolding record_size
    size_is = rw length_body

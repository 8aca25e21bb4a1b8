-- Which of two group records a join keeps: by the header alone, and by the kind.
use Prim.Native.Nat.{ℕ, ◌<◌, ◌≤◌}
use mathlib.Core.Bool.{true, false}
use mathlib.Core.List.{List}
use Rattle.std.specs.Prelude.{None, Some}
use mathlib.Core.Path.{◌≡◌, sym}
use native.Mathlib.Omega.{arith}
use borrow.Author.Tests.{lt-ltb, le-ltb}
use lib.Dec.{eqb}
use Rattle.laws.proofs.Booleans.{and_left, and_fails_left}
use Rattle.records.specs.Fields.{field}
use Rattle.records.specs.Record.{is_whole}
use Rattle.records.specs.Chosen.{is_group_record, side_of}

module _ (bytes : List ℕ) where
  -- a group record is whole
  pub group-whole : is_group_record bytes ≡ true → is_whole bytes ≡ true
  unfolding is_group_record
  group-whole g = and_left (is_whole bytes) (eqb (field bytes 2) 16) g

  pub not-whole-group : is_whole bytes ≡ false → false ≡ is_group_record bytes
  unfolding is_group_record
  not-whole-group w = sym (and_fails_left (is_whole bytes) (eqb (field bytes 2) 16) w)

  -- of a whole record its kind decides
  pub group-test : (n : ℕ) → is_whole bytes ≡ true → n ≡ field bytes 2 → eqb n 16 ≡ is_group_record bytes
  unfolding is_group_record
  group-test n w e = rw (e, w)

-- the side that a kind keeps
module _ {A : Type 0} (kind : ℕ) (left right : A) where
  pub side-low : kind < 4 → side_of kind left right ≡ None
  unfolding side_of
  side-low a = rw (lt-ltb kind 4 a)

  pub side_left : 4 ≤ kind → kind < 7 → side_of kind left right ≡ Some left
  unfolding side_of
  side_left a b = rw (le-ltb kind 4 a, lt-ltb kind 7 b)

  pub side_right : 7 ≤ kind → kind < 10 → side_of kind left right ≡ Some right
  unfolding side_of
  side_right a b = rw (le-ltb kind 4 (omega arith), le-ltb kind 7 a, lt-ltb kind 10 b)

  pub side-high : 10 ≤ kind → side_of kind left right ≡ None
  unfolding side_of
  side-high a = rw (le-ltb kind 4 (omega arith), le-ltb kind 7 (omega arith), le-ltb kind 10 a)

-- Promises of the reader of a group's record: what is read is a group that every call of the groups takes, of limit 256, with the classes of the record.
use Rattle.std.specs.Prelude.{if◌then◌else◌, Option, None, Some, Ok}
use Prim.Native.Nat.{ℕ, ◌<◌, ◌≤◌}
use mathlib.Core.Bool.{Bool, true, false, not, ◌&&◌, ◌||◌}
use mathlib.Core.List.{List, [], map}
use mathlib.Core.Path.{◌≡◌, refl, sym, ap, ◌∙◌, subst}
use native.Mathlib.Omega.{arith}
use borrow.Author.Tests.{leb-true, ltb-true, lt-ltb, eqb-true, eqb-false, not-true}
use lib.Dec.{eqb, ltb, leb}
use lib.ListN.{length, get_or, length-map, get_or-map}
use Rattle.laws.specs.Tests.{each}
use Rattle.laws.proofs.Each.{each_holds}
use Rattle.laws.proofs.Booleans.{and_left, and_right}
use Rattle.arena.specs.Node.{literal, node_at}
use Rattle.arena.specs.Layout.{lawful, decode as nodes}
use Rattle.classes.specs.Class.{Class, is_uniform}
use Rattle.classes.specs.Group.{among, class_at}
use Rattle.classes.specs.Good.{Distinct, Good}
use Rattle.arena.specs.Refusals.{outcome, refusal}
use Rattle.arena.proofs.Refusals.{Listed, listed-if, refused-number}
use Rattle.classes.specs.Calls.{changed_number, group_number}
use Rattle.classes.specs.Layout.{encode, decode, constant_from, known_flavour, fresh, is_literal}
use Rattle.classes.specs.declared.Changed.{Changed}
use Rattle.classes.proofs.Places.{length-flat, among-place, class-flat}
use Rattle.classes.proofs.Marks.{flavour-uniform}
use Rattle.classes.proofs.Codec.{decode-encode, built-limit}
use Rattle.group_checks.proofs.HeldLaws.{Fit, held_number}
use Rattle.group_records.specs.GroupRecord.{Given, group_given, class_meant, given_in, flavours_known, classes_filled, members_given, members_apart, literals_uniform, members_known, given_number, no_group, group_of, group_read}

-- the tests that a number of 0 says were passed
record Passed (a b c d : Bool) : Type 0 where
  first : a ≡ true
  second : b ≡ true
  third : c ≡ true
  fourth : d ≡ true

passed : (a b c d : Bool) → ◌≡◌ {A = ℕ} (if a then (if b then (if c then (if d then 0 else 4) else 1) else 11) else 12) 0 → Passed a b c d
passed true true true true e = record { first = refl; second = refl; third = refl; fourth = refl }
passed true true true false e = absurd (omega (arith, e))
passed true true false d e = absurd (omega (arith, e))
passed true false c d e = absurd (omega (arith, e))
passed false b c d e = absurd (omega (arith, e))

-- the class that a given one means, at a place
meant_at : (gs : List Given) (i : ℕ) → class_at (map class_meant gs) i ≡ class_meant (given_in gs i)
unfolding class_meant constant_from
meant_at gs i = get_or-map class_meant gs i (record { flavour = 0; value = 0; members = [] })

meant_filled : (gs : List Given) (i : ℕ) → 0 < length (given_in gs i).members → 0 < length (class_meant (given_in gs i)).members
unfolding class_meant
meant_filled gs i l = l

meant_among : (gs : List Given) (i x : ℕ) → among x (class_at (map class_meant gs) i).members ≡ true → among x (given_in gs i).members ≡ true
unfolding class_meant
meant_among gs i x h = subst (λ (c : Class). among x c.members ≡ true) (meant_at gs i) h

meant_uniform : (gs : List Given) (i : ℕ) → is_uniform (constant_from (given_in gs i).flavour (given_in gs i).value) ≡ true → is_uniform (class_meant (given_in gs i)).constant ≡ true
unfolding class_meant
meant_uniform gs i h = h

is-literal : (v : ℕ) → is_literal (literal v) ≡ true
unfolding is_literal
is-literal v = refl

same-given : (gs hs : List Given) → ◌≡◌ {A = Option (List Given)} (Some gs) (Some hs) → gs ≡ hs
same-given gs hs e = cc

module _ (cells : List ℕ) (gs : List Given) (e : given_number cells gs ≡ 0) where
  tests : Passed (flavours_known gs) (lawful cells && (classes_filled gs && members_apart gs && literals_uniform (nodes cells) gs)) (members_known (nodes cells) gs) (leb (length gs) 64 && leb (length (members_given gs)) 256)
  unfolding given_number
  tests = passed (flavours_known gs) (lawful cells && (classes_filled gs && members_apart gs && literals_uniform (nodes cells) gs)) (members_known (nodes cells) gs) (leb (length gs) 64 && leb (length (members_given gs)) 256) e

  arena-lawful : lawful cells ≡ true
  arena-lawful = and_left (lawful cells) (classes_filled gs && members_apart gs && literals_uniform (nodes cells) gs) tests.second

  rule : (classes_filled gs && members_apart gs && literals_uniform (nodes cells) gs) ≡ true
  rule = and_right (lawful cells) (classes_filled gs && members_apart gs && literals_uniform (nodes cells) gs) tests.second

  filled : classes_filled gs ≡ true
  filled = and_left (classes_filled gs) (members_apart gs) (and_left (classes_filled gs && members_apart gs) (literals_uniform (nodes cells) gs) rule)

  apart : members_apart gs ≡ true
  apart = and_right (classes_filled gs) (members_apart gs) (and_left (classes_filled gs && members_apart gs) (literals_uniform (nodes cells) gs) rule)

  uniform : literals_uniform (nodes cells) gs ≡ true
  uniform = and_right (classes_filled gs && members_apart gs) (literals_uniform (nodes cells) gs) rule

  members-distinct : Distinct (members_given gs)
  unfolding members_apart fresh
  members-distinct = record {
    apart = λ i j l b q.
        let f : each (λ i. not (eqb (get_or (members_given gs) i 0) (get_or (members_given gs) j 0))) j ≡ true = each_holds (λ k. fresh (members_given gs) k) (length (members_given gs)) j apart b in
        let t : not (eqb (get_or (members_given gs) i 0) (get_or (members_given gs) j 0)) ≡ true = each_holds (λ i. not (eqb (get_or (members_given gs) i 0) (get_or (members_given gs) j 0))) j i f l in
        eqb-false (get_or (members_given gs) i 0) (get_or (members_given gs) j 0) (not-true (eqb (get_or (members_given gs) i 0) (get_or (members_given gs) j 0)) t) q;
  }

  class-filled : (i : ℕ) → i < length gs → 0 < length (given_in gs i).members
  unfolding classes_filled
  class-filled i l = ltb-true 0 (length (given_in gs i).members) (each_holds (λ j. ltb 0 (length (given_in gs j).members)) (length gs) i filled l)

  class-known : (i : ℕ) → i < length gs → known_flavour (given_in gs i).flavour (given_in gs i).value ≡ true
  unfolding flavours_known
  class-known i l = each_holds (λ j. known_flavour (given_in gs j).flavour (given_in gs j).value) (length gs) i tests.first l

  member-inside : (x : ℕ) → among x (members_given gs) ≡ true → x < length (nodes cells)
  unfolding members_known
  member-inside x h =
      let p = among-place x (members_given gs) h in
      subst (λ (y : ℕ). y < length (nodes cells)) p.2
      (ltb-true (get_or (members_given gs) p.0 0) (length (nodes cells)) (each_holds (λ k. ltb (get_or (members_given gs) k 0) (length (nodes cells))) (length (members_given gs)) p.0 tests.third p.1))

  -- a literal in the arena stands in a class of a flavour of at least 2
  literal-high : (i k : ℕ) → i < length gs → k < length (given_in gs i).members → get_or (given_in gs i).members k 0 < length (nodes cells) → is_literal (node_at (nodes cells) (get_or (given_in gs i).members k 0)) ≡ true → 2 ≤ (given_in gs i).flavour
  unfolding literals_uniform
  literal-high i k l b n h =
      let x : ℕ = get_or (given_in gs i).members k 0 in
      let all : each (λ k. not (ltb (get_or (given_in gs i).members k 0) (length (nodes cells)) && is_literal (node_at (nodes cells) (get_or (given_in gs i).members k 0))) || leb 2 (given_in gs i).flavour) (length (given_in gs i).members) ≡ true =
      each_holds (λ j. each (λ k. not (ltb (get_or (given_in gs j).members k 0) (length (nodes cells)) && is_literal (node_at (nodes cells) (get_or (given_in gs j).members k 0))) || leb 2 (given_in gs j).flavour) (length (given_in gs j).members)) (length gs) i uniform l in
      let one : (not (ltb (get_or (given_in gs i).members k 0) (length (nodes cells)) && is_literal (node_at (nodes cells) (get_or (given_in gs i).members k 0))) || leb 2 (given_in gs i).flavour) ≡ true =
      each_holds (λ k. not (ltb (get_or (given_in gs i).members k 0) (length (nodes cells)) && is_literal (node_at (nodes cells) (get_or (given_in gs i).members k 0))) || leb 2 (given_in gs i).flavour) (length (given_in gs i).members) k all b in
      leb-true 2 (given_in gs i).flavour
      (rw (lt-ltb (get_or (given_in gs i).members k 0) (length (nodes cells)) n, h) at one)

  -- the classes of such a record are a group
  given-fit : Fit (nodes cells) 256 (map class_meant gs)
  given-fit =
      record {
        low = omega arith;
        high = omega arith;
        few = omega (arith, length-map gs class_meant, leb-true (length gs) 64 (and_left (leb (length gs) 64) (leb (length (members_given gs)) 256) tests.fourth));
        within = omega (arith, length-flat (map class_meant gs), leb-true (length (members_given gs)) 256 (and_right (leb (length gs) 64) (leb (length (members_given gs)) 256) tests.fourth));
        good = given-good;
      }
    where
      inside_of : (i : ℕ) → i < length (map class_meant gs) → i < length gs
      inside_of i l = omega (arith, l, length-map gs class_meant)

      given-good : Good (nodes cells) (map class_meant gs)
      given-good = record { distinct = members-distinct; filled = good-filled; uniform = good-uniform; inside = member-inside }
        where
          good-filled : (i : ℕ) → i < length (map class_meant gs) → 0 < length (class_at (map class_meant gs) i).members
          good-filled i l = subst (λ (c : Class). 0 < length c.members) (sym (meant_at gs i)) (meant_filled gs i (class-filled i (inside_of i l)))

          good-uniform : (i x v : ℕ) → i < length (map class_meant gs) → among x (class_at (map class_meant gs) i).members ≡ true → node_at (nodes cells) x ≡ literal v → is_uniform (class_at (map class_meant gs) i).constant ≡ true
          good-uniform i x v l h q =
              let b : i < length gs = inside_of i l in
              let inside : x < length (nodes cells) = member-inside x (class-flat (map class_meant gs) x i l h) in
              let p = among-place x (given_in gs i).members (meant_among gs i x h) in
              let n : get_or (given_in gs i).members p.0 0 < length (nodes cells) = subst (λ (y : ℕ). y < length (nodes cells)) (sym p.2) inside in
              let lit : is_literal (node_at (nodes cells) (get_or (given_in gs i).members p.0 0)) ≡ true = ap (λ (y : ℕ). is_literal (node_at (nodes cells) y)) p.2 ∙ ap is_literal q ∙ is-literal v in
              subst (λ (c : Class). is_uniform c.constant ≡ true) (sym (meant_at gs i)) (meant_uniform gs i (flavour-uniform (given_in gs i).flavour (given_in gs i).value (class-known i b) (literal-high i p.0 b p.1 n lit)))

-- what a number of 0 says of a record that was read
pub record Read (cells bytes : List ℕ) : Type 0 where
  pub gs : List Given
  pub given : group_given bytes ≡ Some gs
  pub number : given_number cells gs ≡ 0
  pub is : group_read cells bytes ≡ record { answer = Ok true; group = encode 256 (map class_meant gs) }

-- the number of what was given stands in the table
pub given-listed : (cells : List ℕ) (gs : List Given) → Listed (given_number cells gs)
unfolding given_number outcome refusal
given-listed cells gs =
    listed-if (flavours_known gs) _ 12
    (listed-if (lawful cells && (classes_filled gs && members_apart gs && literals_uniform (nodes cells) gs)) _ 11
    (listed-if (members_known (nodes cells) gs) _ 1 (listed-if (leb (length gs) 64 && leb (length (members_given gs)) 256) 0 4 refl refl) refl) refl) refl

module _ (cells bytes : List ℕ) (z : changed_number (group_read cells bytes) ≡ 0) where
  pub read : Read cells bytes
  unfolding group_of no_group refusal
  read = at (group_given bytes) refl z
    where
      in_tests : (gs : List Given) → group_given bytes ≡ Some gs → (b : Bool) → eqb (given_number cells gs) 0 ≡ b
          → changed_number (if b then record { answer = Ok true; group = encode 256 (map class_meant gs) } else no_group (given_number cells gs)) ≡ 0 → Read cells bytes
      in_tests gs p true q s =
          record {
            gs = gs;
            given = p;
            number = eqb-true (given_number cells gs) 0 q;
            is = ap (group_of cells) p ∙ rw q;
          }
      in_tests gs p false q s = absurd (eqb-false (given_number cells gs) 0 q (sym (refused-number (given_number cells gs) (given-listed cells gs) q) ∙ s))

      at : (o : Option (List Given)) → group_given bytes ≡ o → changed_number (group_of cells o) ≡ 0 → Read cells bytes
      at None p s = absurd (omega (arith, s))
      at (Some gs) p s = in_tests gs p (eqb (given_number cells gs) 0) refl s

  -- a group that was read passes the check of every call that takes a group
  pub read_group-checked : group_number cells (group_read cells bytes).group ≡ 0
  read_group-checked =
      ap (λ (r : Changed). group_number cells r.group) read.is
      ∙ held_number cells (arena-lawful cells read.gs read.number) 256 (map class_meant read.gs) (given-fit cells read.gs read.number)

  -- its limit is 256
  pub read_group-limit : (group_read cells bytes).group.limit ≡ 256
  read_group-limit = built-limit 256 (map class_meant read.gs) (group_read cells bytes).group (ap (λ (r : Changed). r.group) read.is)

  -- its classes are those of the record, in the record's order
  pub read_group-classes : (gs : List Given) → group_given bytes ≡ Some gs → decode (group_read cells bytes).group ≡ map class_meant gs
  read_group-classes gs p =
      ap (λ (r : Changed). decode r.group) read.is
      ∙ decode-encode 256 (map class_meant read.gs)
      ∙ ap (map class_meant) (same-given read.gs gs (sym read.given ∙ p))

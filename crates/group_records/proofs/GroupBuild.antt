-- The group that a record comes to, by each test that the reader makes.
use Rattle.std.specs.Prelude.{if◌then◌else◌, Option, None, Some, Ok}
use Prim.Native.Nat.{ℕ, ◌<◌, ◌≤◌}
use mathlib.Core.Bool.{Bool, true, false, ◌&&◌}
use mathlib.Core.List.{List, map}
use mathlib.Core.Path.{◌≡◌, refl, sym, ap, ◌∙◌}
use borrow.Author.Tests.{le-leb, lt-leb}
use lib.Dec.{eqb, ltb, leb}
use lib.ListN.{length, get_or}
use Rattle.laws.specs.Tests.{each}
use Rattle.laws.proofs.Booleans.{true_not_false, and_fails_left, and_fails_right, and_both}
use Rattle.arena.specs.Layout.{lawful, count, decode as nodes}
use Rattle.arena.proofs.Layouts.{length-decode}
use Rattle.classes.specs.Layout.{encode, padded, fresh}
use Rattle.classes.specs.declared.Group.{Group}
use Rattle.classes.specs.declared.Changed.{Changed}
use Rattle.classes.proofs.Places.{length-flat}
pub use Rattle.records.proofs.Choices.{group-whole}
use Rattle.records.specs.Record.{body_of}
use Rattle.records.specs.Chosen.{is_group_record}
use Rattle.group_records.specs.GroupRecord.{Given, body_given, group_given, class_meant, flavours_known, classes_filled, members_given, members_apart, literals_uniform, members_known, given_number, no_group, group_of, group_read}
use Rattle.group_records.specs.Inner.{is_given, given_of, Shaped, Listed, columns_of, built_of}

-- too many classes, too many members
pub built-classes : (gs : List Given) → 64 < length gs → no_group 4 ≡ built_of gs
unfolding built_of
built-classes gs l = rw (and_fails_left (leb (length gs) 64) (leb (length (members_given gs)) 256) (lt-leb (length gs) 64 l))

pub built-members : (gs : List Given) → 256 < length (members_given gs) → no_group 4 ≡ built_of gs
unfolding built_of
built-members gs l = rw (and_fails_right (leb (length gs) 64) (leb (length (members_given gs)) 256) (lt-leb (length (members_given gs)) 256 l))

-- the columns with the members
filled_is : (gs : List Given) (g : Group) (ms numbers : List ℕ) → numbers ≡ members_given gs → g ≡ columns_of gs → ms ≡ padded 256 numbers
    → record { limit = g.limit; count = g.count; used = length numbers; sizes = g.sizes; flavours = g.flavours; values = g.values; members = ms } ≡ encode 256 (map class_meant gs)
unfolding columns_of encode
filled_is gs g ms numbers q e p =
    λ i. record {
      limit = ap (λ (x : Group). x.limit) e i;
      count = ap (λ (x : Group). x.count) e i;
      used = (ap length q ∙ length-flat (map class_meant gs)) i;
      sizes = ap (λ (x : Group). x.sizes) e i;
      flavours = ap (λ (x : Group). x.flavours) e i;
      values = ap (λ (x : Group). x.values) e i;
      members = (p ∙ ap (padded 256) q) i;
    }

pub built-is : (gs : List Given) (g : Group) (ms numbers : List ℕ) → length gs ≤ 64 → length numbers ≤ 256 → numbers ≡ members_given gs → g ≡ columns_of gs → ms ≡ padded 256 numbers
    → record { answer = Ok true; group = record { limit = g.limit; count = g.count; used = length numbers; sizes = g.sizes; flavours = g.flavours; values = g.values; members = ms } } ≡ built_of gs
unfolding built_of
built-is gs g ms numbers a b q e p =
    let few : leb (length gs) 64 ≡ true = le-leb (length gs) 64 a in
    let small : leb (length (members_given gs)) 256 ≡ true = ap (λ (x : List ℕ). leb (length x) 256) (sym q) ∙ le-leb (length numbers) 256 b in
    rw (few, small) (ap (λ (x : Group). record { answer = Ok true; group = x }) (filled_is gs g ms numbers q e p))

-- the tests in their order, over classes that could be read
abbrev Eleven : List ℕ → List Given → Bool
Eleven cells gs = lawful cells && (classes_filled gs && members_apart gs && literals_uniform (nodes cells) gs)

module _ (cells : List ℕ) (gs : List Given) where
  read-12 : flavours_known gs ≡ false → no_group 12 ≡ group_of cells (Some gs)
  unfolding group_of given_number
  read-12 p = rw p

  read-11 : flavours_known gs ≡ true → Eleven cells gs ≡ false → no_group 11 ≡ group_of cells (Some gs)
  unfolding group_of given_number
  read-11 p q = rw (p, q)

  read-1 : flavours_known gs ≡ true → Eleven cells gs ≡ true → members_known (nodes cells) gs ≡ false → no_group 1 ≡ group_of cells (Some gs)
  unfolding group_of given_number
  read-1 p q r = rw (p, q, r)

  read-built : flavours_known gs ≡ true → Eleven cells gs ≡ true → members_known (nodes cells) gs ≡ true → built_of gs ≡ group_of cells (Some gs)
  unfolding group_of given_number built_of
  read-built p q r = rw (p, q, r) (at (leb (length gs) 64 && leb (length (members_given gs)) 256))
    where
      at : (b : Bool) → ◌≡◌ {A = Changed} (if b then record { answer = Ok true; group = encode 256 (map class_meant gs) } else no_group 4)
          (if eqb (if b then 0 else 4) 0 then record { answer = Ok true; group = encode 256 (map class_meant gs) } else no_group (if b then 0 else 4))
      at true = refl
      at false = refl

-- what stands for each return of the reader of classes
module _ (cells body : List ℕ) (s : Shaped body) (r : Changed) where
  carry : r ≡ group_of cells (Some (given_of body)) → r ≡ group_of cells (body_given body)
  carry e = e ∙ ap (group_of cells) (sym s.is)

  pub refuse_flavour : r ≡ no_group 12 → flavours_known (given_of body) ≡ false → r ≡ group_of cells (body_given body)
  refuse_flavour e p = carry (e ∙ read-12 cells (given_of body) p)

  module _ (p : flavours_known (given_of body) ≡ true) where
    pub refuse_arena : r ≡ no_group 11 → lawful cells ≡ false → r ≡ group_of cells (body_given body)
    refuse_arena e a = carry (e ∙ read-11 cells (given_of body) p (and_fails_left (lawful cells) (classes_filled (given_of body) && members_apart (given_of body) && literals_uniform (nodes cells) (given_of body)) a))

    pub refuse_empty : r ≡ no_group 11 → classes_filled (given_of body) ≡ false → r ≡ group_of cells (body_given body)
    refuse_empty e a =
        carry (e ∙ read-11 cells (given_of body) p (and_fails_right (lawful cells) (classes_filled (given_of body) && members_apart (given_of body) && literals_uniform (nodes cells) (given_of body)) (and_fails_left (classes_filled (given_of body) && members_apart (given_of body)) (literals_uniform (nodes cells) (given_of body)) (and_fails_left (classes_filled (given_of body)) (members_apart (given_of body)) a))))

    pub refuse_twice : r ≡ no_group 11 → members_apart (given_of body) ≡ false → r ≡ group_of cells (body_given body)
    refuse_twice e a =
        carry (e ∙ read-11 cells (given_of body) p (and_fails_right (lawful cells) (classes_filled (given_of body) && members_apart (given_of body) && literals_uniform (nodes cells) (given_of body)) (and_fails_left (classes_filled (given_of body) && members_apart (given_of body)) (literals_uniform (nodes cells) (given_of body)) (and_fails_right (classes_filled (given_of body)) (members_apart (given_of body)) a))))

    pub refuse_literal : r ≡ no_group 11 → literals_uniform (nodes cells) (given_of body) ≡ false → r ≡ group_of cells (body_given body)
    refuse_literal e a =
        carry (e ∙ read-11 cells (given_of body) p (and_fails_right (lawful cells) (classes_filled (given_of body) && members_apart (given_of body) && literals_uniform (nodes cells) (given_of body)) (and_fails_right (classes_filled (given_of body) && members_apart (given_of body)) (literals_uniform (nodes cells) (given_of body)) a)))

    module _ (a : lawful cells ≡ true) (f : classes_filled (given_of body) ≡ true) (d : members_apart (given_of body) ≡ true) (u : literals_uniform (nodes cells) (given_of body) ≡ true) where
      eleven : Eleven cells (given_of body) ≡ true
      eleven = and_both a (and_both (and_both f d) u)

      pub refuse_unknown : r ≡ no_group 1 → members_known (nodes cells) (given_of body) ≡ false → r ≡ group_of cells (body_given body)
      refuse_unknown e m = carry (e ∙ read-1 cells (given_of body) p eleven m)

      pub built-read : r ≡ built_of (given_of body) → members_known (nodes cells) (given_of body) ≡ true → r ≡ group_of cells (body_given body)
      built-read e m = carry (e ∙ read-built cells (given_of body) p eleven m)

-- the tests of the members, over a list of these
module _ (cells body numbers : List ℕ) (h : Listed cells body numbers) where
  pub apart-is : each (λ k. fresh numbers k) (length numbers) ≡ members_apart (given_of body)
  unfolding members_apart
  apart-is = ap (λ (ms : List ℕ). each (λ k. fresh ms k) (length ms)) h.members

  pub known_is : (n : ℕ) → n ≡ count cells → each (λ k. ltb (get_or numbers k 0) n) (length numbers) ≡ members_known (nodes cells) (given_of body)
  unfolding members_known
  known_is n e =
      ap (λ (m : ℕ). each (λ k. ltb (get_or numbers k 0) m) (length numbers)) (e ∙ sym (length-decode cells))
      ∙ ap (λ (ms : List ℕ). each (λ k. ltb (get_or ms k 0) (length (nodes cells))) (length ms)) h.members

-- and of the reader of a record
module _ (cells bytes : List ℕ) where
  pub not-group : is_group_record bytes ≡ false → no_group 9 ≡ group_read cells bytes
  unfolding is_group_record group_given group_of
  not-group p = rw p

  pub group_body_lem : is_group_record bytes ≡ true → group_of cells (body_given (body_of bytes)) ≡ group_read cells bytes
  unfolding is_group_record group_given
  group_body_lem p = rw p

  pub not-shaped : is_group_record bytes ≡ true → is_given (body_given (body_of bytes)) ≡ false → no_group 9 ≡ group_read cells bytes
  unfolding is_given group_of
  not-shaped p q = at (body_given (body_of bytes)) q ∙ group_body_lem p
    where
      at : (o : Option (List Given)) → is_given o ≡ false → no_group 9 ≡ group_of cells o
      at None e = refl
      at (Some gs) e = absurd (true_not_false refl e)

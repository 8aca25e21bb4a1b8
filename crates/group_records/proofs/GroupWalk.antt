-- A walk over the classes of a body: where it starts, what stands at its place, where it goes on, where it ends.
use Rattle.std.specs.Prelude.{if◌then◌else◌, Option, None, Some}
use Prim.Native.Nat.{ℕ, zero, suc, ◌+◌, ◌-◌, ◌*◌, ◌<◌, ◌≤◌}
use mathlib.Core.Bool.{Bool, true, false, not, ◌&&◌, ◌||◌}
use mathlib.Core.List.{List, [], ◌∷◌}
use mathlib.Core.Path.{◌≡◌, refl, sym, ap, ap₂, ◌∙◌}
use native.Mathlib.Nat.{sub-zero}
use native.Mathlib.Omega.{arith}
use borrow.Author.Tests.{leb-true, eqb-true}
use lib.Dec.{eqb, ltb, leb}
use lib.ListN.{length, get_or, drop, length-drop}
use lib.Seq.{get_or-drop, drop-drop}
use Rattle.laws.specs.Tests.{each}
use Rattle.laws.proofs.Booleans.{and_left, and_right}
use Rattle.laws.proofs.Table.{get_or-table, table_cong}
use Rattle.arena.specs.Node.{Node, node_at}
use Rattle.classes.specs.Layout.{known_flavour, is_literal}
pub use Rattle.records.proofs.Items.{length_fields}
use Rattle.records.specs.Fields.{field, wide_field, fields}
use Rattle.group_records.specs.GroupRecord.{Given, given_at, given_size, with_given, classes_given, body_given, given_in}
use Rattle.group_records.specs.Inner.{given_of, Shaped, Before}

-- a number in what is left of some bytes is one of the bytes
pub field-drop : (at k : ℕ) (body : List ℕ) → field (drop at body) k ≡ field body (at + k)
unfolding field
field-drop at k body =
    let e : at + (k + 1) ≡ at + k + 1 = omega arith in
    rw (get_or-drop at body k 0, get_or-drop at body (k + 1) 0, e)

pub wide-drop : (at k : ℕ) (body : List ℕ) → wide_field (drop at body) k ≡ wide_field body (at + k)
unfolding wide_field
wide-drop at k body =
    let e : at + (k + 2) ≡ at + k + 2 = omega arith in
    rw (field-drop at k body, field-drop at (k + 2) body, e)

pub fields-drop : (at k n : ℕ) (body : List ℕ) → fields (drop at body) k n ≡ fields body (at + k) n
unfolding fields
fields-drop at k n body =
    table_cong (λ i. field (drop at body) (k + 2 * i)) (λ i. field body (at + k + 2 * i)) n
    (λ i l. let e : at + (k + 2 * i) ≡ at + k + 2 * i = omega arith in field-drop at (k + 2 * i) body ∙ ap (field body) e)

-- an answer that is there is no missing one
some-none : {A : Type 0} {x : A} → ◌≡◌ {A = Option A} None (Some x) → ⊥
some-none e = let z : ◌≡◌ {A = ℕ} 0 1 = cc in omega arith

-- what it says that a class and n more could be read
record Opened (n : ℕ) (bytes : List ℕ) (gs : List Given) : Type 0 where
  long : 8 ≤ length bytes
  whole : given_size bytes ≤ length bytes
  rest : List Given
  is : gs ≡ given_at bytes ∷ rest
  next : classes_given n (drop (given_size bytes) bytes) ≡ Some rest

opened : (n : ℕ) (bytes : List ℕ) (gs : List Given) → classes_given (suc n) bytes ≡ Some gs → Opened n bytes gs
unfolding classes_given with_given
opened n bytes gs e = at (leb 8 (length bytes) && leb (given_size bytes) (length bytes)) refl e
  where
    in_rest : (leb 8 (length bytes) && leb (given_size bytes) (length bytes)) ≡ true → (o : Option (List Given)) → classes_given n (drop (given_size bytes) bytes) ≡ o → with_given (given_at bytes) o ≡ Some gs → Opened n bytes gs
    in_rest q None p s = absurd (some-none s)
    in_rest q (Some hs) p s =
        record {
          long = leb-true 8 (length bytes) (and_left (leb 8 (length bytes)) (leb (given_size bytes) (length bytes)) q);
          whole = leb-true (given_size bytes) (length bytes) (and_right (leb 8 (length bytes)) (leb (given_size bytes) (length bytes)) q);
          rest = hs;
          is = sym (let i : (given_at bytes ∷ hs) ≡ gs = cc in i);
          next = p;
        }

    at : (b : Bool) → (leb 8 (length bytes) && leb (given_size bytes) (length bytes)) ≡ b → (if b then with_given (given_at bytes) (classes_given n (drop (given_size bytes) bytes)) else None) ≡ Some gs → Opened n bytes gs
    at true q s = in_rest q (classes_given n (drop (given_size bytes) bytes)) refl s
    at false q s = absurd (some-none s)

-- there are as many classes as were asked for
pub given-length : (n : ℕ) (bytes : List ℕ) (gs : List Given) → classes_given n bytes ≡ Some gs → length gs ≡ n
unfolding classes_given
given-length zero bytes gs e = at (eqb (length bytes) 0) e
  where
    at : (b : Bool) → (if b then Some [] else None) ≡ Some gs → length gs ≡ 0
    at true s = let i : [] ≡ gs = cc in rw (sym i)
    at false s = absurd (some-none s)
given-length (suc n) bytes gs e =
    let o = opened n bytes gs e in
    rw o.is (ap (λ (k : ℕ). suc k) (given-length n (drop (given_size bytes) bytes) o.rest o.next))

-- nothing is left after the last
pub given_end : (bytes : List ℕ) (gs : List Given) → classes_given 0 bytes ≡ Some gs → length bytes ≡ 0
unfolding classes_given
given_end bytes gs e = at (eqb (length bytes) 0) refl e
  where
    at : (b : Bool) → eqb (length bytes) 0 ≡ b → (if b then Some [] else None) ≡ Some gs → length bytes ≡ 0
    at true q s = eqb-true (length bytes) 0 q
    at false q s = absurd (some-none s)

-- the bytes of a body that could be read start with its number of classes
record Body (body : List ℕ) : Type 0 where
  long : 2 ≤ length body
  rest : classes_given (field body 0) (drop 2 body) ≡ Some (given_of body)

module _ (body : List ℕ) (s : Shaped body) where
  body_is : Body body
  unfolding body_given
  body_is = at (leb 2 (length body)) refl s.is
    where
      at : (b : Bool) → leb 2 (length body) ≡ b → (if b then classes_given (field body 0) (drop 2 body) else None) ≡ Some (given_of body) → Body body
      at true q e = record { long = leb-true 2 (length body) q; rest = e }
      at false q e = absurd (some-none e)

  pub body_long : 2 ≤ length body
  body_long = body_is.long

  pub class-number : field body 0 ≡ length (given_of body)
  class-number = sym (given-length (field body 0) (drop 2 body) (given_of body) body_is.rest)

  -- the walk starts after the number of classes
  pub before-start : Before body 0 2
  before-start =
      record {
        below = omega arith;
        place = body_long;
        rest = rw (sub-zero, ← class-number) body_is.rest;
      }

-- what stands at the place of a walk, and where it goes on
pub record Turn (body : List ℕ) (j at : ℕ) : Type 0 where
  pub head : at + 8 ≤ length body
  pub whole : at + 8 + 2 * field body (at + 6) ≤ length body
  pub flavour : (given_in (given_of body) j).flavour ≡ field body at
  pub value : (given_in (given_of body) j).value ≡ wide_field body (at + 2)
  pub members : (given_in (given_of body) j).members ≡ fields body (at + 8) (field body (at + 6))
  pub size : length (given_in (given_of body) j).members ≡ field body (at + 6)
  pub next : Before body (j + 1) (at + (8 + 2 * field body (at + 6)))

module _ (body : List ℕ) (j at : ℕ) (b : Before body j at) (l : j < length (given_of body)) where
  abbrev bytes : List ℕ
  bytes = drop at body

  abbrev gs : List Given
  gs = given_of body

  here : Opened (length gs - (j + 1)) bytes (drop j gs)
  here =
      let e : length gs - j ≡ suc (length gs - (j + 1)) = omega arith in
      opened (length gs - (j + 1)) bytes (drop j gs) (rw (← e) b.rest)

  first-is : given_in gs j ≡ given_at bytes
  first-is =
      let e : j ≡ j + 0 = omega arith in
      ap (λ (i : ℕ). given_in gs i) e ∙ sym (get_or-drop j gs 0 (record { flavour = 0; value = 0; members = [] })) ∙ ap (λ (hs : List Given). given_in hs 0) here.is

  rest-is : drop (j + 1) gs ≡ here.rest
  rest-is = sym (drop-drop 1 j gs) ∙ ap (drop 1) here.is

  pub turn : Turn body j at
  unfolding given_at given_size
  turn =
      let six : field bytes 6 ≡ field body (at + 6) = field-drop at 6 body in
      let e0 : at + 0 ≡ at = omega arith in
      let m : (given_in gs j).members ≡ fields body (at + 8) (field body (at + 6)) = ap (λ (g : Given). g.members) first-is ∙ fields-drop at 8 (field bytes 6) body ∙ ap (fields body (at + 8)) six in
      let w : given_size bytes ≤ length bytes = here.whole in
      record {
        head = omega (arith, here.long, length-drop at body);
        whole = omega (arith, here.long, w, six, length-drop at body);
        flavour = ap (λ (g : Given). g.flavour) first-is ∙ field-drop at 0 body ∙ ap (field body) e0;
        value = ap (λ (g : Given). g.value) first-is ∙ wide-drop at 2 body;
        members = m;
        size = ap length m ∙ length_fields body (at + 8) (field body (at + 6));
        next =
            record {
              below = omega arith;
              place = omega (arith, here.long, w, six, length-drop at body);
              rest = rw (rest-is, ← six, ← drop-drop (given_size bytes) at body) here.next;
            };
      }

-- the end of the walk is the end of the body
pub walk_end : (body : List ℕ) (j at : ℕ) → Before body j at → length (given_of body) ≤ j → at ≡ length body
walk_end body j at b l =
    let e : length (given_of body) - j ≡ 0 = omega arith in
    let z : length (drop at body) ≡ 0 = given_end (drop at body) (drop j (given_of body)) (rw (← e) b.rest) in
    omega (arith, z, length-drop at body, b.place)

-- a member of a class by its place
pub at_fields : (body : List ℕ) (at n k : ℕ) → k < n → get_or (fields body at n) k 0 ≡ field body (at + 2 * k)
unfolding fields
at_fields body at n k l = get_or-table (λ i. field body (at + 2 * i)) n k 0 l

-- the tests of a class, in the words of what was read at its place
abbrev pub Known : List ℕ → ℕ → Bool
Known body j = known_flavour (given_in (given_of body) j).flavour (given_in (given_of body) j).value

abbrev pub Filled : List ℕ → ℕ → Bool
Filled body j = ltb 0 (length (given_in (given_of body) j).members)

-- a member may stand in a class of a flavour
abbrev pub Fits : List Node → List ℕ → ℕ → ℕ → Bool
Fits ns ms f k = not (ltb (get_or ms k 0) (length ns) && is_literal (node_at ns (get_or ms k 0))) || leb 2 f

abbrev pub Uniform : List Node → List ℕ → ℕ → Bool
Uniform ns body j = each (Fits ns (given_in (given_of body) j).members (given_in (given_of body) j).flavour) (length (given_in (given_of body) j).members)

module _ (body : List ℕ) (j at : ℕ) (t : Turn body j at) where
  pub known_at : (f v : ℕ) → f ≡ field body at → v ≡ wide_field body (at + 2) → Known body j ≡ known_flavour f v
  known_at f v p q = ap₂ {C = Bool} known_flavour (t.flavour ∙ sym p) (t.value ∙ sym q)

  pub filled_at_lem : (m : ℕ) → m ≡ field body (at + 6) → Filled body j ≡ ltb 0 m
  filled_at_lem m p = ap (λ (k : ℕ). ltb 0 k) (t.size ∙ sym p)

  pub uniform-at : (ns : List Node) (f m : ℕ) → f ≡ field body at → m ≡ field body (at + 6) → Uniform ns body j ≡ each (Fits ns (fields body (at + 8) m) f) m
  uniform-at ns f m p q =
      ap₂ {C = Bool} (λ (g : ℕ) (ms : List ℕ). each (Fits ns ms g) (length ms)) (t.flavour ∙ sym p) (t.members ∙ ap (fields body (at + 8)) (sym q))
      ∙ ap (each (Fits ns (fields body (at + 8) m) f)) (length_fields body (at + 8) m)

-- a member that was read may stand in a class of a flavour
pub fits-at : (ns : List Node) (body : List ℕ) (at m f k e : ℕ) → k < m → e ≡ field body (at + 2 * k) → Fits ns (fields body at m) f k ≡ (not (ltb e (length ns) && is_literal (node_at ns e)) || leb 2 f)
fits-at ns body at m f k e l q =
    ap (λ (x : ℕ). not (ltb x (length ns) && is_literal (node_at ns x)) || leb 2 f) (at_fields body at m k l ∙ sym q)

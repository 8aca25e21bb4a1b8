-- The check of a lent group: what passes it is the layout of a good group, and the layout of a good group passes it.
use Rattle.std.specs.Prelude.{if◌then◌else◌}
use Prim.Native.Nat.{ℕ, ◌+◌, ◌-◌, ◌<◌, ◌≤◌}
use mathlib.Core.Bool.{Bool, true, false, not, ◌&&◌, ◌||◌}
use mathlib.Core.List.{List, map}
use mathlib.Core.Path.{◌≡◌, refl, sym, ap, ◌∙◌, subst}
use native.Mathlib.Decide.{dec_lt}
use native.Mathlib.Omega.{arith}
use borrow.Author.Tests.{eqb-true, eq-eqb, ne_eqb, ltb-true, lt-ltb, leb-true, le-leb, not-true}
use lib.Dec.{eqb, ltb, leb}
use lib.ListN.{length, get_or, take, length-map, get_or-eq_default, get_or-map}
use Rattle.laws.specs.Tests.{each}
use Rattle.laws.proofs.Booleans.{true_not_false, and_left, and_right, and_both}
use Rattle.laws.proofs.Each.{each_all, each_holds}
use Rattle.arena.specs.Node.{Node, column, literal, operation, node_at}
use Rattle.arena.specs.Layout.{lawful, decode as nodes}
use Rattle.classes.specs.Class.{Class, is_uniform}
use Rattle.classes.specs.Group.{among, class_at, total}
use Rattle.classes.specs.Good.{flat, Good}
use Rattle.classes.specs.Layout.{flavour_of, value_of, padded, encode, sum_to, class_in, decode, known_flavour, in_set, fresh, is_literal, uniform_at, unused_from, lawful_counts, lawful_group, members_inside}
use Rattle.classes.specs.Calls.{group_number}
use Rattle.classes.specs.Inner.{Held}
use Rattle.classes.specs.declared.Group.{Group}
use Rattle.classes.proofs.Places.{nothing, among-place, get_or-among, length-flat}
use Rattle.classes.proofs.Numbers.{sum-holds}
use Rattle.classes.proofs.Marks.{flavour-known, flavour-back, value-back, flavour-uniform, uniform-flavour}
use Rattle.classes.proofs.Codec.{size-encode, flavour-encode, value-encode, flat-encode, member-encode, length-decode}
use Rattle.classes.proofs.GroupLayout.{padded-is, sum-total, sum-whole, flat-is, class-decode, length-class_in, member-class_in}

-- the places of a table from n on are 0
abbrev Unused : ℕ → ℕ → List ℕ → Type 0
Unused n room xs = (k : ℕ) → n ≤ k → k < room → get_or xs k 0 ≡ 0

unused-of : (n room : ℕ) (xs : List ℕ) → unused_from n room xs ≡ true → Unused n room xs
unfolding unused_from
unused-of n room xs h k a b =
    let e : n + (k - n) ≡ k = omega arith in
    rw e at (eqb-true (get_or xs (n + (k - n)) 0) 0 (each_holds (λ (i : ℕ). eqb (get_or xs (n + i) 0) 0) (room - n) (k - n) h (omega arith)))

of-unused : (n room : ℕ) (xs : List ℕ) → Unused n room xs → unused_from n room xs ≡ true
unfolding unused_from
of-unused n room xs u =
    each_all (λ (i : ℕ). eqb (get_or xs (n + i) 0) 0) (room - n) (λ i l. eq-eqb (get_or xs (n + i) 0) 0 (u (n + i) (omega arith) (omega arith)))

-- the member at place k of class j
abbrev member_of : Group → ℕ → ℕ → ℕ
member_of g j k = get_or g.members (sum_to g.sizes j + k) 0

-- a test that is asked only where another passes
pub then-of : (b t : Bool) → b ≡ true → (not b || t) ≡ true → t ≡ true
then-of true t p h = h
then-of false t p h = absurd (true_not_false p refl)

of-then : (b t : Bool) → (b ≡ true → t ≡ true) → (not b || t) ≡ true
of-then true t f = f refl
of-then false t f = refl

-- the parts of three and of four tests
three : (a b c : Bool) → (a && b && c) ≡ true → (a ≡ true) × (b ≡ true) × (c ≡ true)
three true b c e = (refl, and_left b c e, and_right b c e)
three false b c e = absurd (true_not_false e refl)

four : (a b c d : Bool) → (a && b && c && d) ≡ true → (a ≡ true) × (b ≡ true) × (c ≡ true) × (d ≡ true)
four true b c d e = let t = three b c d e in (refl, t.0, t.1, t.2)
four false b c d e = absurd (true_not_false e refl)

-- a number that stands nowhere before its place
fresh-of : (ms : List ℕ) (k : ℕ) → fresh ms k ≡ true → (i : ℕ) → i < k → get_or ms i 0 ≡ get_or ms k 0 → ⊥
unfolding fresh
fresh-of ms k h i l q =
    true_not_false (eq-eqb (get_or ms i 0) (get_or ms k 0) q)
    (not-true (eqb (get_or ms i 0) (get_or ms k 0)) (each_holds (λ (i : ℕ). not (eqb (get_or ms i 0) (get_or ms k 0))) k i h l))

of-fresh : (ms : List ℕ) (k : ℕ) → ((i : ℕ) → i < k → get_or ms i 0 ≡ get_or ms k 0 → ⊥) → fresh ms k ≡ true
unfolding fresh
of-fresh ms k h = each_all (λ (i : ℕ). not (eqb (get_or ms i 0) (get_or ms k 0))) k (λ i l. rw (ne_eqb (get_or ms i 0) (get_or ms k 0) (h i l)))

module _ (ns : List Node) (g : Group) where
  -- a member is a literal of the arena
  abbrev literal_at : ℕ → ℕ → Bool
  literal_at j k = ltb (member_of g j k) (length ns) && is_literal (node_at ns (member_of g j k))

  -- the flavour of class j is uniform where one of its members is a literal
  abbrev Uniform : ℕ → Type 0
  Uniform j = (k : ℕ) → k < get_or g.sizes j 0 → member_of g j k < length ns → is_literal (node_at ns (member_of g j k)) ≡ true → 2 ≤ get_or g.flavours j 0

  uniform-of : (j : ℕ) → uniform_at ns g j ≡ true → Uniform j
  unfolding uniform_at
  uniform-of j h k l b t =
      leb-true 2 (get_or g.flavours j 0)
      (then-of (literal_at j k) (leb 2 (get_or g.flavours j 0)) (and_both (lt-ltb (member_of g j k) (length ns) b) t)
      (each_holds (λ (k : ℕ). not (literal_at j k) || leb 2 (get_or g.flavours j 0)) (get_or g.sizes j 0) k h l))

  of-uniform : (j : ℕ) → Uniform j → uniform_at ns g j ≡ true
  unfolding uniform_at
  of-uniform j u =
      each_all (λ (k : ℕ). not (literal_at j k) || leb 2 (get_or g.flavours j 0)) (get_or g.sizes j 0)
      (λ k l. of-then (literal_at j k) (leb 2 (get_or g.flavours j 0))
      (λ t. le-leb 2 (get_or g.flavours j 0)
      (u k l (ltb-true (member_of g j k) (length ns) (and_left (ltb (member_of g j k) (length ns)) (is_literal (node_at ns (member_of g j k))) t))
      (and_right (ltb (member_of g j k) (length ns)) (is_literal (node_at ns (member_of g j k))) t))))

-- what the check of a group says, place by place
record Checked (ns : List Node) (g : Group) : Type 0 where
  low : 0 < g.limit
  high : g.limit ≤ 256
  known : (j : ℕ) → j < g.count → known_flavour (get_or g.flavours j 0) (get_or g.values j 0) ≡ true
  few : g.count ≤ 64
  within : g.used ≤ g.limit
  filled : (j : ℕ) → j < g.count → 0 < get_or g.sizes j 0
  sums : sum_to g.sizes g.count ≡ g.used
  apart : (i k : ℕ) → i < k → k < g.used → get_or g.members i 0 ≡ get_or g.members k 0 → ⊥
  uniform : (j : ℕ) → j < g.count → Uniform ns g j
  no_sizes : Unused g.count 64 g.sizes
  no_flavours : Unused g.count 64 g.flavours
  no_values : Unused g.count 64 g.values
  no_members : Unused g.used 256 g.members
  inside : (k : ℕ) → k < g.used → get_or g.members k 0 < length ns

-- the tests of the check, by their places
module _ (ns : List Node) (g : Group) where
  abbrev set_at : ℕ → Bool
  set_at j = not (ltb j g.count) || known_flavour (get_or g.flavours j 0) (get_or g.values j 0)

  abbrev filled_at : ℕ → Bool
  filled_at j = ltb 0 (get_or g.sizes j 0)

  abbrev fresh_at : ℕ → Bool
  fresh_at k = fresh g.members k

  abbrev uniform_in : ℕ → Bool
  uniform_in j = uniform_at ns g j

  abbrev inside_at : ℕ → Bool
  inside_at k = ltb (get_or g.members k 0) (length ns)

  -- a group that passes
  checked-of : in_set g ≡ true → lawful_group ns g ≡ true → members_inside ns g ≡ true → Checked ns g
  unfolding in_set lawful_group lawful_counts members_inside
  checked-of s w m =
      let a = three (ltb 0 g.limit) (leb g.limit 256) (each set_at 64) s in
      let b = four (lawful_counts g) (each fresh_at g.used) (each uniform_in g.count)
      (unused_from g.count 64 g.sizes && unused_from g.count 64 g.flavours && unused_from g.count 64 g.values && unused_from g.used 256 g.members) w in
      let c = four (leb g.count 64) (leb g.used g.limit) (each filled_at g.count) (eqb (sum_to g.sizes g.count) g.used) b.0 in
      let u = four (unused_from g.count 64 g.sizes) (unused_from g.count 64 g.flavours) (unused_from g.count 64 g.values) (unused_from g.used 256 g.members) b.3 in
      let few : g.count ≤ 64 = leb-true g.count 64 c.0 in
      record {
        low = ltb-true 0 g.limit a.0;
        high = leb-true g.limit 256 a.1;
        known = λ j l. then-of (ltb j g.count) (known_flavour (get_or g.flavours j 0) (get_or g.values j 0)) (lt-ltb j g.count l) (each_holds set_at 64 j a.2 (omega arith));
        few = few;
        within = leb-true g.used g.limit c.1;
        filled = λ j l. ltb-true 0 (get_or g.sizes j 0) (each_holds filled_at g.count j c.2 l);
        sums = eqb-true (sum_to g.sizes g.count) g.used c.3;
        apart = λ i k l b' q. fresh-of g.members k (each_holds fresh_at g.used k b.1 b') i l q;
        uniform = λ j l. uniform-of ns g j (each_holds uniform_in g.count j b.2 l);
        no_sizes = unused-of g.count 64 g.sizes u.0;
        no_flavours = unused-of g.count 64 g.flavours u.1;
        no_values = unused-of g.count 64 g.values u.2;
        no_members = unused-of g.used 256 g.members u.3;
        inside = λ k l. ltb-true (get_or g.members k 0) (length ns) (each_holds inside_at g.used k m l);
      }

  -- the tests that a group passes
  record Passes : Type 0 where
    set : in_set g ≡ true
    lawful : lawful_group ns g ≡ true
    inside : members_inside ns g ≡ true

  of-checked : Checked ns g → Passes
  unfolding in_set lawful_group lawful_counts members_inside
  of-checked c = record {
    set = and_both (and_both (lt-ltb 0 g.limit c.low) (le-leb g.limit 256 c.high))
        (each_all set_at 64 (λ j l. of-then (ltb j g.count) (known_flavour (get_or g.flavours j 0) (get_or g.values j 0)) (λ t. c.known j (ltb-true j g.count t))));
    lawful = and_both (and_both (and_both
        (and_both (and_both (and_both (le-leb g.count 64 c.few) (le-leb g.used g.limit c.within))
        (each_all filled_at g.count (λ j l. lt-ltb 0 (get_or g.sizes j 0) (c.filled j l))))
        (eq-eqb (sum_to g.sizes g.count) g.used c.sums))
        (each_all fresh_at g.used (λ k l. of-fresh g.members k (λ i b q. c.apart i k b l q))))
        (each_all uniform_in g.count (λ j l. of-uniform ns g j (c.uniform j l))))
        (and_both (and_both (and_both (of-unused g.count 64 g.sizes c.no_sizes) (of-unused g.count 64 g.flavours c.no_flavours))
        (of-unused g.count 64 g.values c.no_values)) (of-unused g.used 256 g.members c.no_members));
    inside = each_all inside_at g.used (λ k l. lt-ltb (get_or g.members k 0) (length ns) (c.inside k l));
  }

-- the parts of the check, from its answer
module _ (cells : List ℕ) (g : Group) where
  passed : (a b c d : Bool) → ◌≡◌ {A = ℕ} (if a then (if b && c then (if d then 0 else 1) else 11) else 12) 0 → (a ≡ true) × (b ≡ true) × (c ≡ true) × (d ≡ true)
  passed true true true true e = (refl, refl, refl, refl)
  passed true true true false e = absurd (omega arith)
  passed true true false d e = absurd (omega arith)
  passed true false c d e = absurd (omega arith)
  passed false b c d e = absurd (omega arith)

  parts : group_number cells g ≡ 0 → (in_set g ≡ true) × (lawful cells ≡ true) × (lawful_group (nodes cells) g ≡ true) × (members_inside (nodes cells) g ≡ true)
  unfolding group_number
  parts e = passed (in_set g) (lawful cells) (lawful_group (nodes cells) g) (members_inside (nodes cells) g) e

  -- a group that passes lies beside an arena that does
  pub number-lawful : group_number cells g ≡ 0 → lawful cells ≡ true
  number-lawful e = (parts e).1

module _ (ns : List Node) (g : Group) (c : Checked ns g) where
  -- the sizes of the struct are its classes'
  size-decode : (j : ℕ) → j < length (decode g) → get_or g.sizes j 0 ≡ length (class_at (decode g) j).members
  size-decode j l = let b : j < g.count = omega (arith, length-decode g) in rw (class-decode g j b) (sym (length-class_in g j))

  -- and their members are all that are used
  total-decode : total (decode g) ≡ g.used
  total-decode = sym (sum-whole g.sizes (decode g) size-decode) ∙ rw (length-decode g) c.sums

  -- the members stand in the table, one class after the other
  member-decode : (k : ℕ) → k < g.used → get_or (flat (decode g)) k 0 ≡ get_or g.members k 0
  member-decode k l = flat-is g.members (decode g) at k (omega (arith, total-decode))
    where
      at : (j i : ℕ) → j < length (decode g) → i < length (class_at (decode g) j).members → get_or g.members (total (take j (decode g)) + i) 0 ≡ get_or (class_at (decode g) j).members i 0
      at j i a b =
          let d : j < g.count = omega (arith, length-decode g) in
          let n : i < get_or g.sizes j 0 = omega (arith, size-decode j a) in
          rw (sym (sum-total g.sizes (decode g) size-decode j (omega arith)), class-decode g j d) (sym (member-class_in g j i n))

  -- a table of the classes' numbers with zeros after them
  column-is : (f : Class → ℕ) (xs : List ℕ) → f nothing ≡ 0 → length xs ≡ 64 → ((j : ℕ) → j < g.count → f (class_in g j) ≡ get_or xs j 0) → Unused g.count 64 xs
      → padded 64 (map f (decode g)) ≡ xs
  column-is f xs z e h u =
      padded-is 64 (map f (decode g)) xs (omega (arith, length-map (decode g) f, length-decode g, c.few)) e (λ k b. at k b (dec_lt k g.count))
    where
      at : (k : ℕ) → k < 64 → Dec (k < g.count) → get_or (map f (decode g)) k 0 ≡ get_or xs k 0
      at k b d = subst (λ (n : ℕ). get_or (map f (decode g)) k n ≡ get_or xs k 0) z (get_or-map f (decode g) k nothing ∙ is d)
        where
          is : Dec (k < g.count) → f (class_at (decode g) k) ≡ get_or xs k 0
          is (yes l) = ap f (class-decode g k l) ∙ h k l
          is (no l) = ap f (get_or-eq_default (decode g) nothing (omega (arith, length-decode g))) ∙ z ∙ sym (u k (omega arith) b)

  members-are : length g.members ≡ 256 → padded 256 (flat (decode g)) ≡ g.members
  members-are e =
      padded-is 256 (flat (decode g)) g.members (omega (arith, length-flat (decode g), total-decode, c.within, c.high)) e (λ k b. at k b (dec_lt k g.used))
    where
      at : (k : ℕ) → k < 256 → Dec (k < g.used) → get_or (flat (decode g)) k 0 ≡ get_or g.members k 0
      at k b (yes l) = member-decode k l
      at k b (no l) = get_or-eq_default (flat (decode g)) 0 (omega (arith, length-flat (decode g), total-decode)) ∙ sym (c.no_members k (omega arith) b)

  -- the struct is the layout of its classes
  coded-of : length g.sizes ≡ 64 → length g.flavours ≡ 64 → length g.values ≡ 64 → length g.members ≡ 256 → encode g.limit (decode g) ≡ g
  unfolding encode class_in flavour_of value_of
  coded-of s f v m = λ i. record {
    limit = g.limit;
    count = length-decode g i;
    used = total-decode i;
    sizes = column-is (λ (c : Class). length c.members) g.sizes refl s (λ j l. length-class_in g j) c.no_sizes i;
    flavours = column-is (λ (c : Class). flavour_of c.constant) g.flavours refl f (λ j l. flavour-back (get_or g.flavours j 0) (get_or g.values j 0) (c.known j l)) c.no_flavours i;
    values = column-is (λ (c : Class). value_of c.constant) g.values refl v (λ j l. value-back (get_or g.flavours j 0) (get_or g.values j 0) (c.known j l)) c.no_values i;
    members = members-are m i;
  }

  -- the classes are a good group
  good_of : Good ns (decode g)
  unfolding class_in is_literal
  good_of = record {
    distinct = record {
      apart = λ i j a b q. let l : j < g.used = omega (arith, length-flat (decode g), total-decode) in
          c.apart i j a l (sym (member-decode i (omega arith)) ∙ q ∙ member-decode j l);
    };
    filled = λ j l. omega (arith, size-decode j l, c.filled j (omega (arith, length-decode g)));
    uniform = uniform-at;
    inside = λ e h. let p = among-place e (flat (decode g)) h in let l : p.0 < g.used = omega (arith, p.1, length-flat (decode g), total-decode) in
        subst (λ (x : ℕ). x < length ns) (sym (member-decode p.0 l) ∙ p.2) (c.inside p.0 l);
  }
    where
      uniform-at : (j e v : ℕ) → j < length (decode g) → among e (class_at (decode g) j).members ≡ true → node_at ns e ≡ literal v → is_uniform (class_at (decode g) j).constant ≡ true
      uniform-at j e v l h q =
          let d : j < g.count = omega (arith, length-decode g) in
          let p = among-place e (class_at (decode g) j).members h in
          let n : p.0 < get_or g.sizes j 0 = omega (arith, p.1, size-decode j l) in
          let is : member_of g j p.0 ≡ e = sym (member-class_in g j p.0 n) ∙ ap (λ (x : Class). get_or x.members p.0 0) (sym (class-decode g j d)) ∙ p.2 in
          let b : member_of g j p.0 < length ns = c.inside (sum_to g.sizes j + p.0) (omega (arith, sum-holds g.sizes j g.count d, c.sums)) in
          rw (class-decode g j d)
          (flavour-uniform (get_or g.flavours j 0) (get_or g.values j 0) (c.known j d) (c.uniform j d p.0 n b (ap (λ (x : ℕ). is_literal (node_at ns x)) is ∙ ap is_literal q)))

-- what it says where it lets a group pass
number-checked : (cells : List ℕ) (g : Group) → group_number cells g ≡ 0 → Checked (nodes cells) g
number-checked cells g e = let p = parts cells g e in checked-of (nodes cells) g p.0 p.2 p.3

-- classes that are a group: good, few, and within a limit from 1 to 256
pub record Fit (ns : List Node) (l : ℕ) (cs : List Class) : Type 0 where
  pub low : 0 < l
  pub high : l ≤ 256
  pub few : length cs ≤ 64
  pub within : total cs ≤ l
  pub good : Good ns cs

-- a group that passes the check has such classes
pub number-fit : (cells : List ℕ) (g : Group) → group_number cells g ≡ 0 → Fit (nodes cells) g.limit (decode g)
number-fit cells g e =
    let c = number-checked cells g e in
    record {
      low = c.low;
      high = c.high;
      few = omega (arith, length-decode g, c.few);
      within = omega (arith, total-decode (nodes cells) g c, c.within);
      good = good_of (nodes cells) g c;
    }

-- and is their layout
pub number-held : (cells : List ℕ) (g : Group) → length g.sizes ≡ 64 → length g.flavours ≡ 64 → length g.values ≡ 64 → length g.members ≡ 256
    → group_number cells g ≡ 0 → Held (nodes cells) g
number-held cells g s f v m e =
    let c = number-checked cells g e in
    record {
      coded = record { coded = coded-of (nodes cells) g c s f v m; few = c.few; small = omega (arith, c.within, c.high) };
      low = c.low;
      high = c.high;
      within = c.within;
      good = good_of (nodes cells) g c;
    }

-- a literal, by its test
literal-of : (n : Node) → is_literal n ≡ true → (v : ℕ) × (n ≡ literal v)
unfolding is_literal
literal-of (column name index) h = absurd (true_not_false h refl)
literal-of (literal v) h = (v, refl)
literal-of (operation label children) h = absurd (true_not_false h refl)

-- the layout of a good group is what the check asks
checked-good : (ns : List Node) (l : ℕ) (cs : List Class) → Fit ns l cs → Checked ns (encode l cs)
unfolding encode flavour_of value_of
checked-good ns l cs f = record {
  low = f.low;
  high = f.high;
  known = λ j i. rw (flavour-encode l cs j, value-encode l cs j) (flavour-known (class_at cs j).constant);
  few = f.few;
  within = f.within;
  filled = λ j i. omega (arith, size-encode l cs j, f.good.filled j i);
  sums = sum-whole (encode l cs).sizes cs (λ j i. size-encode l cs j);
  apart = λ i k p q e. f.good.distinct.apart i k p (omega (arith, length-flat cs)) (sym (flat-encode l cs i) ∙ e ∙ flat-encode l cs k);
  uniform = λ j i k p q h. uniform-at j i k (omega (arith, size-encode l cs j)) h;
  no_sizes = λ k p q. size-encode l cs k ∙ ap (λ (c : Class). length c.members) (past k p);
  no_flavours = λ k p q. flavour-encode l cs k ∙ ap (λ (c : Class). flavour_of c.constant) (past k p);
  no_values = λ k p q. value-encode l cs k ∙ ap (λ (c : Class). value_of c.constant) (past k p);
  no_members = λ k p q. flat-encode l cs k ∙ get_or-eq_default (flat cs) 0 (omega (arith, length-flat cs));
  inside = λ k p. rw (flat-encode l cs k) (f.good.inside (get_or (flat cs) k 0) (get_or-among (flat cs) k (omega (arith, length-flat cs))));
}
  where
    past : (k : ℕ) → length cs ≤ k → class_at cs k ≡ nothing
    past k p = get_or-eq_default cs nothing p

    uniform-at : (j : ℕ) → j < length cs → (k : ℕ) → k < length (class_at cs j).members → is_literal (node_at ns (member_of (encode l cs) j k)) ≡ true → 2 ≤ get_or (encode l cs).flavours j 0
    uniform-at j i k p h =
        let e = member-encode l cs j k p in
        let v = literal-of (node_at ns (get_or (class_at cs j).members k 0)) (subst (λ (x : ℕ). is_literal (node_at ns x) ≡ true) e h) in
        rw (flavour-encode l cs j)
        (uniform-flavour (class_at cs j).constant (f.good.uniform j (get_or (class_at cs j).members k 0) v.0 i (get_or-among (class_at cs j).members k p) v.1))

-- the layout of a good group passes the check
pub held_number : (cells : List ℕ) → lawful cells ≡ true → (l : ℕ) (cs : List Class) → Fit (nodes cells) l cs → group_number cells (encode l cs) ≡ 0
unfolding group_number
held_number cells w l cs f =
    let p = of-checked (nodes cells) (encode l cs) (checked-good (nodes cells) l cs f) in
    rw (p.set, w, p.lawful, p.inside)

-- The struct of a group as the layout of a list of classes: what stands where, and that nothing is lost.
use Prim.Native.Nat.{ℕ, zero, suc, ◌+◌, ◌-◌, ◌<◌, ◌≤◌}
use mathlib.Core.List.{List, [], ◌∷◌, ◌++◌, map, append_assoc}
use mathlib.Core.Path.{◌≡◌, refl, sym, ap, ◌∙◌, subst}
use native.Mathlib.Omega.{arith}
use lib.ListN.{length, get_or, take, drop, set, replicate, length-append, length-replicate, length-set, length-drop, get_or-append, get_or-map}
use lib.Seq.{get_or-append-add, set-append_left, set_at, append_snoc, take_at, drop-append-add, length-take-le, get_or-take, get_or-drop, paste}
use Rattle.laws.specs.Lists.{table}
use Rattle.laws.proofs.Table.{length-table, table_is}
use Rattle.classes.specs.Class.{Class}
use Rattle.classes.specs.Group.{class_at, total}
use Rattle.classes.specs.Good.{flat}
use Rattle.classes.specs.Layout.{flavour_of, value_of, constant_from, padded, encode, sum_to, class_in, decode}
use Rattle.classes.specs.Inner.{Coded}
use Rattle.classes.specs.declared.Group.{Group}
use Rattle.classes.proofs.Numbers.{zeros-after}
use Rattle.classes.proofs.Marks.{constant-from}
use Rattle.classes.proofs.Places.{nothing, length-flat}

-- the number of a class's members, its flavour and its value
abbrev pub size_of : Class → ℕ
size_of c = length c.members

abbrev pub flavour_in : Class → ℕ
flavour_in c = flavour_of c.constant

abbrev pub value_in : Class → ℕ
value_in c = value_of c.constant

module _ (n : ℕ) (xs : List ℕ) where
  pub at-padded : (i : ℕ) → get_or (padded n xs) i 0 ≡ get_or xs i 0
  unfolding padded
  at-padded i = zeros-after xs (n - length xs) i

  pub length-padded : length xs ≤ n → length (padded n xs) ≡ n
  unfolding padded
  length-padded l = omega (arith, length-append xs (replicate (n - length xs) 0), length-replicate {A = ℕ} (n - length xs) 0)

  -- a place of the list is set
  pub set-padded : (i v : ℕ) → i < length xs → set (padded n xs) i v ≡ padded n (set xs i v)
  unfolding padded
  set-padded i v l = rw (length-set xs i v) (set-append_left xs (replicate (n - length xs) 0) i v l)

  -- the first place after it is set
  pub snoc_padded : (v : ℕ) → length xs < n → set (padded n xs) (length xs) v ≡ padded n (xs ++ (v ∷ []))
  unfolding padded
  snoc_padded v l =
      let e : n - length xs ≡ suc (n - length (xs ++ (v ∷ []))) = omega (arith, length-append xs (v ∷ [])) in
      rw e (set_at xs 0 (replicate (n - length (xs ++ (v ∷ []))) 0) v (length xs) refl ∙ sym (append_snoc xs v (replicate (n - length (xs ++ (v ∷ []))) 0)))

drop-zeros : (m k : ℕ) → drop m (replicate {A = ℕ} k 0) ≡ replicate (k - m) 0
drop-zeros zero k = ap (λ (i : ℕ). replicate {A = ℕ} i 0) (let e : k ≡ k - 0 = omega arith in e)
drop-zeros (suc m) zero = ap (λ (i : ℕ). replicate {A = ℕ} i 0) (let e : 0 ≡ 0 - suc m = omega arith in e)
drop-zeros (suc m) (suc k) = drop-zeros m k ∙ ap (λ (i : ℕ). replicate {A = ℕ} i 0) (let e : k - m ≡ suc k - suc m = omega arith in e)

-- a list is copied in after the list
pub paste-padded : (n : ℕ) (xs ys s : List ℕ) → take (length ys) s ≡ ys → paste (padded n xs) (length xs) s (length ys) ≡ padded n (xs ++ ys)
unfolding padded
paste-padded n xs ys s e =
    let k : n - length xs - length ys ≡ n - length (xs ++ ys) = omega (arith, length-append xs ys) in
    rw (take_at xs (replicate (n - length xs) 0) (length xs) refl, e, drop-append-add xs (replicate (n - length xs) 0) (length ys), drop-zeros (length ys) (n - length xs), k)

-- columns
pub map-append : (f : Class → ℕ) (cs ds : List Class) → map f (cs ++ ds) ≡ map f cs ++ map f ds
map-append f [] ds = refl
map-append f (c ∷ cs) ds = ap (λ (t : List ℕ). f c ∷ t) (map-append f cs ds)

pub map-set : (f : Class → ℕ) (cs : List Class) (i : ℕ) (c : Class) → map f (set cs i c) ≡ set (map f cs) i (f c)
map-set f [] i c = refl
map-set f (d ∷ cs) zero c = refl
map-set f (d ∷ cs) (suc i) c = ap (λ (t : List ℕ). f d ∷ t) (map-set f cs i c)

-- the members of all classes
pub flat_append : (cs ds : List Class) → flat (cs ++ ds) ≡ flat cs ++ flat ds
unfolding flat
flat_append [] ds = refl
flat_append (c ∷ cs) ds = rw (flat_append cs ds) (sym (append_assoc c.members (flat cs) (flat ds)))

-- one class more
pub total-take : (cs : List Class) (j : ℕ) → total (take (suc j) cs) ≡ total (take j cs) + length (class_at cs j).members
unfolding total
total-take [] zero = refl
total-take [] (suc j) = refl
total-take (c ∷ cs) zero = omega arith
total-take (c ∷ cs) (suc j) = omega (arith, total-take cs j)

-- some of the classes have no more members than all
pub total-front : (cs : List Class) (j : ℕ) → total (take j cs) ≤ total cs
unfolding total
total-front [] zero = omega arith
total-front [] (suc j) = omega arith
total-front (c ∷ cs) zero = omega arith
total-front (c ∷ cs) (suc j) = omega (arith, total-front cs j)

-- a member by its place in the table
pub at-flat : (cs : List Class) (j k : ℕ) → k < length (class_at cs j).members → get_or (flat cs) (total (take j cs) + k) 0 ≡ get_or (class_at cs j).members k 0
unfolding flat total
at-flat [] j k l = absurd (omega arith)
at-flat (c ∷ cs) zero k l =
    let e : 0 + k ≡ k = omega arith in
    rw e (get_or-append c.members (flat cs) 0 k l)
at-flat (c ∷ cs) (suc j) k l =
    let e : length c.members + total (take j cs) + k ≡ length c.members + (total (take j cs) + k) = omega arith in
    rw e (get_or-append-add c.members (flat cs) (total (take j cs) + k) 0 ∙ at-flat cs j k l)

module _ (l : ℕ) (cs : List Class) where
  -- the numbers of a class in its columns
  pub size-encode : (j : ℕ) → get_or (encode l cs).sizes j 0 ≡ length (class_at cs j).members
  unfolding encode
  size-encode j = at-padded 64 (map size_of cs) j ∙ get_or-map size_of cs j nothing

  pub flavour-encode : (j : ℕ) → get_or (encode l cs).flavours j 0 ≡ flavour_of (class_at cs j).constant
  unfolding encode flavour_of
  flavour-encode j = at-padded 64 (map flavour_in cs) j ∙ get_or-map flavour_in cs j nothing

  pub value-encode : (j : ℕ) → get_or (encode l cs).values j 0 ≡ value_of (class_at cs j).constant
  unfolding encode value_of
  value-encode j = at-padded 64 (map value_in cs) j ∙ get_or-map value_in cs j nothing

  -- a class starts after the members of those before it
  pub start-encode : (j : ℕ) → sum_to (encode l cs).sizes j ≡ total (take j cs)
  unfolding sum_to total
  start-encode zero = refl
  start-encode (suc j) = rw (start-encode j, size-encode j) (sym (total-take cs j))

  -- the members in their table
  pub flat-encode : (k : ℕ) → get_or (encode l cs).members k 0 ≡ get_or (flat cs) k 0
  unfolding encode
  flat-encode k = at-padded 256 (flat cs) k

  -- those of a class from there on
  pub member-encode : (j k : ℕ) → k < length (class_at cs j).members → get_or (encode l cs).members (sum_to (encode l cs).sizes j + k) 0 ≡ get_or (class_at cs j).members k 0
  member-encode j k b = rw (start-encode j) (flat-encode (total (take j cs) + k) ∙ at-flat cs j k b)

  -- a class of the struct is the class
  pub class-encode : (j : ℕ) → class_in (encode l cs) j ≡ class_at cs j
  unfolding class_in
  class-encode j = λ i. record { members = same i; constant = like i }
    where
      same : table (λ k. get_or (encode l cs).members (sum_to (encode l cs).sizes j + k) 0) (get_or (encode l cs).sizes j 0) ≡ (class_at cs j).members
      same = rw (size-encode j) (sym (table_is (λ k. get_or (encode l cs).members (sum_to (encode l cs).sizes j + k) 0) (length (class_at cs j).members) (class_at cs j).members 0 refl (λ k b. sym (member-encode j k b))))

      like : constant_from (get_or (encode l cs).flavours j 0) (get_or (encode l cs).values j 0) ≡ (class_at cs j).constant
      like = rw (flavour-encode j, value-encode j) (constant-from (class_at cs j).constant)

  -- nothing is lost
  pub decode-encode : decode (encode l cs) ≡ cs
  unfolding decode encode
  decode-encode = sym (table_is (λ j. class_in (encode l cs) j) (length cs) cs nothing refl (λ j b. sym (class-encode j)))

  -- few classes with few members are a group
  pub coded-encode : length cs ≤ 64 → total cs ≤ 256 → Coded (encode l cs)
  unfolding encode
  coded-encode few small = record { coded = ap (encode l) decode-encode; few = few; small = small }

-- a struct that was built from classes
module _ (l : ℕ) (cs : List Class) (h : Group) (p : h ≡ encode l cs) where
  pub built-count : h.count ≡ length cs
  unfolding encode
  built-count = ap (λ (x : Group). x.count) p

  pub built-used : h.used ≡ total cs
  unfolding encode
  built-used = ap (λ (x : Group). x.used) p

  pub built-limit : h.limit ≡ l
  unfolding encode
  built-limit = ap (λ (x : Group). x.limit) p

  pub built-classes : decode h ≡ cs
  built-classes = ap decode p ∙ decode-encode l cs

  pub built-coded : length cs ≤ 64 → total cs ≤ 256 → Coded h
  built-coded few small = subst Coded (sym p) (coded-encode l cs few small)

-- the classes are as many as the struct says
pub length-decode : (g : Group) → length (decode g) ≡ g.count
unfolding decode
length-decode g = length-table (λ j. class_in g j) g.count

-- what stands in the struct of a group
module _ (g : Group) (v : Coded g) where
  pub used-is : total (decode g) ≡ g.used
  unfolding encode
  used-is = ap (λ (h : Group). h.used) v.coded

  pub sizes-is : g.sizes ≡ padded 64 (map size_of (decode g))
  unfolding encode
  sizes-is = sym (ap (λ (h : Group). h.sizes) v.coded)

  pub flavours-is : g.flavours ≡ padded 64 (map flavour_in (decode g))
  unfolding encode
  flavours-is = sym (ap (λ (h : Group). h.flavours) v.coded)

  pub values-is : g.values ≡ padded 64 (map value_in (decode g))
  unfolding encode
  values-is = sym (ap (λ (h : Group). h.values) v.coded)

  pub members-is : g.members ≡ padded 256 (flat (decode g))
  unfolding encode
  members-is = sym (ap (λ (h : Group). h.members) v.coded)

  -- the numbers of a class
  pub size_is : (j : ℕ) → get_or g.sizes j 0 ≡ length (class_at (decode g) j).members
  size_is j = sym (ap (λ (h : Group). get_or h.sizes j 0) v.coded) ∙ size-encode g.limit (decode g) j

  pub flavour-is : (j : ℕ) → get_or g.flavours j 0 ≡ flavour_of (class_at (decode g) j).constant
  flavour-is j = sym (ap (λ (h : Group). get_or h.flavours j 0) v.coded) ∙ flavour-encode g.limit (decode g) j

  pub value-is : (j : ℕ) → get_or g.values j 0 ≡ value_of (class_at (decode g) j).constant
  value-is j = sym (ap (λ (h : Group). get_or h.values j 0) v.coded) ∙ value-encode g.limit (decode g) j

  pub start_is : (j : ℕ) → sum_to g.sizes j ≡ total (take j (decode g))
  start_is j = sym (ap (λ (h : Group). sum_to h.sizes j) v.coded) ∙ start-encode g.limit (decode g) j

  -- a class ends within the members
  pub class-ends : (j : ℕ) → sum_to g.sizes j + get_or g.sizes j 0 ≤ g.used
  class-ends j = omega (arith, start_is j, size_is j, total-take (decode g) j, total-front (decode g) (suc j), used-is)

  pub class-inside : (j : ℕ) → sum_to g.sizes j + get_or g.sizes j 0 ≤ 256
  class-inside j = omega (arith, class-ends j, v.small)

  -- the class that stands in the struct
  pub class-is : (j : ℕ) → class_in g j ≡ class_at (decode g) j
  class-is j = sym (ap (λ (h : Group). class_in h j) v.coded) ∙ class-encode g.limit (decode g) j

  pub members-part : (j : ℕ) → table (λ k. get_or g.members (sum_to g.sizes j + k) 0) (get_or g.sizes j 0) ≡ (class_at (decode g) j).members
  unfolding class_in
  members-part j = ap (λ (c : Class). c.members) (class-is j)

  pub length-members : length g.members ≡ 256
  length-members = rw members-is (length-padded 256 (flat (decode g)) (omega (arith, length-flat (decode g), used-is, v.small)))

  -- the members of a class, cut from the table
  pub members-cut : (j : ℕ) → take (length (class_at (decode g) j).members) (drop (sum_to g.sizes j) g.members) ≡ (class_at (decode g) j).members
  members-cut j =
      table_is f n (take n (drop s g.members)) 0
      (length-take-le n (drop s g.members) (omega (arith, length-drop s g.members, length-members, class-inside j, size_is j)))
      (λ k b. get_or-take n (drop s g.members) k 0 b ∙ get_or-drop s g.members k 0)
      ∙ rw (← size_is j) (members-part j)
    where
      n : ℕ
      n = length (class_at (decode g) j).members

      s : ℕ
      s = sum_to g.sizes j

      f : ℕ → ℕ
      f k = get_or g.members (s + k) 0

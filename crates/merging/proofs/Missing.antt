-- What one class brings to another: member by member, how many there are, and as a group of one class.
use Rattle.std.specs.Prelude.{if◌then◌else◌}
use Prim.Native.Nat.{ℕ, suc, ◌+◌, ◌-◌, ◌<◌, ◌≤◌}
use mathlib.Core.Bool.{Bool, true, false}
use mathlib.Core.List.{List, [], ◌∷◌, ◌++◌, append-nil}
use mathlib.Core.Path.{◌≡◌, refl, sym, ap, ◌∙◌}
use native.Mathlib.Numerals.{add-one}
use native.Mathlib.Omega.{arith}
use lib.ListN.{length, get_or, take, set}
use lib.Seq.{take-suc, take_all, length-take-le}
use Rattle.laws.proofs.Table.{get_or-table}
use Rattle.arena.specs.Node.{Node, node_at}
use Rattle.classes.specs.declared.Constant.{Constant}
use Rattle.classes.specs.declared.Constant.TheVariants.{NoConstant as no_constant}
use Rattle.classes.specs.Class.{Class, taken, carried, single, merged}
use Rattle.classes.specs.Group.{among, class_at, total, removed, length_removed, merged_at, constant_at}
use Rattle.classes.specs.Good.{flat}
use Rattle.classes.specs.Layout.{flavour_of, value_of, padded, encode, sum_to, decode}
use Rattle.classes.specs.Inner.{Coded, Room}
use Rattle.classes.specs.declared.Group.{Group}
use Rattle.classes.proofs.Codec.{snoc_padded, size-encode, built-count, built-used, built-limit, built-classes, built-coded, length-decode, used-is, size_is, class-inside, members-part}
use Rattle.classes.proofs.Places.{total-removed}
use Rattle.classes.proofs.OneClass.{alone, one-coded, one-count, one_size, one-is}
use Rattle.merging.specs.Extending.{without, missing}
use Rattle.merging.specs.Merging.{bridged}
use Rattle.merging.specs.Inner.{missing_some}

-- there are no more than were there
pub without-length : (ms es : List ℕ) → length (without ms es) ≤ length es
unfolding without
without-length ms [] = omega arith
without-length ms (e ∷ es) = go (among e ms) (without-length ms es)
  where
    go : (b : Bool) → length (without ms es) ≤ length es → length (if b then without ms es else e ∷ without ms es) ≤ suc (length es)
    go true r = omega arith
    go false r = omega arith

-- two lists, one after the other
without-append : (ms xs ys : List ℕ) → without ms (xs ++ ys) ≡ without ms xs ++ without ms ys
unfolding without
without-append ms [] ys = refl
without-append ms (x ∷ xs) ys = go (among x ms) (without-append ms xs ys)
  where
    go : (b : Bool) → without ms (xs ++ ys) ≡ without ms xs ++ without ms ys
        → (if b then without ms (xs ++ ys) else x ∷ without ms (xs ++ ys)) ≡ (if b then without ms xs else x ∷ without ms xs) ++ without ms ys
    go true r = r
    go false r = ap (λ (t : List ℕ). x ∷ t) r

-- one expression: nothing where it stands in the first list, else itself
pub without-held : (ms : List ℕ) (e : ℕ) → among e ms ≡ true → without ms (e ∷ []) ≡ []
unfolding without
without-held ms e q = rw q

pub without-new : (ms : List ℕ) (e : ℕ) → among e ms ≡ false → without ms (e ∷ []) ≡ e ∷ []
unfolding without
without-new ms e q = rw q

-- one member more
module _ (ms es : List ℕ) (k : ℕ) (l : k < length es) where
  without-next : without ms (take (k + 1) es) ≡ without ms (take k es) ++ without ms (get_or es k 0 ∷ [])
  without-next = rw (add-one, take-suc es k 0 l) (without-append ms (take k es) (get_or es k 0 ∷ []))

-- what a class brings to another has no more members than it has
pub missing-length : (c d : Class) → length (missing c d).members ≤ length d.members
unfolding missing
missing-length c d = without-length c.members d.members

-- what the first k members bring
module _ (k : ℕ) (c d : Class) where
  some-length : length (missing_some k c d).members ≤ length (take k d.members)
  unfolding missing_some
  some-length = without-length c.members (take k d.members)

  -- the next is there already
  some-held : k < length d.members → among (get_or d.members k 0) c.members ≡ true → missing_some k c d ≡ missing_some (k + 1) c d
  unfolding missing_some
  some-held l q = λ i. record { members = same i; constant = d.constant }
    where
      same : without c.members (take k d.members) ≡ without c.members (take (k + 1) d.members)
      same = sym (without-next c.members d.members k l ∙ rw (without-held c.members (get_or d.members k 0) q) (append-nil (without c.members (take k d.members))))

  -- the next is missing
  some-new : k < length d.members → among (get_or d.members k 0) c.members ≡ false
      → merged (missing_some k c d) (alone (get_or d.members k 0) no_constant) ≡ missing_some (k + 1) c d
  unfolding missing_some merged taken
  some-new l q = λ i. record { members = same i; constant = d.constant }
    where
      same : without c.members (take k d.members) ++ (get_or d.members k 0 ∷ []) ≡ without c.members (take (k + 1) d.members)
      same = sym (without-next c.members d.members k l ∙ rw (without-new c.members (get_or d.members k 0) q))

  -- all of them
  some-all : length d.members ≤ k → missing_some k c d ≡ missing c d
  unfolding missing_some missing
  some-all l = rw (take_all k d.members l)

-- the stores into the empty group: a class with a constant and no member
pub empty-built : (g : Group) (f v : ℕ) (k : Constant) → g ≡ encode 256 [] → f ≡ flavour_of k → v ≡ value_of k
    → ◌≡◌ {A = Group} (record { limit = g.limit; count = 1; used = g.used; sizes = g.sizes; flavours = set g.flavours 0 f; values = set g.values 0 v; members = g.members })
    (encode 256 (record { members = []; constant = k } ∷ []))
unfolding encode total flat padded
empty-built g f v k p a b =
    let l : g.limit ≡ 256 = ap (λ (h : Group). h.limit) p in
    let u : g.used ≡ 0 = ap (λ (h : Group). h.used) p in
    let s : g.sizes ≡ padded 64 (0 ∷ []) = ap (λ (h : Group). h.sizes) p in
    let fs : set g.flavours 0 f ≡ padded 64 (flavour_of k ∷ []) = ap (λ (h : Group). set h.flavours 0 f) p ∙ ap (λ (n : ℕ). set (padded 64 []) 0 n) a ∙ snoc_padded 64 [] (flavour_of k) (omega arith) in
    let vs : set g.values 0 v ≡ padded 64 (value_of k ∷ []) = ap (λ (h : Group). set h.values 0 v) p ∙ ap (λ (n : ℕ). set (padded 64 []) 0 n) b ∙ snoc_padded 64 [] (value_of k) (omega arith) in
    let x : g.members ≡ padded 256 [] = ap (λ (h : Group). h.members) p in
    (λ i. record { limit = l i; count = 1; used = u i; sizes = s i; flavours = fs i; values = vs i; members = x i })

-- an expression at the end of the last class
module _ (out : Group) (v : Coded out) (some : 0 < out.count) (room : out.used < 256) (one : Group) (e : ℕ) (c : Constant) (p : one ≡ encode 256 (alone e c ∷ [])) where
  pub member-asks : Room out one 0 × (0 < out.count)
  member-asks =
      (record { out-coded = v; src_coded = one-coded one e c p; there = one-count one e c p; members = omega (arith, one_size one e c p) }, some)

  pub member_is : (r : Group) → r ≡ encode out.limit (merged_at (decode out) (out.count - 1) (class_at (decode one) 0)) → r ≡ encode out.limit (merged_at (decode out) (out.count - 1) (alone e c))
  member_is r q = q ∙ ap (λ (d : Class). encode out.limit (merged_at (decode out) (out.count - 1) d)) (one-is one e c p)

-- a group of one class
module _ (one : Group) (c : Class) (p : one ≡ encode 256 (c ∷ [])) where
  pub only-count : one.count ≡ 1
  only-count = built-count 256 (c ∷ []) one p

  pub only-used : one.used ≡ length c.members
  unfolding total
  only-used = omega (arith, built-used 256 (c ∷ []) one p)

  pub only-coded : length c.members ≤ 256 → Coded one
  unfolding total
  only-coded l = built-coded 256 (c ∷ []) one p (omega arith) (omega arith)

  pub only-size : get_or one.sizes 0 0 ≡ length c.members
  only-size = ap (λ (h : Group). get_or h.sizes 0 0) p ∙ size-encode 256 (c ∷ []) 0

  pub only-is : class_at (decode one) 0 ≡ c
  only-is = ap (λ (cs : List Class). class_at cs 0) (built-classes 256 (c ∷ []) one p)

  -- a class merged into it
  only-merged : (r : Group) (d : Class) → r ≡ encode one.limit (merged_at (decode one) (one.count - 1) d) → r ≡ encode 256 (merged c d ∷ [])
  unfolding merged_at
  only-merged r d q =
      let z : one.count - 1 ≡ 0 = omega (arith, only-count) in
      q
      ∙ ap (λ (l : ℕ). encode l (merged_at (decode one) (one.count - 1) d)) (built-limit 256 (c ∷ []) one p)
      ∙ ap (λ (n : ℕ). encode 256 (merged_at (decode one) n d)) z
      ∙ ap (λ (cs : List Class). encode 256 (merged_at cs 0 d)) (built-classes 256 (c ∷ []) one p)

-- two classes of a group, what the first k members of the second bring to the first, as a group of one class
module _ (g : Group) (v : Coded g) (i j k : ℕ) (l : k < get_or g.sizes j 0) (out : Group) (p : out ≡ encode 256 (missing_some k (class_at (decode g) i) (class_at (decode g) j) ∷ [])) where
  abbrev first : Class
  first = class_at (decode g) i

  abbrev second : Class
  second = class_at (decode g) j

  inside : k < length second.members
  inside = omega (arith, size_is g v j)

  few : length (missing_some k first second).members ≤ k
  few = omega (arith, some-length k first second, length-take-le k second.members (omega (arith, inside)))

  small : k < 256
  small = omega (arith, class-inside g v j)

  -- its place in the table
  pub member-inside : (start : ℕ) → start ≡ sum_to g.sizes j → start + k < 256
  member-inside start q = omega (arith, class-inside g v j)

  -- the member there
  member-at : (start : ℕ) → start ≡ sum_to g.sizes j → get_or g.members (start + k) 0 ≡ get_or second.members k 0
  member-at start q =
      rw q
      (sym (get_or-table (λ (n : ℕ). get_or g.members (sum_to g.sizes j + n) 0) (get_or g.sizes j 0) k 0 l)
      ∙ ap (λ (xs : List ℕ). get_or xs k 0) (members-part g v j))

  module _ (start : ℕ) (q : start ≡ sum_to g.sizes j) (b : Bool) (t : b ≡ among (get_or g.members (start + k) 0) first.members) where
    told : among (get_or second.members k 0) first.members ≡ b
    told = sym (t ∙ ap (λ (e : ℕ). among e first.members) (member-at start q))

    -- the first has it
    pub next-held : b ≡ true → out ≡ encode 256 (missing_some (k + 1) first second ∷ [])
    next-held h = p ∙ ap (λ (c : Class). encode 256 (c ∷ [])) (some-held k first second inside (told ∙ h))

    -- the first doesn't have it
    pub next-new : b ≡ false → (r : Group) → r ≡ encode out.limit (merged_at (decode out) (out.count - 1) (alone (get_or g.members (start + k) 0) no_constant))
        → r ≡ encode 256 (missing_some (k + 1) first second ∷ [])
    next-new h r s =
        only-merged out (missing_some k first second) p r (alone (get_or second.members k 0) no_constant)
        (s ∙ ap (λ (e : ℕ). encode out.limit (merged_at (decode out) (out.count - 1) (alone e no_constant))) (member-at start q))
        ∙ ap (λ (c : Class). encode 256 (c ∷ [])) (some-new k first second inside (told ∙ h))

  -- and there is room for it
  pub next-room : Coded out × ((0 < out.count) × (out.used < 256))
  next-room =
      let c = missing_some k first second in
      (only-coded out c p (omega (arith, few, small)), (omega (arith, only-count out c p), omega (arith, only-used out c p, few, small)))

-- the class before the first member, and after the last
pub missing-begins : (c d : Class) (k : Constant) (out : Group) → k ≡ d.constant → out ≡ encode 256 (record { members = []; constant = k } ∷ []) → out ≡ encode 256 (missing_some 0 c d ∷ [])
unfolding missing_some without
missing-begins c d k out p q = q ∙ ap (λ (x : Constant). encode 256 (record { members = []; constant = x } ∷ [])) p

pub missing-ends : (g : Group) → Coded g → (i j k : ℕ) (out : Group) → get_or g.sizes j 0 ≤ k → out ≡ encode 256 (missing_some k (class_at (decode g) i) (class_at (decode g) j) ∷ [])
    → out ≡ encode 256 (missing (class_at (decode g) i) (class_at (decode g) j) ∷ [])
missing-ends g v i j k out l p =
    p ∙ ap (λ (c : Class). encode 256 (c ∷ [])) (some-all k (class_at (decode g) i) (class_at (decode g) j) (omega (arith, size_is g v j)))

-- class j is taken out, and what it brings joins class i
module _ (g : Group) (v : Coded g) (i j : ℕ) (a : i < j) (b : j < g.count) (more : Group) (m : more ≡ encode 256 (missing (class_at (decode g) i) (class_at (decode g) j) ∷ [])) (rest : Group) (p : rest ≡ encode g.limit (removed (decode g) j)) where
  abbrev left : List Class
  left = removed (decode g) j

  abbrev brought : Class
  brought = missing (class_at (decode g) i) (class_at (decode g) j)

  fewer : total left + length (class_at (decode g) j).members ≡ g.used
  fewer = omega (arith, total-removed (decode g) j (omega (arith, length-decode g)), used-is g v)

  enough : total left + length brought.members ≤ 256
  enough = omega (arith, fewer, missing-length (class_at (decode g) i) (class_at (decode g) j), v.small)

  rest-coded : Coded rest
  rest-coded = built-coded g.limit left rest p (omega (arith, length_removed (decode g) j, length-decode g, v.few)) (omega (arith, enough))

  pub extend-asks : (Coded rest × (i < rest.count)) × ((Coded more × (0 < more.count)) × (rest.used + get_or more.sizes 0 0 ≤ 256))
  extend-asks = (
    (rest-coded, omega (arith, built-count g.limit left rest p, length_removed (decode g) j, length-decode g)),
    (
      (only-coded more brought m (omega (arith, enough)), omega (arith, only-count more brought m)),
      omega (arith, built-used g.limit left rest p, only-size more brought m, enough),
    ),
  )

  pub extend-is : (r : Group) → r ≡ encode rest.limit (merged_at (decode rest) i (class_at (decode more) 0)) → r ≡ encode g.limit (bridged (decode g) i j)
  unfolding bridged
  extend-is r q =
      q
      ∙ ap (λ (l : ℕ). encode l (merged_at (decode rest) i (class_at (decode more) 0))) (built-limit g.limit left rest p)
      ∙ ap (λ (cs : List Class). encode g.limit (merged_at cs i (class_at (decode more) 0))) (built-classes g.limit left rest p)
      ∙ ap (λ (c : Class). encode g.limit (merged_at left i c)) (only-is more brought m)

-- an expression pushed to a class: its constant alone where the class has it, else all of it
module _ (ns : List Node) (c : Class) (e : ℕ) where
  pushed-held : among e c.members ≡ true → merged c (missing c (single ns e)) ≡ record { members = c.members; constant = taken c.constant (carried (node_at ns e)) }
  unfolding merged missing single
  pushed-held q = λ i. record { members = same i; constant = taken c.constant (carried (node_at ns e)) }
    where
      same : c.members ++ without c.members (e ∷ []) ≡ c.members
      same = rw (without-held c.members e q) (append-nil c.members)

  pushed-new : among e c.members ≡ false → missing c (single ns e) ≡ single ns e
  unfolding missing single
  pushed-new q = λ i. record { members = without-new c.members e q i; constant = carried (node_at ns e) }

module _ (ns : List Node) (out : Group) (at e : ℕ) (b : Bool) (t : b ≡ among e (class_at (decode out) at).members) where
  pub push-held : b ≡ true → (k : Constant) (r : Group) → k ≡ carried (node_at ns e) → r ≡ encode out.limit (constant_at (decode out) at k)
      → r ≡ encode out.limit (merged_at (decode out) at (missing (class_at (decode out) at) (single ns e)))
  unfolding constant_at merged_at
  push-held h k r p q =
      q
      ∙ ap (λ (x : Constant). encode out.limit (constant_at (decode out) at x)) p
      ∙ ap (λ (c : Class). encode out.limit (set (decode out) at c)) (sym (pushed-held ns (class_at (decode out) at) e (sym t ∙ h)))

  pub push-new : b ≡ false → (r : Group) → r ≡ encode out.limit (merged_at (decode out) at (single ns e))
      → r ≡ encode out.limit (merged_at (decode out) at (missing (class_at (decode out) at) (single ns e)))
  push-new h r q = q ∙ ap (λ (c : Class). encode out.limit (merged_at (decode out) at c)) (sym (pushed-new ns (class_at (decode out) at) e (sym t ∙ h)))

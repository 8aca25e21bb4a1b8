-- A group with a class at its end, with a class merged into its last, with a constant over one; and a group that is built class by class.
use Prim.Native.Nat.{ℕ, zero, suc, ◌+◌, ◌-◌, ◌<◌, ◌≤◌}
use mathlib.Core.List.{List, [], ◌∷◌, ◌++◌, map, append_assoc, append-nil}
use mathlib.Core.Path.{◌≡◌, refl, sym, ap, ap₂, ◌∙◌}
use native.Mathlib.Numerals.{add-one}
use native.Mathlib.Decide.{ℕ_discrete}
use native.Mathlib.Omega.{arith}
use lib.ListN.{length, get_or, take, drop, set, length-append, length-set, length-map}
use lib.Seq.{take-suc, take_all, length-take-le, map-set_same, get_or_at, set_at, paste}
use Rattle.classes.specs.Class.{Constant, Class, taken, merged}
use Rattle.classes.specs.Group.{class_at, total, removed, merged_at, constant_at}
use Rattle.classes.specs.Good.{flat}
use Rattle.classes.specs.Layout.{flavour_of, value_of, padded, encode, sum_to, decode}
use Rattle.classes.specs.Inner.{Coded, Room}
use Rattle.classes.specs.declared.Group.{Group}
use Rattle.classes.proofs.Codec.{size_of, flavour_in, value_in, set-padded, snoc_padded, paste-padded, map-append, map-set, flat_append, total-take, total-front, built-count, built-used, built-limit, built-classes, built-coded, length-decode, used-is, sizes-is, flavours-is, values-is, members-is, size_is, flavour-is, value-is, class-ends, class-inside, members-cut}
use Rattle.classes.proofs.Places.{nothing, length-flat, flat-same, total-same, total-more, total-merged_at, removed-gap, removed-other}

-- a column with one number more
column-more : (f : Class → ℕ) (cs : List Class) (c : Class) (xs : List ℕ) (n v : ℕ)
    → xs ≡ padded 64 (map f cs) → n ≡ length cs → v ≡ f c → length cs < 64 → set xs n v ≡ padded 64 (map f (cs ++ (c ∷ [])))
column-more f cs c xs n v p q r l =
    cc (snoc_padded 64 (map f cs) (f c) (omega (arith, length-map cs f)), length-map cs f, map-append f cs (c ∷ []))

-- a column with a number changed
pub column-set : (f : Class → ℕ) (cs : List Class) (i : ℕ) (c : Class) (xs : List ℕ) (v : ℕ)
    → xs ≡ padded 64 (map f cs) → v ≡ f c → i < length cs → set xs i v ≡ padded 64 (map f (set cs i c))
column-set f cs i c xs v p r l =
    cc (set-padded 64 (map f cs) i (f c) (omega (arith, length-map cs f)), map-set f cs i c)

-- members with a class's members after them
members-more : (cs : List Class) (ys ms s : List ℕ) (u n : ℕ)
    → ms ≡ padded 256 (flat cs) → u ≡ total cs → n ≡ length ys → take (length ys) s ≡ ys → paste ms u s n ≡ padded 256 (flat cs ++ ys)
members-more cs ys ms s u n p q r e =
    let w : u ≡ length (flat cs) = q ∙ sym (length-flat cs) in
    rw (p, w, r) (paste-padded 256 (flat cs) ys s e)

-- the members and their number, after a class is put at the end, merged in, or has another constant
flat-more : (cs : List Class) (c : Class) → flat (cs ++ (c ∷ [])) ≡ flat cs ++ c.members
unfolding flat
flat-more cs c = flat_append cs (c ∷ []) ∙ rw (append-nil c.members)

flat-last : (cs : List Class) (i : ℕ) (d : Class) → suc i ≡ length cs → flat (set cs i (merged (class_at cs i) d)) ≡ flat cs ++ d.members
unfolding flat merged
flat-last [] i d p = absurd (omega arith)
flat-last (c ∷ []) zero d p = simp append-nil
flat-last (c ∷ (e ∷ cs)) zero d p = absurd (omega arith)
flat-last (c ∷ cs) (suc i) d p =
    ap (λ (t : List ℕ). c.members ++ t) (flat-last cs i d (omega arith)) ∙ sym (append_assoc c.members (flat cs) d.members)

-- the places that a call is asked for
module _ (g : Group) (v : Coded g) (j : ℕ) (there : j < g.count) where
  pub start-inside : (j ≤ 64) × (sum_to g.sizes j ≤ 256)
  start-inside = (omega (arith, v.few), omega (arith, class-inside g v j))

-- a group with a class at its end
module _ (out src : Group) (j : ℕ) (r : Room out src j) where
  -- the class that comes in
  abbrev came : Class
  came = class_at (decode src) j

  came-size : get_or src.sizes j 0 ≡ length came.members
  came-size = size_is src r.src_coded j

  -- the members with its members
  members-came : (start : ℕ) (ms : List ℕ) → start ≡ sum_to src.sizes j
      → ms ≡ paste out.members out.used (drop start src.members) (get_or src.sizes j 0) → ms ≡ padded 256 (flat (decode out) ++ came.members)
  members-came start ms p q =
      q ∙ members-more (decode out) came.members out.members (drop start src.members) out.used (get_or src.sizes j 0)
      (members-is out r.out-coded) (sym (used-is out r.out-coded)) came-size (rw p (members-cut src r.src_coded j))

  -- both copies are within the tables
  pub copy-inside : (start : ℕ) → start ≡ sum_to src.sizes j → (out.used + get_or src.sizes j 0 ≤ 256) × (start + get_or src.sizes j 0 ≤ 256)
  copy-inside start p = (r.members, omega (arith, p, class-inside src r.src_coded j))

  -- no class grows past them
  pub grown-fits : (i : ℕ) → get_or out.sizes i 0 + get_or src.sizes j 0 ≤ 256
  grown-fits i = omega (arith, class-ends out r.out-coded i, r.members)

  pub add-made : (start : ℕ) (ms : List ℕ) → out.count < 64 → start ≡ sum_to src.sizes j
      → ms ≡ paste out.members out.used (drop start src.members) (get_or src.sizes j 0)
      → ◌≡◌ {A = Group}
      (record {
        limit = out.limit;
        count = out.count + 1;
        used = out.used + get_or src.sizes j 0;
        sizes = set out.sizes out.count (get_or src.sizes j 0);
        flavours = set out.flavours out.count (get_or src.flavours j 0);
        values = set out.values out.count (get_or src.values j 0);
        members = ms;
      })
      (encode out.limit (decode out ++ (came ∷ [])))
  unfolding encode
  add-made start ms l p q = λ i.
      record {
        limit = out.limit;
        count = counted i;
        used = held i;
        sizes = column-more size_of cs came out.sizes out.count (get_or src.sizes j 0) (sizes-is out v) n came-size few i;
        flavours = column-more flavour_in cs came out.flavours out.count (get_or src.flavours j 0) (flavours-is out v) n (flavour-is src r.src_coded j) few i;
        values = column-more value_in cs came out.values out.count (get_or src.values j 0) (values-is out v) n (value-is src r.src_coded j) few i;
        members = (members-came start ms p q ∙ ap (padded 256) (sym (flat-more cs came))) i;
      }
    where
      v : Coded out
      v = r.out-coded

      cs : List Class
      cs = decode out

      n : out.count ≡ length (decode out)
      n = sym (length-decode out)

      few : length (decode out) < 64
      few = omega (arith, length-decode out)

      counted : out.count + 1 ≡ length (decode out ++ (came ∷ []))
      counted = omega (arith, length-decode out, length-append (decode out) (came ∷ []))

      held : out.used + get_or src.sizes j 0 ≡ total (decode out ++ (came ∷ []))
      held = omega (arith, total-more (decode out) came, came-size, used-is out v)

  -- a group with a class merged into its last
  pub merge_made : (start : ℕ) (ms : List ℕ) (f w : ℕ) (k a b : Constant) → 0 < out.count → start ≡ sum_to src.sizes j
      → ms ≡ paste out.members out.used (drop start src.members) (get_or src.sizes j 0)
      → a ≡ (class_at (decode out) (out.count - 1)).constant → b ≡ came.constant → k ≡ taken a b → f ≡ flavour_of k → w ≡ value_of k
      → ◌≡◌ {A = Group}
      (record {
        limit = out.limit;
        count = out.count;
        used = out.used + get_or src.sizes j 0;
        sizes = set out.sizes (out.count - 1) (get_or out.sizes (out.count - 1) 0 + get_or src.sizes j 0);
        flavours = set out.flavours (out.count - 1) f;
        values = set out.values (out.count - 1) w;
        members = ms;
      })
      (encode out.limit (merged_at (decode out) (out.count - 1) came))
  unfolding encode merged_at merged
  merge_made start ms f w k a b l p q s t u x y = λ i.
      record {
        limit = out.limit;
        count = counted i;
        used = held i;
        sizes = column-set size_of cs at c out.sizes (get_or out.sizes at 0 + get_or src.sizes j 0) (sizes-is out v) grown inside i;
        flavours = column-set flavour_in cs at c out.flavours f (flavours-is out v) (x ∙ ap flavour_of over) inside i;
        values = column-set value_in cs at c out.values w (values-is out v) (y ∙ ap value_of over) inside i;
        members = (members-came start ms p q ∙ ap (padded 256) (sym (flat-last cs at came last))) i;
      }
    where
      v : Coded out
      v = r.out-coded

      cs : List Class
      cs = decode out

      at : ℕ
      at = out.count - 1

      c : Class
      c = merged (class_at (decode out) (out.count - 1)) came

      inside : out.count - 1 < length (decode out)
      inside = omega (arith, length-decode out)

      last : suc (out.count - 1) ≡ length (decode out)
      last = omega (arith, length-decode out)

      counted : out.count ≡ length (set (decode out) (out.count - 1) (merged (class_at (decode out) (out.count - 1)) came))
      counted = omega (arith, length-decode out, length-set (decode out) (out.count - 1) (merged (class_at (decode out) (out.count - 1)) came))

      held : out.used + get_or src.sizes j 0 ≡ total (set (decode out) (out.count - 1) (merged (class_at (decode out) (out.count - 1)) came))
      held = omega (arith, total-merged_at (decode out) (out.count - 1) came inside, came-size, used-is out v)

      grown : get_or out.sizes (out.count - 1) 0 + get_or src.sizes j 0 ≡ length ((class_at (decode out) (out.count - 1)).members ++ came.members)
      grown = omega (arith, size_is out v (out.count - 1), came-size, length-append (class_at (decode out) (out.count - 1)).members came.members)

      over : k ≡ taken (class_at (decode out) (out.count - 1)).constant came.constant
      over = u ∙ ap₂ taken s t

-- a group with another constant for a class
module _ (g : Group) (v : Coded g) (i : ℕ) (k : Constant) where
  abbrev put : List Class
  put = set (decode g) i (record { members = (class_at (decode g) i).members; constant = k })

  pub count-put : g.count ≡ length (set (decode g) i (record { members = (class_at (decode g) i).members; constant = k }))
  count-put = omega (arith, length-decode g, length-set (decode g) i (record { members = (class_at (decode g) i).members; constant = k }))

  pub used-put : g.used ≡ total (set (decode g) i (record { members = (class_at (decode g) i).members; constant = k }))
  used-put = sym (used-is g v) ∙ sym (total-same (decode g) i k)

  pub constant-put : (fs vs : List ℕ) → fs ≡ padded 64 (map flavour_in put) → vs ≡ padded 64 (map value_in put)
      → ◌≡◌ {A = Group}
      (record { limit = g.limit; count = g.count; used = g.used; sizes = g.sizes; flavours = fs; values = vs; members = g.members })
      (encode g.limit (set (decode g) i (record { members = (class_at (decode g) i).members; constant = k })))
  unfolding encode
  constant-put fs vs p q = λ t.
      record {
        limit = g.limit;
        count = count-put t;
        used = used-put t;
        sizes = (sizes-is g v ∙ ap (padded 64) (sym (map-set_same size_of (decode g) i (record { members = (class_at (decode g) i).members; constant = k }) nothing refl))) t;
        flavours = p t;
        values = q t;
        members = (members-is g v ∙ ap (padded 256) (sym (flat-same (decode g) i k))) t;
      }

-- a group with a constant over that of a class
pub constant-made : (g : Group) (i : ℕ) (d : Constant) (f w : ℕ) (n a : Constant) → Coded g → i < g.count
    → a ≡ (class_at (decode g) i).constant → n ≡ taken a d → f ≡ flavour_of n → w ≡ value_of n
    → ◌≡◌ {A = Group}
    (record {
      limit = g.limit;
      count = g.count;
      used = g.used;
      sizes = g.sizes;
      flavours = set g.flavours i f;
      values = set g.values i w;
      members = g.members;
    })
    (encode g.limit (constant_at (decode g) i d))
unfolding constant_at
constant-made g i d f w n a v l s u x y =
    constant-put g v i k (set g.flavours i f) (set g.values i w)
    (column-set flavour_in (decode g) i c g.flavours f (flavours-is g v) (x ∙ ap flavour_of over) inside)
    (column-set value_in (decode g) i c g.values w (values-is g v) (y ∙ ap value_of over) inside)
  where
    k : Constant
    k = taken (class_at (decode g) i).constant d

    c : Class
    c = record { members = (class_at (decode g) i).members; constant = taken (class_at (decode g) i).constant d }

    inside : i < length (decode g)
    inside = omega (arith, length-decode g)

    over : n ≡ taken (class_at (decode g) i).constant d
    over = u ∙ ap (λ (x : Constant). taken x d) s

-- a group that is built class by class
module _ (l : ℕ) (rs : List Class) (few : length rs ≤ 64) (small : total rs ≤ 256) where
  module _ (k : ℕ) (inside : k < length rs) (out : Group) (is : out ≡ encode l (take k rs)) where
    -- a group with the first k classes
    rebuilt_count : out.count ≡ k
    rebuilt_count = built-count l (take k rs) out is ∙ length-take-le k rs (omega arith)

    rebuilt_used : out.used ≡ total (take k rs)
    rebuilt_used = built-used l (take k rs) out is

    pub rebuilt_coded : Coded out
    rebuilt_coded = built-coded l (take k rs) out is (omega (arith, length-take-le k rs (omega arith))) (omega (arith, total-front rs k))

    pub rebuilt_few : out.count < 64
    rebuilt_few = omega (arith, rebuilt_count)

    -- the next class has room
    pub rebuilt_room : out.used + length (class_at rs k).members ≤ 256
    rebuilt_room = omega (arith, rebuilt_used, total-take rs k, total-front rs (suc k))

    -- and with it the group has the first k + 1
    pub rebuilt_next : (next : Group) (c : Class) → c ≡ class_at rs k → next ≡ encode out.limit (decode out ++ (c ∷ [])) → next ≡ encode l (take (k + 1) rs)
    rebuilt_next next c e f =
        f ∙ rw (built-classes l (take k rs) out is, built-limit l (take k rs) out is, e, add-one, take-suc rs k nothing inside)

  -- after the last
  pub rebuilt_all : (n k : ℕ) (out : Group) → n ≡ length rs → k ≤ n → n ≤ k → out ≡ encode l (take k rs) → out ≡ encode l rs
  rebuilt_all n k out e a b is = is ∙ ap (encode l) (take_all k rs (omega arith))

-- a group without a class: the class at k, by the place that it comes from
pub class-removed : (cs : List Class) (i k m : ℕ) → k < length cs - 1 → (k ≡ i → m ≡ length cs - 1) → ((k ≡ i → ⊥) → m ≡ k) → class_at cs m ≡ class_at (removed cs i) k
class-removed cs i k m b p q = at (ℕ_discrete k i)
  where
    at : Dec (k ≡ i) → class_at cs m ≡ class_at (removed cs i) k
    at (yes e) = let l : i < length cs - 1 = rw e at b in rw (p e, e) (sym (removed-gap cs i l))
    at (no e) = rw (q e) (sym (removed-other cs i k b e))

-- a class merged into the last
pub merged-last : (cs : List Class) (c d : Class) (n : ℕ) → n ≡ length cs → merged_at (cs ++ (c ∷ [])) n d ≡ cs ++ (merged c d ∷ [])
unfolding merged_at
merged-last cs c d n e =
    rw (get_or_at cs c [] nothing n (sym e)) (set_at cs c [] (merged c d) n (sym e))

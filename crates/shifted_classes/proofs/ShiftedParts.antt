-- Shifted classes, part by part: a class of expressions as a loop at the end of a group, and the shifted classes from a place on.
use Prim.Native.Nat.{ℕ, zero, suc, ◌+◌, ◌-◌, ◌<◌, ◌≤◌}
use mathlib.Core.List.{List, [], ◌∷◌, ◌++◌, map, append-nil, append_assoc}
use mathlib.Core.Path.{◌≡◌, refl, sym, ap, ap₂, ◌∙◌}
use native.Mathlib.Numerals.{add-one}
use native.Mathlib.Omega.{arith}
use lib.ListN.{length, get_or, take, drop, length-append, length-take, length-drop, length-map}
use lib.Seq.{take-suc, take_all, take-append_seam, take-append-le, drop-append-le, drop-drop, take-take, length-take-le, get_or-take, get_or-drop}
use Rattle.arena.specs.Node.{Node}
use Rattle.classes.specs.Class.{Class, single}
use Rattle.classes.specs.Group.{class_at, total, merged_at}
use Rattle.classes.specs.Good.{flat}
use Rattle.classes.specs.Layout.{flavour_of, value_of, padded, encode, decode}
use Rattle.classes.specs.Inner.{Coded}
use Rattle.classes.specs.declared.Group.{Group}
use Rattle.classes.proofs.Numbers.{zeros-after}
use Rattle.classes.proofs.Places.{nothing, length-flat, more-new, length_more, total-more}
use Rattle.classes.proofs.Codec.{built-count, built-used, built-limit, built-classes, built-coded, length-decode, used-is, size_of, flavour_in, value_in, at-padded, length-padded, map-append, flat_append, flat-encode, total-take, total-front, sizes-is, flavours-is, values-is, members-is}
use Rattle.classes.proofs.GroupLayout.{padded-is}
use Rattle.classes.proofs.Rebuilding.{merged-last}
use Rattle.merging.specs.Extending.{missing, extended, pushed, class_from}
use Rattle.merging.specs.Inner.{AllBelow}
use Rattle.merging.proofs.PushedClass.{from_more, from-none, class-few}
use Rattle.lent_classes.proofs.ListCounts.{total-append}
use Rattle.shifted_classes.specs.Shifting.{shifted_classes}

-- ---- what stands in the struct

module _ (g : Group) (v : Coded g) where
  -- the members in their table
  pub member-flat : (k : ℕ) → get_or g.members k 0 ≡ get_or (flat (decode g)) k 0
  member-flat k = sym (ap (λ (h : Group). get_or h.members k 0) v.coded) ∙ flat-encode g.limit (decode g) k

  -- are as many as are used
  pub length-used : length (flat (decode g)) ≡ g.used
  length-used = length-flat (decode g) ∙ used-is g v

-- a zero after a list with zeros behind it
padded-more : (n : ℕ) (xs : List ℕ) → length xs < n → padded n xs ≡ padded n (xs ++ (0 ∷ []))
padded-more n xs l =
    sym (padded-is n (xs ++ (0 ∷ [])) (padded n xs) (omega (arith, length-append xs (0 ∷ []))) (length-padded n xs (omega arith)) (λ k b. zeros-after xs 1 k ∙ sym (at-padded n xs k)))

-- a group with an empty class at its end: only the count is another
pub opened-empty : (g : Group) → Coded g → g.count < 64
    → ◌≡◌ {A = Group} (record { limit = g.limit; count = g.count + 1; used = g.used; sizes = g.sizes; flavours = g.flavours; values = g.values; members = g.members }) (encode g.limit (decode g ++ (nothing ∷ [])))
unfolding encode flavour_of value_of flat
opened-empty g v l = λ i. record {
  limit = g.limit;
  count = count i;
  used = used i;
  sizes = column size_of g.sizes refl (sizes-is g v) i;
  flavours = column flavour_in g.flavours refl (flavours-is g v) i;
  values = column value_in g.values refl (values-is g v) i;
  members = members i;
}
  where
    count : g.count + 1 ≡ length (decode g ++ (nothing ∷ []))
    count = sym (length_more (decode g) nothing ∙ ap (λ (n : ℕ). n + 1) (length-decode g))

    used : g.used ≡ total (decode g ++ (nothing ∷ []))
    used = omega (arith, total-more (decode g) nothing, used-is g v)

    column : (f : Class → ℕ) (xs : List ℕ) → f nothing ≡ 0 → xs ≡ padded 64 (map f (decode g)) → xs ≡ padded 64 (map f (decode g ++ (nothing ∷ [])))
    column f xs z e =
        e ∙ padded-more 64 (map f (decode g)) (omega (arith, length-map (decode g) f, length-decode g))
        ∙ ap (λ (l : List ℕ). padded 64 l) (ap (λ (n : ℕ). map f (decode g) ++ (n ∷ [])) (sym z) ∙ sym (map-append f (decode g) (nothing ∷ [])))

    members : g.members ≡ padded 256 (flat (decode g ++ (nothing ∷ [])))
    members = members-is g v ∙ ap (λ (l : List ℕ). padded 256 l) (sym (flat_append (decode g) (nothing ∷ []) ∙ append-nil (flat (decode g))))

-- ---- a class is pushed together at the end of a group

-- the classes before the last
abbrev pub front : Group → List Class
front g = take (g.count - 1) (decode g)

-- a group whose last class is that of the first k expressions
abbrev pub PushedTo : List Node → Group → List ℕ → ℕ → Group → Type 0
PushedTo ns begin es k next = next ≡ encode begin.limit (front begin ++ (class_from ns (take k es) ∷ []))

module _ (ns : List Node) (out : Group) (v : Coded out) (few : out.count < 64) (n : ℕ) (room : out.used + n ≤ 256) (es : List ℕ) (len : length es ≡ n)
    (begin : Group) (p : begin ≡ encode out.limit (decode out ++ (nothing ∷ []))) where
  -- the classes before the last are those that came in
  front-is : front begin ≡ decode out
  front-is =
      let c : begin.count - 1 ≡ length (decode out) = omega (arith, built-count out.limit (decode out ++ (nothing ∷ [])) begin p, length_more (decode out) nothing) in
      ap (λ (m : ℕ). take m (decode begin)) c ∙ ap (λ (l : List Class). take (length (decode out)) l) (built-classes out.limit (decode out ++ (nothing ∷ [])) begin p)
      ∙ take-append_seam (decode out) (nothing ∷ [])

  -- the limit is the one that came in
  limit_is : begin.limit ≡ out.limit
  limit_is = built-limit out.limit (decode out ++ (nothing ∷ [])) begin p

  -- in the words of the group that came in
  here : (k : ℕ) (next : Group) → PushedTo ns begin es k next → next ≡ encode out.limit (decode out ++ (class_from ns (take k es) ∷ []))
  here k next q = q ∙ ap₂ {C = Group} (λ (l : ℕ) (f : List Class). encode l (f ++ (class_from ns (take k es) ∷ []))) limit_is front-is

  -- and the other way
  back : (k : ℕ) (next : Group) → next ≡ encode out.limit (decode out ++ (class_from ns (take k es) ∷ [])) → PushedTo ns begin es k next
  back k next q = q ∙ sym (ap₂ {C = Group} (λ (l : ℕ) (f : List Class). encode l (f ++ (class_from ns (take k es) ∷ []))) limit_is front-is)

  -- none is pushed
  pub push-begins : PushedTo ns begin es 0 begin
  push-begins = back 0 begin (p ∙ ap (λ (c : Class). encode out.limit (decode out ++ (c ∷ []))) (sym (from-none ns)))

  -- all are pushed
  pub push-ends : (k : ℕ) (next : Group) → n ≤ k → PushedTo ns begin es k next → next ≡ encode out.limit (decode out ++ (class_from ns es ∷ []))
  push-ends k next l q = here k next q ∙ ap (λ (l : List ℕ). encode out.limit (decode out ++ (class_from ns l ∷ []))) (take_all k es (omega arith))

  module _ (k : ℕ) (next : Group) (q : PushedTo ns begin es k next) (l : k < n) where
    -- the group, in those words
    is : next ≡ encode out.limit (decode out ++ (class_from ns (take k es) ∷ []))
    is = here k next q

    -- there is room for the next
    pub push-asks : Coded next × ((0 < next.count) × (next.used < 256))
    push-asks =
        let c = class_from ns (take k es) in
        let a = length_more (decode out) c in
        let b = total-more (decode out) c in
        let d = class-few ns (take k es) in
        let f = length-take-le k es (omega arith) in
        let g = built-count out.limit (decode out ++ (c ∷ [])) next is in
        let h = built-used out.limit (decode out ++ (c ∷ [])) next is in
        (built-coded out.limit (decode out ++ (c ∷ [])) next is (omega (arith, a, length-decode out)) (omega (arith, b, used-is out v, d, f)), (omega (arith, g, a), omega (arith, h, b, used-is out v, d, f)))

    -- it is pushed
    pub push-more : (r : Group) (e : ℕ) → get_or es k 0 ≡ e → r ≡ encode next.limit (merged_at (decode next) (next.count - 1) (missing (class_at (decode next) (next.count - 1)) (single ns e))) → PushedTo ns begin es (k + 1) r
    unfolding pushed extended
    push-more r e x z =
        let c = class_from ns (take k es) in
        let cs = built-classes out.limit (decode out ++ (c ∷ [])) next is in
        let n : next.count - 1 ≡ length (decode out) = omega (arith, built-count out.limit (decode out ++ (c ∷ [])) next is, length_more (decode out) c) in
        let m : encode next.limit (merged_at (decode next) (next.count - 1) (missing (class_at (decode next) (next.count - 1)) (single ns e))) ≡ encode out.limit (merged_at (decode out ++ (c ∷ [])) (length (decode out)) (missing (class_at (decode out ++ (c ∷ [])) (length (decode out))) (single ns e))) =
        ap₂ {C = Group} (λ (l : ℕ) (d : List Class). encode l (merged_at d (next.count - 1) (missing (class_at d (next.count - 1)) (single ns e)))) (built-limit out.limit (decode out ++ (c ∷ [])) next is) cs
        ∙ ap (λ (m : ℕ). encode out.limit (merged_at (decode out ++ (c ∷ [])) m (missing (class_at (decode out ++ (c ∷ [])) m) (single ns e)))) n in
        let f : merged_at (decode out ++ (c ∷ [])) (length (decode out)) (missing (class_at (decode out ++ (c ∷ [])) (length (decode out))) (single ns e)) ≡ decode out ++ (pushed ns c e ∷ []) =
        ap (λ (d : Class). merged_at (decode out ++ (c ∷ [])) (length (decode out)) (missing d (single ns e))) (more-new (decode out) c) ∙ merged-last (decode out) c (missing c (single ns e)) (length (decode out)) refl in
        let t : take k es ++ (e ∷ []) ≡ take (k + 1) es = sym (rw (add-one k) (take-suc es k 0 (omega arith)) ∙ ap (λ (y : ℕ). take k es ++ (y ∷ [])) x) in
        back (k + 1) r (z ∙ m ∙ ap (λ (d : List Class). encode out.limit d) (f ∙ ap (λ (d : Class). decode out ++ (d ∷ [])) (sym (from_more ns (take k es) e) ∙ ap (λ (y : List ℕ). class_from ns y) t)))

-- ---- the shifted classes from a place on

-- classes one after the other
pub shifted-append : (ns : List Node) (xs ys : List Class) (ks : List ℕ) → shifted_classes ns (xs ++ ys) ks ≡ shifted_classes ns xs ks ++ shifted_classes ns ys (drop (total xs) ks)
unfolding shifted_classes total
shifted-append ns [] ys ks = refl
shifted-append ns (c ∷ xs) ys ks =
    ap (λ (l : List Class). class_from ns (take (length c.members) ks) ∷ l)
    (shifted-append ns xs ys (drop (length c.members) ks) ∙ ap (λ (l : List ℕ). shifted_classes ns xs (drop (length c.members) ks) ++ shifted_classes ns ys l) (drop-drop (total xs) (length c.members) ks))

-- as many classes
pub length-shifted : (ns : List Node) (rs : List Class) (ks : List ℕ) → length (shifted_classes ns rs ks) ≡ length rs
unfolding shifted_classes
length-shifted ns [] ks = refl
length-shifted ns (c ∷ rs) ks = ap suc (length-shifted ns rs (drop (length c.members) ks))

-- no more members
pub shifted-few : (ns : List Node) (rs : List Class) (ks : List ℕ) → total (shifted_classes ns rs ks) ≤ total rs
unfolding shifted_classes total
shifted-few ns [] ks = omega arith
shifted-few ns (c ∷ rs) ks =
    omega (arith, shifted-few ns rs (drop (length c.members) ks), class-few ns (take (length c.members) ks), length-take (length c.members) ks)

-- numbers behind those of the members are not looked at
pub shifted-front : (ns : List Node) (rs : List Class) (ks js : List ℕ) → total rs ≤ length ks → shifted_classes ns rs (ks ++ js) ≡ shifted_classes ns rs ks
unfolding shifted_classes total
shifted-front ns [] ks js l = refl
shifted-front ns (c ∷ rs) ks js l =
    ap₂ {C = List Class} (λ (a : List ℕ) (b : List Class). class_from ns a ∷ b) (take-append-le (length c.members) ks js (omega arith))
    (ap (λ (d : List ℕ). shifted_classes ns rs d) (drop-append-le (length c.members) ks js (omega arith)) ∙ shifted-front ns rs (drop (length c.members) ks) js (omega (arith, length-drop (length c.members) ks)))

-- a part within a part
cut-within : (a b c : ℕ) (l : List ℕ) → b + a ≤ c → take a (drop b (take c l)) ≡ take a (drop b l)
cut-within a zero c l h = take-take a c l (omega arith)
cut-within a (suc b) zero l h = absurd (omega arith)
cut-within a (suc b) (suc c) [] h = refl
cut-within a (suc b) (suc c) (x ∷ l) h = cut-within a b c l (omega arith)

-- no class, no member
pub total-none : (cs : List Class) → 0 ≡ total (take 0 cs)
unfolding total
total-none cs = refl

-- j shifted classes are added to a group
abbrev pub AddedTo : List Node → Group → Group → List ℕ → ℕ → Group → Type 0
AddedTo ns left right members j out = out ≡ encode left.limit (decode left ++ shifted_classes ns (take j (decode right)) (take right.used members))

-- where class j begins, and how many members it has
module _ (right : Group) (w : Coded right) (j start size : ℕ) (s : start ≡ total (take j (decode right))) (z : size ≡ length (class_at (decode right) j).members) where
  -- it ends within the members
  pub part-inside : start + size ≤ right.used
  part-inside = omega (arith, total-take (decode right) j, total-front (decode right) (suc j), used-is right w)

  -- the next begins where it ends
  pub part-next : start + size ≡ total (take (j + 1) (decode right))
  part-next = sym (rw (add-one j) (total-take (decode right) j) ∙ ap₂ {C = ℕ} (λ (a b : ℕ). a + b) (sym s) (sym z))

  -- its numbers are below what all are below
  pub part-below : (members : List ℕ) → length members ≡ 256 → (m : ℕ) → AllBelow m (take right.used members) → AllBelow m (take size (drop start members))
  part-below members len m h k b =
      let i = part-inside in
      let c : k < size = omega (arith, length-take size (drop start members)) in
      let e : get_or (take size (drop start members)) k 0 ≡ get_or members (start + k) 0 = get_or-take size (drop start members) k 0 c ∙ get_or-drop start members k 0 in
      let f = get_or-take right.used members (start + k) 0 (omega (arith, i)) in
      let g = h (start + k) (omega (arith, length-take-le right.used members (omega (arith, w.small)), i)) in
      omega arith

-- the first and the last
module _ (ns : List Node) (left right : Group) (v : Coded left) (members : List ℕ) where
  -- none is added yet
  pub add-begins : AddedTo ns left right members 0 left
  unfolding shifted_classes
  add-begins = sym (ap (λ (l : List Class). encode left.limit l) (append-nil (decode left)) ∙ v.coded)

  -- all are added
  pub add-ends : (j : ℕ) (out : Group) → right.count ≤ j → AddedTo ns left right members j out → out ≡ encode left.limit (decode left ++ shifted_classes ns (decode right) (take right.used members))
  add-ends j out l q = q ∙ ap (λ (d : List Class). encode left.limit (decode left ++ shifted_classes ns d (take right.used members))) (take_all j (decode right) (omega (arith, length-decode right)))

-- one in between
module _ (ns : List Node) (left right : Group) (v : Coded left) (w : Coded right) (few : left.count + right.count ≤ 64) (small : left.used + right.used ≤ 256) (members : List ℕ)
    (j : ℕ) (l : j < right.count) (start size : ℕ) (s : start ≡ total (take j (decode right))) (z : size ≡ length (class_at (decode right) j).members) (out : Group) (q : AddedTo ns left right members j out) where
  -- there is room for it
  pub add-room : Coded out × ((out.count < 64) × (out.used + size ≤ 256))
  add-room =
      let o = shifted_classes ns (take j (decode right)) (take right.used members) in
      let a = length-append (decode left) o in
      let b = length-shifted ns (take j (decode right)) (take right.used members) in
      let c = length-take-le j (decode right) (omega (arith, length-decode right)) in
      let d = total-append (decode left) o in
      let e = shifted-few ns (take j (decode right)) (take right.used members) in
      let i = part-inside right w j start size s z in
      let f = built-count left.limit (decode left ++ o) out q in
      let g = built-used left.limit (decode left ++ o) out q in
      let n : length (decode left ++ o) < 64 = omega (arith, a, b, c, length-decode left, length-decode right) in
      let t : total (decode left ++ o) + size ≤ 256 = omega (arith, d, e, used-is left v, i, s) in
      (built-coded left.limit (decode left ++ o) out q (omega arith) (omega arith), (omega (arith, f), omega (arith, g)))

  -- it is added
  pub add-next : (r : Group) → r ≡ encode out.limit (decode out ++ (class_from ns (take size (drop start members)) ∷ [])) → AddedTo ns left right members (j + 1) r
  unfolding shifted_classes
  add-next r x =
      let o = shifted_classes ns (take j (decode right)) (take right.used members) in
      let c = class_at (decode right) j in
      let m : encode out.limit (decode out ++ (class_from ns (take size (drop start members)) ∷ [])) ≡ encode left.limit ((decode left ++ o) ++ (class_from ns (take size (drop start members)) ∷ [])) =
      ap₂ {C = Group} (λ (l : ℕ) (d : List Class). encode l (d ++ (class_from ns (take size (drop start members)) ∷ []))) (built-limit left.limit (decode left ++ o) out q) (built-classes left.limit (decode left ++ o) out q) in
      let t : take (j + 1) (decode right) ≡ take j (decode right) ++ (c ∷ []) = rw (add-one j) (take-suc (decode right) j nothing (omega (arith, length-decode right))) in
      let i = part-inside right w j start size s z in
      let p : take (length c.members) (drop (total (take j (decode right))) (take right.used members)) ≡ take size (drop start members) =
      ap₂ {C = List ℕ} (λ (a b : ℕ). take a (drop b (take right.used members))) (sym z) (sym s) ∙ cut-within size start right.used members (omega arith) in
      let e : shifted_classes ns (take (j + 1) (decode right)) (take right.used members) ≡ o ++ (class_from ns (take size (drop start members)) ∷ []) =
      ap (λ (l : List Class). shifted_classes ns l (take right.used members)) t ∙ shifted-append ns (take j (decode right)) (c ∷ []) (take right.used members)
      ∙ ap (λ (l : List ℕ). o ++ (class_from ns l ∷ [])) p in
      x ∙ m ∙ ap (λ (l : List Class). encode left.limit l) (append_assoc (decode left) o (class_from ns (take size (drop start members)) ∷ []) ∙ ap (λ (l : List Class). decode left ++ l) (sym e))

-- Lists of classes as groups of limit 256: what fits, what an answer and a refusal say, and the classes that say something.
use Rattle.std.specs.Prelude.{if◌then◌else◌, Result, Ok, Err}
use Prim.Native.Nat.{ℕ, ◌+◌, ◌<◌, ◌≤◌}
use mathlib.Core.Bool.{Bool, true, false}
use mathlib.Core.List.{List, [], ◌∷◌, ◌++◌, append-nil}
use mathlib.Core.Path.{◌≡◌, refl, sym, ap, ◌∙◌, subst}
use native.Mathlib.Omega.{arith}
use lib.ListN.{length, length-append}
use Rattle.laws.proofs.Booleans.{true_not_false}
use Rattle.classes.specs.Class.{Class}
use Rattle.classes.specs.Group.{class_at, total}
use Rattle.classes.specs.Steps.{fits}
use Rattle.classes.specs.Layout.{encode, decode}
use Rattle.arena.specs.declared.Refusal.{Refusal}
use Rattle.arena.specs.declared.Refusal.TheVariants.{GroupFull}
use Rattle.arena.proofs.Refusals.{ok-not-err}
use Rattle.classes.specs.Inner.{Coded, Room}
use Rattle.classes.specs.declared.Group.{Group}
use Rattle.classes.proofs.Codec.{built-count, built-limit, built-classes, built-coded, length-decode, used-is, size_is}
use Rattle.conditions.proofs.ConstantLaws.{fits_both, more-many, more-full, more_room}
use Rattle.merging.specs.Extending.{is_trivial}
use Rattle.lent_classes.proofs.ListCounts.{total-append, fits-few, fits-small}
use Rattle.group_projection.specs.Group.{telling}
use Rattle.group_projection.specs.Inner.{Grouped, listed, One, List256}

-- ---- what fits

-- what exceeds the bounds exceeds them with more members and classes
pub over-larger : (cs ds : List Class) → total cs ≤ total ds → length cs ≤ length ds → fits 256 cs ≡ false → fits 256 ds ≡ false
over-larger cs ds a b f = go (fits 256 ds) refl
  where
    go : (b : Bool) → fits 256 ds ≡ b → fits 256 ds ≡ false
    go true h = absurd (true_not_false (fits_both 256 cs (omega (arith, fits-small ds h)) (omega (arith, fits-few ds h))) f)
    go false h = h

-- and with classes after it
pub over-more : (cs ds : List Class) → fits 256 cs ≡ false → fits 256 (cs ++ ds) ≡ false
over-more cs ds f = over-larger cs (cs ++ ds) (omega (arith, total-append cs ds)) (omega (arith, length-append cs ds)) f

-- ---- a list as an answer

-- classes that fit, as a group of limit 256
pub record Lists (g : Group) (cs : List Class) : Type 0 where
  pub is : g ≡ encode 256 cs
  pub room : fits 256 cs ≡ true

-- where they fit, the group; else 4
pub listed-fits : (cs : List Class) → fits 256 cs ≡ true → listed cs ≡ Ok (encode 256 cs)
unfolding listed
listed-fits cs f = rw f

pub listed-over : (cs : List Class) → fits 256 cs ≡ false → ◌≡◌ {A = Grouped} (Err GroupFull) (listed cs)
unfolding listed
listed-over cs f = rw f

-- the same classes in other words
pub lists_as : (g : Group) (cs ds : List Class) → cs ≡ ds → Lists g cs → Lists g ds
lists_as g cs ds e v = subst (λ (l : List Class). Lists g l) e v

module _ (g : Group) (cs : List Class) (v : Lists g cs) where
  pub lists-coded : Coded g
  lists-coded = built-coded 256 cs g v.is (fits-few cs v.room) (fits-small cs v.room)

  pub lists-classes : decode g ≡ cs
  lists-classes = built-classes 256 cs g v.is

  pub lists-list : List256 g
  lists-list = record { coded = lists-coded; limit = built-limit 256 cs g v.is }

  pub lists-made : ◌≡◌ {A = Grouped} (Ok g) (listed cs)
  lists-made = ap Ok v.is ∙ sym (listed-fits cs v.room)

-- a group of one class
pub lists-one : (g : Group) (c : Class) → Lists g (c ∷ []) → One g
lists-one g c v = record { coded = lists-coded g (c ∷ []) v; limit = built-limit 256 (c ∷ []) g v.is; single = built-count 256 (c ∷ []) g v.is }

-- answers that are equal say one group, or are refused for one reason
pub ok-same : (g h : Group) → ◌≡◌ {A = Grouped} (Ok g) (Ok h) → g ≡ h
ok-same g h e = cc

pub err-same : {A : Type 0} (why other : Refusal) → ◌≡◌ {A = Result A Refusal} (Err why) (Err other) → why ≡ other
err-same why other e = cc

-- what an answer says
module _ (r : Grouped) (cs : List Class) (q : r ≡ listed cs) where
  pub answer-lists : (g : Group) → r ≡ Ok g → Lists g cs
  answer-lists g n = go (fits 256 cs) refl
    where
      go : (b : Bool) → fits 256 cs ≡ b → Lists g cs
      go true f = record { is = ok-same g (encode 256 cs) (sym n ∙ q ∙ listed-fits cs f); room = f }
      go false f = absurd (ok-not-err (sym n ∙ q ∙ sym (listed-over cs f)))

  pub answer-over : (why : Refusal) → r ≡ Err why → fits 256 cs ≡ false
  answer-over why n = go (fits 256 cs) refl
    where
      go : (b : Bool) → fits 256 cs ≡ b → fits 256 cs ≡ false
      go true f = absurd (ok-not-err (sym (q ∙ listed-fits cs f) ∙ n))
      go false f = f

  -- a longer list that does not fit is refused as this one was
  pub answer-again : (why : Refusal) → r ≡ Err why → (ds : List Class) → fits 256 ds ≡ false → ◌≡◌ {A = Grouped} (Err why) (listed ds)
  answer-again why n ds f = sym n ∙ q ∙ sym (listed-over cs (answer-over why n)) ∙ listed-over ds f

-- ---- a group that came in

-- one class
one_only : (cs : List Class) → length cs ≡ 1 → cs ≡ class_at cs 0 ∷ []
one_only [] l = absurd (omega arith)
one_only (c ∷ []) l = refl
one_only (c ∷ (d ∷ cs)) l = absurd (omega arith)

-- is the list of its classes
pub list-lists : (g : Group) → List256 g → Lists g (decode g)
list-lists g v = record {
  is = sym v.coded.coded ∙ ap (λ (l : ℕ). encode l (decode g)) v.limit;
  room = fits_both 256 (decode g) (omega (arith, used-is g v.coded, v.coded.small)) (omega (arith, length-decode g, v.coded.few));
}

-- of its one class, where it has one
pub one-lists : (g : Group) → One g → Lists g (class_at (decode g) 0 ∷ [])
one-lists g v = lists_as g (decode g) (class_at (decode g) 0 ∷ []) (one_only (decode g) (length-decode g ∙ v.single)) (list-lists g (record { coded = v.coded; limit = v.limit }))

-- which has as many members as are used
pub one-used : (g : Group) → One g → g.used ≡ length (class_at (decode g) 0).members
unfolding total
one-used g v = omega (arith, used-is g v.coded, ap total (one_only (decode g) (length-decode g ∙ v.single)))

-- ---- the classes that say something

pub telling-append : (cs ds : List Class) → telling (cs ++ ds) ≡ telling cs ++ telling ds
unfolding telling
telling-append [] ds = refl
telling-append (c ∷ cs) ds = go (is_trivial c) (telling-append cs ds)
  where
    go : (b : Bool) → telling (cs ++ ds) ≡ telling cs ++ telling ds → (if b then telling (cs ++ ds) else c ∷ telling (cs ++ ds)) ≡ (if b then telling cs else c ∷ telling cs) ++ telling ds
    go true r = r
    go false r = ap (λ (t : List Class). c ∷ t) r

-- none of none
pub telling-none : telling [] ≡ []
unfolding telling
telling-none = refl

-- one class
pub telling-not : (c : Class) → is_trivial c ≡ true → telling (c ∷ []) ≡ []
unfolding telling
telling-not c t = rw t

pub telling-one : (c : Class) → is_trivial c ≡ false → telling (c ∷ []) ≡ c ∷ []
unfolding telling
telling-one c t = rw t

-- a class is kept at the end of a list where it says something
module _ (out one : Group) (v : List256 out) (w : One one) (b : Bool) (t : b ≡ is_trivial (class_at (decode one) 0)) where
  abbrev last : Class
  last = class_at (decode one) 0

  -- it says nothing
  pub keep-not : b ≡ true → ◌≡◌ {A = Grouped} (Ok out) (listed (decode out ++ telling (last ∷ [])))
  keep-not h =
      lists-made out (decode out) (list-lists out v)
      ∙ ap listed (sym (ap (λ (l : List Class). decode out ++ l) (telling-not last (sym t ∙ h)) ∙ append-nil (decode out)))

  -- it says something
  kept : b ≡ false → decode out ++ telling (last ∷ []) ≡ decode out ++ (last ∷ [])
  kept h = ap (λ (l : List Class). decode out ++ l) (telling-one last (sym t ∙ h))

  -- there are 64 classes already
  pub keep-many : b ≡ false → 64 ≤ out.count → ◌≡◌ {A = Grouped} (Err GroupFull) (listed (decode out ++ telling (last ∷ [])))
  keep-many h m =
      listed-over (decode out ++ (last ∷ [])) (subst (λ (l : ℕ). fits l (decode out ++ (last ∷ [])) ≡ false) v.limit (more-many out v.coded last m))
      ∙ ap listed (sym (kept h))

  -- there are too many members
  pub keep-full : b ≡ false → 256 < out.used + one.used → ◌≡◌ {A = Grouped} (Err GroupFull) (listed (decode out ++ telling (last ∷ [])))
  keep-full h m =
      listed-over (decode out ++ (last ∷ [])) (subst (λ (l : ℕ). fits l (decode out ++ (last ∷ [])) ≡ false) v.limit (more-full out v.coded last (omega (arith, v.limit, one-used one w))))
      ∙ ap listed (sym (kept h))

  -- there is room
  module _ (few : out.count < 64) (small : out.used + one.used ≤ 256) where
    pub keep-asks : Room out one 0 × (out.count < 64)
    keep-asks = (record { out-coded = v.coded; src_coded = w.coded; there = omega (arith, w.single); members = omega (arith, size_is one w.coded 0, one-used one w) }, few)

    keep-lists : (r : Group) → r ≡ encode out.limit (decode out ++ (last ∷ [])) → Lists r (decode out ++ (last ∷ []))
    keep-lists r q = record {
      is = q ∙ ap (λ (l : ℕ). encode l (decode out ++ (last ∷ []))) v.limit;
      room = subst (λ (l : ℕ). fits l (decode out ++ (last ∷ [])) ≡ true) v.limit (more_room out v.coded last few (omega (arith, v.limit, one-used one w)));
    }

    pub keep-made : b ≡ false → (r : Group) → r ≡ encode out.limit (decode out ++ (last ∷ [])) → ◌≡◌ {A = Grouped} (Ok r) (listed (decode out ++ telling (last ∷ [])))
    keep-made h r q = lists-made r (decode out ++ (last ∷ [])) (keep-lists r q) ∙ ap listed (sym (kept h))

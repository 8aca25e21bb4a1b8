-- A class that expressions are pushed to: how many members it has, and as a group of one class.
use Rattle.std.specs.Prelude.{Ok, Err}
use Prim.Native.Nat.{ℕ, ◌+◌, ◌-◌, ◌<◌, ◌≤◌}
use mathlib.Core.Bool.{Bool, true, false}
use mathlib.Core.List.{List, [], ◌∷◌, ◌++◌}
use mathlib.Core.Path.{◌≡◌, refl, sym, ap, ◌∙◌}
use native.Mathlib.Omega.{arith}
use lib.ListN.{length, length-append}
use Rattle.arena.specs.Node.{Node, node_at}
use Rattle.classes.specs.Class.{Class, carried, single, merged}
use Rattle.classes.specs.Group.{among, class_at, total, merged_at, constant_at}
use Rattle.classes.specs.Steps.{fits}
use Rattle.classes.specs.Layout.{encode, decode}
use Rattle.arena.specs.declared.Refusal.{Refusal}
use Rattle.arena.specs.declared.Refusal.TheVariants.{GroupFull}
use Rattle.classes.specs.Inner.{Coded}
use Rattle.classes.specs.declared.Group.{Group}
use Rattle.classes.specs.declared.Constant.{Constant}
use Rattle.conditions.proofs.ConstantLaws.{fits-full, fits_both}
use Rattle.merging.specs.Extending.{without, missing, extended, pushed, pushed_all}
use Rattle.merging.proofs.Missing.{without-length, without-held, without-new, push-held}
use Rattle.group_projection.specs.Inner.{Grouped, listed, One}
use Rattle.group_projection.proofs.ListedLaws.{Lists, lists-classes, one-lists, one-used, listed-over, over-larger, answer-lists, answer-over}

-- ---- how many members it has

module _ (ns : List Node) where
  -- pushed one after the other
  pub pushed-append : (c : Class) (xs ys : List ℕ) → pushed_all ns c (xs ++ ys) ≡ pushed_all ns (pushed_all ns c xs) ys
  unfolding pushed_all
  pushed-append c [] ys = refl
  pushed-append c (x ∷ xs) ys = pushed-append (pushed ns c x) xs ys

  -- one expression
  pub pushed-one : (c : Class) (e : ℕ) → pushed_all ns c (e ∷ []) ≡ pushed ns c e
  unfolding pushed_all
  pushed-one c e = refl

  pushed-length : (c : Class) (e : ℕ) → length (pushed ns c e).members ≡ length c.members + length (without c.members (e ∷ []))
  unfolding pushed extended merged missing single
  pushed-length c e = length-append c.members (without c.members (e ∷ []))

  -- no member goes
  pushed_most : (c : Class) (es : List ℕ) → length c.members ≤ length (pushed_all ns c es).members
  unfolding pushed_all
  pushed_most c [] = omega arith
  pushed_most c (e ∷ es) = omega (arith, pushed_most (pushed ns c e) es, pushed-length c e)

  -- a class that is too large stays so
  pushed-over : (c : Class) (es : List ℕ) → fits 256 (c ∷ []) ≡ false → fits 256 (pushed_all ns c es ∷ []) ≡ false
  unfolding total
  pushed-over c es f = over-larger (c ∷ []) (pushed_all ns c es ∷ []) (omega (arith, pushed_most c es)) (omega arith) f

-- ---- as a group of one class

module _ (ns : List Node) (one : Group) (v : One one) (e : ℕ) where
  abbrev only : Class
  only = class_at (decode one) 0

  -- an expression merged into it
  pushed-is : (at : ℕ) → at ≡ 0 → (r : Group) → r ≡ encode one.limit (merged_at (decode one) at (missing (class_at (decode one) at) (single ns e))) → r ≡ encode 256 (pushed ns only e ∷ [])
  unfolding merged_at pushed extended
  pushed-is at z r q =
      q
      ∙ ap (λ (l : ℕ). encode l (merged_at (decode one) at (missing (class_at (decode one) at) (single ns e)))) v.limit
      ∙ ap (λ (n : ℕ). encode 256 (merged_at (decode one) n (missing (class_at (decode one) n) (single ns e)))) z
      ∙ ap (λ (cs : List Class). encode 256 (merged_at cs 0 (missing (class_at (decode one) 0) (single ns e)))) (lists-classes one (only ∷ []) (one-lists one v))

  -- it may be pushed where there is room
  pub push-asks : one.used < 256 → Coded one × ((0 < one.count) × (one.used < 256))
  push-asks l = (v.coded, (omega (arith, v.single), l))

  module _ (r : Group) (q : r ≡ encode one.limit (merged_at (decode one) (one.count - 1) (missing (class_at (decode one) (one.count - 1)) (single ns e)))) where
    pub push-is : r ≡ encode 256 (pushed ns only e ∷ [])
    push-is = pushed-is (one.count - 1) (omega (arith, v.single)) r q

    pub push-lists : one.used < 256 → Lists r (pushed ns only e ∷ [])
    unfolding total
    push-lists l = record {
      is = push-is;
      room = fits_both 256 (pushed ns only e ∷ []) (omega (arith, pushed-length ns only e, without-length only.members (e ∷ []), one-used one v)) (omega arith);
    }

  module _ (b : Bool) (t : b ≡ among e only.members) where
    -- the class has it: it gives its constant
    pub held-lists : b ≡ true → (m : Constant) (r : Group) → m ≡ carried (node_at ns e) → r ≡ encode one.limit (constant_at (decode one) 0 m) → Lists r (pushed ns only e ∷ [])
    unfolding total
    held-lists h m r p q = record {
      is = pushed-is 0 refl r (push-held ns one 0 e b t h m r p q);
      room = fits_both 256 (pushed ns only e ∷ [])
          (omega (arith, pushed-length ns only e, ap (λ (l : List ℕ). length l) (without-held only.members e (sym t ∙ h)), one-used one v, v.coded.small)) (omega arith);
    }

    -- there is no room for it
    pub new-over : b ≡ false → 256 ≤ one.used → ◌≡◌ {A = Grouped} (Err GroupFull) (listed (pushed ns only e ∷ []))
    unfolding total
    new-over h l =
        listed-over (pushed ns only e ∷ [])
        (fits-full 256 (pushed ns only e ∷ []) (omega (arith, pushed-length ns only e, ap (λ (l : List ℕ). length l) (without-new only.members e (sym t ∙ h)), one-used one v)))

-- ---- expressions pushed in parts, with the answer of each part

-- ts are pushed to the class c, then us to what that came to
module _ (ns : List Node) (c : Class) (ts us : List ℕ) (one : Group) (o : Lists one (pushed_all ns c ts ∷ [])) (s : Grouped) (q : s ≡ listed (pushed_all ns (class_at (decode one) 0) us ∷ [])) where
  both : s ≡ listed (pushed_all ns c (ts ++ us) ∷ [])
  both =
      q ∙ ap (λ (cs : List Class). listed (pushed_all ns (class_at cs 0) us ∷ [])) (lists-classes one (pushed_all ns c ts ∷ []) o)
      ∙ ap (λ (d : Class). listed (d ∷ [])) (sym (pushed-append ns c ts us))

  -- they fit
  pub part-lists : (h : Group) → s ≡ Ok h → Lists h (pushed_all ns c (ts ++ us) ∷ [])
  part-lists = answer-lists s (pushed_all ns c (ts ++ us) ∷ []) both

  -- they don't, nor do they with more after them
  pub part-over : (why : Refusal) → s ≡ Err why → (ws : List ℕ) → fits 256 (pushed_all ns c (ts ++ us ++ ws) ∷ []) ≡ false
  part-over why n ws =
      ap (λ (d : Class). fits 256 (d ∷ [])) (pushed-append ns c (ts ++ us) ws)
      ∙ pushed-over ns (pushed_all ns c (ts ++ us)) ws (answer-over s (pushed_all ns c (ts ++ us) ∷ []) both why n)

-- Constants on the struct: two of them compared, the first class with an equal one, and what a call with a constant comes to.
use Prim.Native.Nat.{ℕ, ◌+◌, ◌<◌, ◌≤◌}
use mathlib.Core.Bool.{Bool, true, false, ◌&&◌}
use mathlib.Core.List.{List, [], ◌∷◌, ◌++◌}
use Rattle.std.specs.Prelude.{Option, None, Some, Ok, Err}
use mathlib.Core.Path.{◌≡◌, refl, sym, ap, ◌∙◌}
use native.Mathlib.Omega.{arith}
use borrow.Author.Tests.{le-leb, lt-leb}
use lib.Dec.{eqb, leb}
use lib.ListN.{length, set, length-set}
use Rattle.laws.specs.Tests.{first}
use Rattle.laws.proofs.Booleans.{and_both, and_fails_left, and_fails_right}
use Rattle.laws.proofs.First.{first_some}
use Rattle.arena.specs.declared.Refusal.TheVariants.{GroupFull}
use Rattle.arena.specs.Refusals.{refusal}
use Rattle.arena.specs.Node.{Node, node_at}
use Rattle.classes.specs.declared.Constant.{Constant}
use Rattle.classes.specs.declared.Constant.TheVariants.{NoConstant as no_constant, Heterogeneous as heterogeneous, Unknown as unknown, Known as known}
use Rattle.classes.specs.Class.{Class, is_uniform, taken, carried, same_constant}
use Rattle.classes.specs.Group.{class_at, class_of, total, merged_at, given, constant_at, class_like, constant_for, constant_in, with_constant}
use Rattle.classes.specs.Steps.{fits, judged}
use Rattle.classes.specs.Layout.{flavour_of, value_of, encode, decode}
use Rattle.classes.specs.Calls.{changed, answer_of}
use Rattle.classes.specs.Inner.{Coded}
use Rattle.classes.specs.declared.Group.{Group}
use Rattle.classes.specs.declared.Changed.{Changed}
use Rattle.classes.proofs.Places.{total-same, length-merged_at, total-merged_at, length_more, total-more}
use Rattle.classes.proofs.Codec.{length-decode, used-is}
use Rattle.classes.proofs.OneClass.{alone}
use Rattle.classes.proofs.Judging as judging

-- two constants are equal where their flavours and their values are
same-constants : (c d : Constant) → same_constant true c d ≡ (eqb (flavour_of c) (flavour_of d) && eqb (value_of c) (value_of d))
unfolding same_constant flavour_of value_of
same-constants no_constant no_constant = refl
same-constants no_constant heterogeneous = refl
same-constants no_constant unknown = refl
same-constants no_constant (known w) = refl
same-constants heterogeneous no_constant = refl
same-constants heterogeneous heterogeneous = refl
same-constants heterogeneous unknown = refl
same-constants heterogeneous (known w) = refl
same-constants unknown no_constant = refl
same-constants unknown heterogeneous = refl
same-constants unknown unknown = refl
same-constants unknown (known w) = refl
same-constants (known v) no_constant = refl
same-constants (known v) heterogeneous = refl
same-constants (known v) unknown = refl
same-constants (known v) (known w) = refl

-- class i has an equal constant
abbrev pub Like : Group → Constant → ℕ → Bool
Like g c i = same_constant true (class_at (decode g) i).constant c

module _ (g : Group) (c : Constant) where
  -- none is looked for where it is not uniform
  pub like-none : is_uniform c ≡ false → class_like true (decode g) c ≡ None
  unfolding class_like
  like-none l = rw l

  -- else it is the first class that has an equal one
  pub like-first : is_uniform c ≡ true → class_like true (decode g) c ≡ first (Like g c) g.count
  unfolding class_like
  like-first l = rw (l, length-decode g)

-- the class that was found is one
pub like-below : (g : Group) (c : Constant) (i : ℕ) → class_like true (decode g) c ≡ Some i → i < g.count
unfolding class_like
like-below g c i e = at (is_uniform c) refl
  where
    at : (b : Bool) → is_uniform c ≡ b → i < g.count
    at true q = omega (arith, (first_some (Like g c) (length (decode g)) i (rw q at e)).below, length-decode g)
    at false q = absurd (let r = rw q at e in let z : ◌≡◌ {A = ℕ} 0 1 = cc in omega arith)

-- the limits after a step
module _ (limit : ℕ) (cs : List Class) where
  pub fits-full : limit < total cs → fits limit cs ≡ false
  unfolding fits
  fits-full l = and_fails_left (leb (total cs) limit) (leb (length cs) 64) (lt-leb (total cs) limit l)

  pub fits-many : 64 < length cs → fits limit cs ≡ false
  unfolding fits
  fits-many l = and_fails_right (leb (total cs) limit) (leb (length cs) 64) (lt-leb (length cs) 64 l)

  pub fits_both : total cs ≤ limit → length cs ≤ 64 → fits limit cs ≡ true
  unfolding fits
  fits_both a b = and_both (le-leb (total cs) limit a) (le-leb (length cs) 64 b)

-- what is handed back
module _ (g : Group) (v : Coded g) where
  -- where the step does not fit
  pub refusal_is : (r : Changed) (b : Bool) (cs : List Class) → (r.answer ≡ Err GroupFull) × (r.group ≡ g) → fits g.limit cs ≡ false
      → r ≡ changed g.limit (judged g.limit (decode g) (b, cs))
  unfolding judged refusal
  refusal_is r b cs p f = rw f (judging.refusal_is r GroupFull g p ∙ sym (judging.handed_back_lem g 4 refl v))

  -- where it fits
  pub accepted-is : (b : Bool) (cs : List Class) (h : Group) → fits g.limit cs ≡ true → h ≡ encode g.limit cs
      → ◌≡◌ {A = Changed} (record { answer = Ok b; group = h }) (changed g.limit (judged g.limit (decode g) (b, cs)))
  unfolding changed judged answer_of
  accepted-is b cs h f p = rw f (λ i. record { answer = Ok b; group = p i })

-- an expression is pushed to class i
module _ (g : Group) (v : Coded g) (i : ℕ) (l : i < g.count) (e : ℕ) (c : Constant) where
  pushed : total (merged_at (decode g) i (alone e c)) ≡ g.used + 1
  pushed = omega (arith, total-merged_at (decode g) i (alone e c) (omega (arith, length-decode g)), used-is g v)

  pub push-full : g.limit ≤ g.used → fits g.limit (merged_at (decode g) i (alone e c)) ≡ false
  push-full h = fits-full g.limit (merged_at (decode g) i (alone e c)) (omega (arith, pushed))

  pub push-room : g.used < g.limit → fits g.limit (merged_at (decode g) i (alone e c)) ≡ true
  push-room h =
      fits_both g.limit (merged_at (decode g) i (alone e c)) (omega (arith, pushed))
      (omega (arith, length-merged_at (decode g) i (alone e c), length-decode g, v.few))

-- a new class at the end
module _ (g : Group) (v : Coded g) (c : Class) where
  pub more-total : total (decode g ++ (c ∷ [])) ≡ g.used + length c.members
  more-total = omega (arith, total-more (decode g) c, used-is g v)

  pub more-count : length (decode g ++ (c ∷ [])) ≡ g.count + 1
  more-count = omega (arith, length_more (decode g) c, length-decode g)

  pub more-many : 64 ≤ g.count → fits g.limit (decode g ++ (c ∷ [])) ≡ false
  more-many h = fits-many g.limit (decode g ++ (c ∷ [])) (omega (arith, more-count))

  pub more-full : g.limit < g.used + length c.members → fits g.limit (decode g ++ (c ∷ [])) ≡ false
  more-full h = fits-full g.limit (decode g ++ (c ∷ [])) (omega (arith, more-total))

  pub more_room : g.count < 64 → g.used + length c.members ≤ g.limit → fits g.limit (decode g ++ (c ∷ [])) ≡ true
  more_room a b = fits_both g.limit (decode g ++ (c ∷ [])) (omega (arith, more-total)) (omega (arith, more-count))

-- one of one member
module _ (g : Group) (v : Coded g) (e : ℕ) (c : Constant) where
  pub open-many : 64 ≤ g.count → fits g.limit (decode g ++ (alone e c ∷ [])) ≡ false
  open-many h = more-many g v (alone e c) h

  pub open_full : g.limit ≤ g.used → fits g.limit (decode g ++ (alone e c ∷ [])) ≡ false
  open_full h = more-full g v (alone e c) (omega arith)

  pub open-room : g.count < 64 → g.used < g.limit → fits g.limit (decode g ++ (alone e c ∷ [])) ≡ true
  open-room a b = more_room g v (alone e c) a (omega arith)

-- a constant over that of class i changes no number
pub constant-fits : (g : Group) (v : Coded g) (i : ℕ) (c : Constant) → i < g.count → g.used ≤ g.limit → fits g.limit (constant_at (decode g) i c) ≡ true
unfolding constant_at
constant-fits g v i c l b =
    let d : Class = record { members = (class_at (decode g) i).members; constant = taken (class_at (decode g) i).constant c } in
    fits_both g.limit (set (decode g) i d)
    (omega (arith, total-same (decode g) i (taken (class_at (decode g) i).constant c), used-is g v))
    (omega (arith, length-set (decode g) i d, length-decode g, v.few))

-- the constant that a call gives
pub given-is : (ns : List Node) (e : ℕ) (c m t : Constant) → m ≡ carried (node_at ns e) → t ≡ taken m c → t ≡ given ns e c
unfolding given
given-is ns e c m t p q = q ∙ ap (λ (x : Constant). taken x c) p

-- a call with a constant, by the class that was found
module _ (cs : List Class) (e : ℕ) (c : Constant) where
  pub for_some : (i : ℕ) (o : Option ℕ) → o ≡ Some i → constant_for cs e c o ≡ merged_at cs i (alone e no_constant)
  unfolding constant_for
  for_some i o p = rw p

  pub for_none : (o : Option ℕ) → o ≡ None → constant_for cs e c o ≡ cs ++ (alone e c ∷ [])
  unfolding constant_for
  for_none o p = rw p

  module _ (ns : List Node) (s : Constant) (q : c ≡ given ns e s) where
    pub with-some : (i : ℕ) → class_of cs e ≡ Some i → with_constant true ns cs e s ≡ constant_at cs i c
    unfolding with_constant constant_in
    with-some i p = rw (p, q)

    pub with_none : class_of cs e ≡ None → with_constant true ns cs e s ≡ constant_for cs e c (class_like true cs c)
    unfolding with_constant constant_in
    with_none p = rw (p, q)

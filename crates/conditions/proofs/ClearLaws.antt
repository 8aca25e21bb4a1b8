-- Clearing on the struct: which turn a class takes, and what each turn leaves.
use Rattle.std.specs.Prelude.{Ok}
use Prim.Native.Nat.{ℕ, ◌+◌, ◌-◌, ◌<◌, ◌≤◌}
use mathlib.Core.Bool.{Bool, true, false}
use mathlib.Core.List.{List, map}
use mathlib.Core.Path.{◌≡◌, refl, sym, ap, ◌∙◌}
use native.Mathlib.Omega.{arith}
use borrow.Author.Tests.{eq-eqb, ne_eqb}
use lib.ListN.{length, get_or, set}
use lib.Seq.{map-set_same}
use Rattle.classes.specs.declared.Constant.{Constant}
use Rattle.classes.specs.declared.Constant.TheVariants.{NoConstant as no_constant, Heterogeneous as heterogeneous, Unknown as unknown, Known as known}
use Rattle.classes.specs.Class.{Class}
use Rattle.classes.specs.Group.{class_at, removed, length_removed, kept, dropped, gone, cleared_by, clear_rest, clear_end, clear_kept, clear-dropped, clear-gone, cleared}
use Rattle.classes.specs.Layout.{flavour_of, value_of, padded, encode, decode}
use Rattle.classes.specs.Calls.{changed, answer_of}
use Rattle.classes.specs.Inner.{Coded}
use Rattle.classes.specs.declared.Group.{Group}
use Rattle.classes.specs.declared.Changed.{Changed}
use Rattle.classes.proofs.Places.{nothing, total-removed}
use Rattle.classes.proofs.Codec.{flavour_in, value_in, built-count, built-limit, built-classes, built-coded, length-decode, used-is, flavours-is, values-is, size_is, flavour-is}
use Rattle.classes.proofs.Rebuilding.{column-set, count-put, used-put, constant-put}
use Rattle.conditions.specs.Steps.{clear}

-- only a heterogeneous constant has flavour 1
flavour-one : (k : Constant) → flavour_of k ≡ 1 → k ≡ heterogeneous
unfolding flavour_of
flavour-one no_constant e = absurd (omega arith)
flavour-one heterogeneous e = refl
flavour-one unknown e = absurd (omega arith)
flavour-one (known v) e = absurd (omega arith)

-- the turn of a class by its flavour and its size
turn-kept : (c : Class) → (flavour_of c.constant ≡ 1 → ⊥) → cleared_by c ≡ kept
unfolding cleared_by flavour_of
turn-kept c n = go c.constant refl
  where
    go : (k : Constant) → c.constant ≡ k → cleared_by c ≡ kept
    go no_constant q = rw q
    go heterogeneous q = absurd (n (ap flavour_of q))
    go unknown q = rw q
    go (known v) q = rw q

turn-gone : (c : Class) → c.constant ≡ heterogeneous → length c.members ≡ 1 → cleared_by c ≡ gone
unfolding cleared_by
turn-gone c e l = rw (e, eq-eqb (length c.members) 1 l)

turn-dropped : (c : Class) → c.constant ≡ heterogeneous → (length c.members ≡ 1 → ⊥) → cleared_by c ≡ dropped
unfolding cleared_by
turn-dropped c e l = rw (e, ne_eqb (length c.members) 1 l)

-- what a step at place i is asked for: the group stays one with its limit, the rest is shorter, and clearing goes on from there
abbrev pub Stepped : Group → ℕ → Bool → Group → ℕ → Bool → Type 0
Stepped g i b h n d =
    ((Coded h × (h.limit ≡ g.limit)) × ((n ≤ h.count) × (h.count - n < g.count - i)))
    × (clear_rest i b (decode g) ≡ clear_rest n d (decode h))

module _ (g : Group) (v : Coded g) (i : ℕ) (l : i < g.count) (b : Bool) where
  abbrev here : Class
  here = class_at (decode g) i

  inside : i < length (decode g)
  inside = omega (arith, length-decode g)

  -- a class of another flavour is passed
  pub step_kept : (get_or g.flavours i 0 ≡ 1 → ⊥) → Stepped g i b g (i + 1) b
  step_kept n = (
    ((v, refl), (omega arith, omega arith)),
    clear_kept i b (decode g) inside (turn-kept here (λ z. n (flavour-is g v i ∙ z))),
  )

  module _ (one : get_or g.flavours i 0 ≡ 1) where
    varied : (class_at (decode g) i).constant ≡ heterogeneous
    varied = flavour-one (class_at (decode g) i).constant (sym (flavour-is g v i) ∙ one)

    -- a heterogeneous class of one member goes
    module _ (size : get_or g.sizes i 0 ≡ 1) (h : Group) (p : h ≡ encode g.limit (removed (decode g) i)) where
      abbrev rest : List Class
      rest = removed (decode g) i

      count-gone : h.count ≡ g.count - 1
      count-gone = omega (arith, built-count g.limit rest h p, length_removed (decode g) i, length-decode g)

      coded-gone : Coded h
      coded-gone =
          built-coded g.limit rest h p (omega (arith, length_removed (decode g) i, length-decode g, v.few))
          (omega (arith, total-removed (decode g) i inside, used-is g v, v.small))

      pub step_gone : Stepped g i b h i true
      step_gone = (
        ((coded-gone, built-limit g.limit rest h p), (omega (arith, count-gone), omega (arith, count-gone))),
        clear-gone i b (decode g) inside (turn-gone here varied (sym (size_is g v i) ∙ size))
            ∙ ap (λ (cs : List Class). clear_rest i true cs) (sym (built-classes g.limit rest h p)),
      )

    -- a larger one loses its constant
    abbrev bare : Class
    bare = record { members = (class_at (decode g) i).members; constant = no_constant }

    abbrev lost : List Class
    lost = set (decode g) i (record { members = (class_at (decode g) i).members; constant = no_constant })

    flavours-lost : set g.flavours i 0 ≡ padded 64 (map flavour_in lost)
    unfolding flavour_of
    flavours-lost = column-set flavour_in (decode g) i bare g.flavours 0 (flavours-is g v) refl inside

    values-lost : g.values ≡ padded 64 (map value_in lost)
    unfolding value_of
    values-lost =
        values-is g v ∙ ap (padded 64) (sym (map-set_same value_in (decode g) i bare nothing (sym (ap value_of varied))))

    module _ (more : get_or g.sizes i 0 ≡ 1 → ⊥) (h : Group) (p : h ≡ encode g.limit lost) where
      count-dropped : h.count ≡ g.count
      count-dropped = built-count g.limit lost h p ∙ sym (count-put g v i no_constant)

      coded-dropped : Coded h
      coded-dropped = built-coded g.limit lost h p (omega (arith, count-put g v i no_constant, v.few)) (omega (arith, used-put g v i no_constant, v.small))

      step-lost : Stepped g i b h (i + 1) true
      step-lost = (
        ((coded-dropped, built-limit g.limit lost h p), (omega (arith, count-dropped), omega (arith, count-dropped))),
        clear-dropped i b (decode g) inside (turn-dropped here varied (λ z. more (size_is g v i ∙ z)))
            ∙ ap (λ (cs : List Class). clear_rest (i + 1) true cs) (sym (built-classes g.limit lost h p)),
      )

    pub step-dropped : (get_or g.sizes i 0 ≡ 1 → ⊥)
        → Stepped g i b (record { limit = g.limit; count = g.count; used = g.used; sizes = g.sizes; flavours = set g.flavours i 0; values = g.values; members = g.members }) (i + 1) true
    step-dropped more = step-lost more _ (constant-put g v i no_constant (set g.flavours i 0) g.values flavours-lost values-lost)

-- clearing begins at the first class
pub clear-begins : (g : Group) → cleared (decode g) ≡ clear_rest 0 false (decode g)
unfolding cleared
clear-begins g = refl

-- and ends after the last
pub clear-ends : (g h : Group) (i : ℕ) (b : Bool) → Coded h → h.limit ≡ g.limit → h.count ≤ i → cleared (decode g) ≡ clear_rest i b (decode h)
    → ◌≡◌ {A = Changed} (record { answer = Ok b; group = h }) (changed g.limit (clear (decode g)))
unfolding changed clear answer_of
clear-ends g h i b v e l p =
    let q : cleared (decode g) ≡ (b, decode h) = p ∙ clear_end i b (decode h) (omega (arith, length-decode h)) in
    rw (q, ← e) (λ t. record { answer = Ok b; group = sym v.coded t })
